use Rattle.std.proofs.Common.{◌≡◌, Err, ap, subst, arith}
use Rattle.oas_shapes.specs.declared.drawing.Undrawn.TheVariants.{NoMemory as Wanting}
use Rattle.oas_shapes.specs.Rules.{AreNear}
use Rattle.oas_shapes.proofs.NearLemmas.{offsets_near}
use Rattle.oas_shapes.proofs.paths.repeated.Goals as goal

pub returns-in-Ok-clause-broken : goal.returns-in-Ok-clause-broken
returns-in-Ok-clause-broken c = λ rule e.
    let told = c.drawn.ensures.broken rule e in
    let eight = told.0 in
    record {
      broken = λ keeps. told.1 (keeps.drawn eight);
      lower = λ other less. record {
        near = λ one. subst AreNear c.in-Ok.ensures.offsets (offsets_near _ c.in-Ok.ensures.grid);
        drawn = λ same. absurd (omega (arith, eight, same, less));
        dimension = λ eleven. c.in-Ok.ensures.allowed;
      };
    }

pub returns-in-Ok-clause-memory : goal.returns-in-Ok-clause-memory
returns-in-Ok-clause-memory c = λ short e rule. record {
  near = λ one. subst AreNear c.in-Ok.ensures.offsets (offsets_near _ c.in-Ok.ensures.grid);
  drawn = λ eight. c.drawn.ensures.memory e;
  dimension = λ eleven. c.in-Ok.ensures.allowed;
}

pub returns-in-Err-Unkept-clause-memory : goal.returns-in-Err-Unkept-clause-memory
returns-in-Err-Unkept-clause-memory c = λ short e rule.
    let known = c.in-Err-Unkept.ensures.unkept (ap Err c.in-Err-Unkept.field-0-is) in
    let wanting : c.rule_of_unkept.result ≡ Wanting = cc in
    record { near = λ one. known.0; drawn = λ other. c.rule_of_unkept.ensures.memory wanting; dimension = λ eleven. known.1 }

pub returns-in-Err-NoMemory-clause-memory : goal.returns-in-Err-NoMemory-clause-memory
returns-in-Err-NoMemory-clause-memory c = λ short e. absurd (c.in-Err-NoMemory.ensures.few short (ap Err c.in-Err-NoMemory.field-0-is))
