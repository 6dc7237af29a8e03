use Rattle.std.proofs.Common.{◌≡◌, Err, ap}
use Rattle.oas_shapes.specs.declared.drawing.Undrawn.TheVariants.{NoMemory as Wanting}
use Rattle.oas_shapes.proofs.drawing.repeated.Goals as goal

pub returns-in-Err-Unkept-clause-memory : goal.returns-in-Err-Unkept-clause-memory
returns-in-Err-Unkept-clause-memory c = λ short e rule.
    let known = c.in-Err-Unkept.ensures.unkept (ap Err c.in-Err-Unkept.field-0-is) in
    let wanting : c.rule_of_unkept.result ≡ Wanting = cc in
    record { near = λ one. known.0; edges = λ other. c.rule_of_unkept.ensures.memory wanting; dimension = λ eleven. known.1 }

pub returns-in-Err-NoMemory-clause-memory : goal.returns-in-Err-NoMemory-clause-memory
returns-in-Err-NoMemory-clause-memory c = λ short e. absurd (c.in-Err-NoMemory.ensures.few short (ap Err c.in-Err-NoMemory.field-0-is))
