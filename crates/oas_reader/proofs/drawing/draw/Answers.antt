use Rattle.std.proofs.Common.{◌≡◌, Err, ap}
use Rattle.geo_stream.specs.declared.refusal.Refusal.TheVariants.{NoMemory}
use Rattle.oas_reader.proofs.WantedLemmas.{wanted_keeps, wanted_lowest, refused_by, wanting_by}
use Rattle.oas_reader.proofs.drawing.draw.Goals as goal

pub returns-in-Ok : goal.returns-in-Ok
returns-in-Ok c = record {
  shapes = c.in-Ok.ensures.shapes;
  grid = c.in-Ok.ensures.grid;
  kept = λ rule. wanted_keeps c.args.outline.body c.args.fields.now _ rule c.in_default.not-Undrawn (c.in-Ok.ensures.kept rule);
  broken = tt;
  memory = λ few short e. absurd (cc);
}

pub returns-in-Err : goal.returns-in-Err
returns-in-Err c = record {
  shapes = tt;
  grid = λ before. tt;
  kept = tt;
  broken =
      refused_by _ c.args.at c.in-Err.undrawn _ c.bad_at.ensures
      (λ rule e. wanted_lowest c.args.outline.body c.args.fields.now _ rule c.in_default.not-Undrawn (c.in-Err.ensures.broken rule (ap Err e)));
  memory = λ few short e rule.
      let bad : c.bad_at.result ≡ NoMemory = cc in
      let wanting = wanting_by c.args.at c.in-Err.undrawn c.bad_at.result c.bad_at.ensures bad in
      wanted_keeps c.args.outline.body c.args.fields.now _ rule c.in_default.not-Undrawn (c.in-Err.ensures.memory few short (ap Err wanting) rule);
}
