use Rattle.std.proofs.Common.{subst, sym}
use Rattle.std.specs.Prelude.{option_copied}
use Rattle.oas_shapes.specs.Rules.{IsLowest}
use Rattle.oas_reader.specs.Placed.{KeepsOffsetsIn}
use Rattle.oas_reader.proofs.PlacedLemmas.{kept_some, lowest_some}
use Rattle.oas_reader.proofs.placing.offsets_in.Goals as goal

pub returns-in-Ok-clause-kept : goal.returns-in-Ok-clause-kept
returns-in-Ok-clause-kept c = λ rule.
    subst (λ r. KeepsOffsetsIn (option_copied r) rule) (sym c.in-Some.is) (kept_some c.in-Some.repetition.now rule (c.in-Ok.ensures.kept rule))

pub returns-in-Err-clause-broken : goal.returns-in-Err-clause-broken
returns-in-Err-clause-broken c = λ rule e.
    subst (λ r. IsLowest (KeepsOffsetsIn (option_copied r)) rule) (sym c.in-Some.is)
    (lowest_some c.in-Some.repetition.now rule (c.offsets_of.ensures.broken rule (let is = c.in-Err.is in cc)))
