use Rattle.std.proofs.Common.{subst}
use Rattle.band_areas.specs.Parts.{IsPart, AreParts}
use Rattle.band_areas.proofs.RowLemmas.{all_first, the_last}
use Rattle.band_areas.proofs.parts.taken.Goals as goal

pub loop-part-init : goal.loop-part-init
loop-part-init c = λ p k h. h

pub returns-then-has_rows-clause-kept : goal.returns-then-has_rows-clause-kept
returns-then-has_rows-clause-kept c = λ p k h. all_first (IsPart p k) _ _ (subst (AreParts p k) c.in-Some.ensures.items (c.loop-part.invariant p k h))

pub returns-then-has_rows-clause-part : goal.returns-then-has_rows-clause-part
returns-then-has_rows-clause-part c = λ p k h. the_last (IsPart p k) _ _ (subst (AreParts p k) c.in-Some.ensures.items (c.loop-part.invariant p k h))

pub loop-part-preserved : goal.loop-part-preserved
loop-part-preserved c = λ p k h. all_first (IsPart p k) _ _ (subst (AreParts p k) c.in-Some.ensures.items (c.loop-part.invariant p k h))
