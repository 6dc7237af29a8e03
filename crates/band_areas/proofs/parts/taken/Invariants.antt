use Rattle.std.proofs.Common.{ℕ}
use Rattle.deck_plan.specs.Plans.{Planned}
use Rattle.band_areas.specs.Parts.{AreParts}
use Rattle.band_areas.proofs.parts.taken.Given as goal

abbrev pub invariant-loop-part : goal.invariant-loop-part
invariant-loop-part l = (p : Planned) (k : ℕ) → AreParts p k l.fn.parts.items → AreParts p k l.parts.items

abbrev pub decreases-loop-part : goal.decreases-loop-part
decreases-loop-part l = goal.left-loop-part l
