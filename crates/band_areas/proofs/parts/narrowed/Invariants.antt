use Rattle.std.proofs.Common.{ℕ}
use Rattle.std.specs.Int.{int_gap}
use Rattle.deck_plan.specs.Plans.{Planned}
use Rattle.band_areas.specs.Parts.{IsSoundPart, IsPart, AreParts, IsWithin}
use Rattle.band_areas.proofs.parts.narrowed.Given as goal

abbrev pub invariant-loop-band : goal.invariant-loop-band
invariant-loop-band l = record {
  sound : IsSoundPart l.part;
  within : IsWithin l.band l.part.rows;
  part : (p : Planned) (k : ℕ) → IsPart p k l.fn.part → IsPart p k l.part;
  kept : (p : Planned) (k : ℕ) → IsPart p k l.fn.part → AreParts p k l.fn.parts.items → AreParts p k l.parts.items;
}

abbrev pub decreases-loop-band : goal.decreases-loop-band
decreases-loop-band l = int_gap l.band.y1 l.part.rows.y1
