use Rattle.std.proofs.Common.{◌≡◌, take}
use Rattle.deck_plan.specs.Stacks.{lengthened}
use Rattle.band_areas.specs.Growing.{going_on}
use Rattle.band_areas.proofs.GrowingLemmas.{changed_up_to}
use Rattle.band_areas.proofs.stacks.lengthen.Given as goal

-- the first so many are lengthened
abbrev pub invariant-loop-n : goal.invariant-loop-n
invariant-loop-n l = record {
  list : l.strip.items ≡ changed_up_to (lengthened l.fn.growing) l.n l.fn.strip.items;
  marks : l.marks ≡ going_on l.fn.growing (take l.n l.fn.strip.items);
}
