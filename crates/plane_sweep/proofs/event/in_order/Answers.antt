use Rattle.std.proofs.Common.{rules}
use Rattle.std.proofs.lemmas.List.Sorted.{answers_always}
use Rattle.plane_sweep.specs.PackedSpots.{spot_of}
use Rattle.plane_sweep.proofs.PackedLemmas.{ascend_sorted}
use Rattle.plane_sweep.proofs.event.in_order.Goals as goal

pub returns-clause-ascend : goal.returns-clause-ascend
returns-clause-ascend c = ascend_sorted _ (c.sort_unstable_by_key.ensures.sorted spot_of (answers_always _ _ _ (λ f a r g h. search rules)))
