use Rattle.std.proofs.Common.{rules}
use Rattle.std.proofs.lemmas.List.Sorted.{answers_always}
use Rattle.column_sweep.specs.Standings.{standing_of}
use Rattle.column_sweep.proofs.Ordering.{stand_sorted}
use Rattle.column_sweep.proofs.seams.put_in_order.Goals as goal

pub returns-clause-sorted : goal.returns-clause-sorted
returns-clause-sorted c = stand_sorted _ (c.in_ok-sort_by_key.ensures.sorted standing_of (answers_always _ _ _ (λ f a r g h. search rules)))
