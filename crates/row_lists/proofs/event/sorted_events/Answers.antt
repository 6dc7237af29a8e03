use Rattle.std.proofs.Common.{rules}
use Rattle.std.proofs.lemmas.List.Sorted.{answers_always}
use Rattle.row_lists.specs.Events.{spot_of}
use Rattle.row_lists.proofs.EventLemmas.{ascend_sorted}
use Rattle.row_lists.proofs.event.sorted_events.Goals as goal

pub returns-clause-ascend : goal.returns-clause-ascend
returns-clause-ascend c = ascend_sorted _ (c.sort_unstable_by_key.ensures.sorted spot_of (answers_always _ _ _ (λ f a r g h. search rules)))
