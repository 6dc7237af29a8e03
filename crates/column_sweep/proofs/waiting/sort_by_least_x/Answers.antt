use Rattle.std.proofs.Common.{rules}
use Rattle.std.proofs.lemmas.List.Sorted.{answers_always}
use Rattle.column_sweep.specs.Waiting.{least_x}
use Rattle.column_sweep.proofs.Awaiting.{ascend_sorted}
use Rattle.column_sweep.proofs.waiting.sort_by_least_x.Goals as goal

pub returns-clause-ascend : goal.returns-clause-ascend
returns-clause-ascend c = ascend_sorted _ (c.sort_unstable_by_key.ensures.sorted least_x (answers_always _ _ _ (λ f a r g h. search rules)))
