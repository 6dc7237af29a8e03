use Rattle.std.proofs.Common.{rules}
use Rattle.std.proofs.lemmas.List.Sorted.{answers_always}
use Rattle.band_areas.specs.Cuts.{top_place}
use Rattle.band_areas.proofs.Sorting.{ascend_sorted}
use Rattle.band_areas.proofs.cuts.sort_from_left.Goals as goal

pub returns-clause-ascend : goal.returns-clause-ascend
returns-clause-ascend c = ascend_sorted _ (c.sort_unstable_by_key.ensures.sorted top_place (answers_always _ _ _ (λ f a r g h. search rules)))
