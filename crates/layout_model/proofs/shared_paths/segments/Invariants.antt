use Rattle.std.proofs.Common.{drop}
use Rattle.layout_model.proofs.WalkLemmas.{walk_list}
use Rattle.layout_model.proofs.SegmentListLemmas.{Passed, no_lengths}
use Rattle.layout_model.proofs.shared_paths.segments.Given as goal

abbrev pub invariant-loop-point : goal.invariant-loop-point
invariant-loop-point l = Passed no_lengths (walk_list no_lengths l.initial.walk l.rest) l.segments.items l.walk (drop l.point-index l.rest)
