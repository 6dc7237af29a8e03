use Rattle.std.proofs.Common.{◌≤◌, length}
use Rattle.layout_model.specs.ShapeLists.{AreKept}
use Rattle.layout_model.proofs.shape_lists.note_all.Given as goal

abbrev pub invariant-loop-k : goal.invariant-loop-k
invariant-loop-k l = record {
  within : l.k ≤ length l.runs;
  kept : AreKept l.fn.runs l.runs;
}

abbrev pub decreases-loop-k : goal.decreases-loop-k
decreases-loop-k l = l.k
