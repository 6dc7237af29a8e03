use Rattle.std.proofs.Common.{length}
use Rattle.column_sweep.specs.Sewing.{AreSewn, HaveSameTiles}
use Rattle.column_sweep.proofs.seams.joined_seams.Given as goal

abbrev pub invariant-loop-sewn : goal.invariant-loop-sewn
invariant-loop-sewn l = record {
  sewn : AreSewn l.window l.sewn.finals.items l.sewn.seams.items;
  same : HaveSameTiles l.sewn.finals.items l.sewn.seams.items l.fn.sewn.finals.items l.fn.sewn.seams.items;
}

abbrev pub decreases-loop-sewn : goal.decreases-loop-sewn
decreases-loop-sewn l = length l.cuts.items
