use Rattle.std.proofs.Common.{length}
use Rattle.plane_sweep.proofs.BundleLemmas.{HasSome}
use Rattle.plane_sweep.proofs.bundle.bundle_of.Given as goal

abbrev pub invariant-loop-line : goal.invariant-loop-line
invariant-loop-line l = HasSome l.fn.below l.fn.lines l.left l.bundle l.windings

abbrev pub decreases-loop-line : goal.decreases-loop-line
decreases-loop-line l = length l.left
