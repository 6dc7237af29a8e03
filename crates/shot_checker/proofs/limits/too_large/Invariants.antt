use Rattle.std.proofs.Common.{◌≡◌, ℕ, ◌<◌, Some, slice_get}
use Rattle.half_grid.specs.Trapezoids.{Trapezoid}
use Rattle.shot_checker.specs.Verdicts.{Fits}
use Rattle.shot_checker.proofs.limits.too_large.Given as goal

abbrev pub invariant-loop-k : goal.invariant-loop-k
invariant-loop-k l = (i : ℕ) (z : Trapezoid) → i < l.k → slice_get l.shots i ≡ Some z → Fits l.limits z
