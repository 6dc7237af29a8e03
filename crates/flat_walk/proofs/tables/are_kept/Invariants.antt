use Rattle.std.proofs.Common.{All, take}
use Rattle.half_grid.specs.Trapezoids.{IsShot}
use Rattle.flat_walk.proofs.tables.are_kept.Given as goal

abbrev pub invariant-loop-trap : goal.invariant-loop-trap
invariant-loop-trap l = All IsShot (take l.trap-index l.traps)
