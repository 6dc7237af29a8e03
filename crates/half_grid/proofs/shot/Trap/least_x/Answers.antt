use Rattle.std.proofs.Common.{arith}
use Rattle.std.proofs.lemmas.Int.{ints, clamps}
use Rattle.half_grid.proofs.shot.Trap.least_x.Goals as goal

pub returns-clause-reach : goal.returns-clause-reach
returns-clause-reach c = record { low = omega (arith, ints, clamps); high = omega (arith, ints, clamps) }
