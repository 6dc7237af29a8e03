use Rattle.std.proofs.Common.{arith}
use Rattle.std.proofs.lemmas.Int.{to_z-of_z}
use Rattle.half_grid.specs.Tiles.{strips_of}
use Rattle.half_grid.proofs.rows.strips.Goals as goal

pub returns : goal.returns
unfolding strips_of
returns c = grind (arith, to_z-of_z)
