-- Lists of the mirror images of the trapezoids of joined lists.
use Rattle.std.specs.Prelude.{◌≡◌, ◌<ℤ◌, ◌++◌, ℤ, List, Contains}
use Rattle.half_grid.specs.JoinedLists.{StandInOrder}
use Rattle.half_grid.specs.Trapezoids.{Trapezoid, count_in}
use Rattle.half_grid.specs.declared.plane.Tile.{Tile}
use Rattle.tone_mirror.specs.Mirrors.{mirrored_tile, mirrored_trapezoid}

abbrev pub HasTop : ℤ → Trapezoid → Type 0
HasTop top z = z.y1 ≡ top

-- the images of the list's trapezoids, and no others, in the order of joined lists
pub record AreImages (m : ℤ) (traps images : List Trapezoid) : Type 0 where
  pub order : StandInOrder images
  pub count : (t : Tile) → count_in images t ≡ count_in traps (mirrored_tile m t)
  pub origin : (y : Trapezoid) → Contains images y → (z : Trapezoid) × Contains traps z × (mirrored_trapezoid m z ≡ y)

-- the images of what stands before the rest of a list, all of which has higher tops
pub record Turned (m : ℤ) (traps left images : List Trapezoid) : Type 0 where
  pub done : List Trapezoid
  pub parts : traps ≡ done ++ left
  pub are : AreImages m done images
  pub under : (y z : Trapezoid) → Contains done y → Contains left z → y.y1 <ℤ z.y1
