-- The tiles of mirror images, as laws over all tiles and trapezoids.
use Rattle.std.specs.Prelude.{ℤ, ◌≡◌, ◌↔◌, List, map}
use Rattle.half_grid.specs.Trapezoids.{Trapezoid, IsInTrapezoid, IsLegal, count_in}
use Rattle.half_grid.specs.declared.plane.Tile.{Tile}
use Rattle.tone_mirror.specs.Mirrors.{mirrored_tile, mirrored_trapezoid}

-- The image of a tile's image is the tile.
abbrev pub MirroredTwice : Type 0
MirroredTwice = (m : ℤ) (t : Tile) → mirrored_tile m (mirrored_tile m t) ≡ t

-- A tile is in the image of a trapezoid exactly where its own image is in the trapezoid.
abbrev pub ImageHasTile : Type 0
ImageHasTile = (m : ℤ) (z : Trapezoid) (t : Tile) → IsInTrapezoid (mirrored_trapezoid m z) t ↔ IsInTrapezoid z (mirrored_tile m t)

-- As many images of a list's trapezoids have a tile as trapezoids of the list have the tile's image.
abbrev pub ImagesHaveCount : Type 0
ImagesHaveCount = (m : ℤ) (traps : List Trapezoid) (t : Tile) → count_in (map (mirrored_trapezoid m) traps) t ≡ count_in traps (mirrored_tile m t)

-- The image of a legal trapezoid is legal.
abbrev pub ImageIsLegal : Type 0
ImageIsLegal = (m : ℤ) (z : Trapezoid) → IsLegal z → IsLegal (mirrored_trapezoid m z)
