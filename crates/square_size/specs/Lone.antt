-- Trapezoids of a list that touch no other one of it.
--
-- Two tiles of one column in rows one above the other share the horizontal side between them where no diagonal parts them:
-- where they lie in the same strips along both diagonals. A tile touches a trapezoid where it isn't one of its tiles and
-- shares a side with one: the tile just left or just right of it in one of its rows, one just under its bottom side, or one
-- just over its top side.
use Rattle.std.specs.Prelude.{◌≡◌, ◌≤◌, ◌⊎◌, pos, ◌+ℤ◌, ◌-ℤ◌, List}
use Rattle.half_grid.specs.JoinedLists.{IsBeside}
use Rattle.half_grid.specs.Tiles.{strips_of}
use Rattle.half_grid.specs.Trapezoids.{Trapezoid, IsInTrapezoid, count_in}
use Rattle.half_grid.specs.declared.plane.Tile.{Tile}

-- the tile of the same column and side in the next row, and in the row before
abbrev pub above : Tile → Tile
above t = record t { j = t.j +ℤ pos 1 }

abbrev pub below : Tile → Tile
below t = record t { j = t.j -ℤ pos 1 }

-- no diagonal parts the two tiles
pub record InSameStrips (t u : Tile) : Type 0 where
  pub sums : (strips_of t).p ≡ (strips_of u).p
  pub differences : (strips_of t).q ≡ (strips_of u).q

pub record IsUnder (z : Trapezoid) (t : Tile) : Type 0 where
  pub row : t.j +ℤ pos 1 ≡ z.y0
  pub shares : InSameStrips t (above t)
  pub inside : IsInTrapezoid z (above t)

pub record IsOver (z : Trapezoid) (t : Tile) : Type 0 where
  pub row : t.j ≡ z.y1
  pub shares : InSameStrips t (below t)
  pub inside : IsInTrapezoid z (below t)

abbrev pub IsTouching : Trapezoid → Tile → Type 0
IsTouching z t = IsBeside z t ⊎ (IsUnder z t ⊎ IsOver z t)

-- the tile is in some trapezoid of the list
abbrev pub IsInOne : List Trapezoid → Tile → Type 0
IsInOne traps t = 1 ≤ count_in traps t

-- no tile of the list touches the trapezoid
abbrev pub IsLone : List Trapezoid → Trapezoid → Type 0
IsLone traps z = (t : Tile) → IsTouching z t → count_in traps t ≡ 0
