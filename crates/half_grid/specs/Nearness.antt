-- Nearness by a rectangle, and the sets that grow and shrink by it.
--
-- Two tiles are near by dx and dy, whose sum is even, where their columns differ by at most dx, their rows by at
-- most dy, and their strips along the two diagonals by at most half the sum of dx and dy. A set grows by the tiles
-- that are near to one of its own, and shrinks to the tiles all of whose near ones are in it. This is the
-- neighbourhood by a rectangle of half sides dx and dy.
use Rattle.std.specs.Prelude.{ℤ, ◌+ℤ◌, ◌-ℤ◌, ◌≤ℤ◌}
use Rattle.half_grid.specs.Halves.{half}
use Rattle.half_grid.specs.Tiles.{strips_of}
use Rattle.half_grid.specs.declared.plane.Tile.{Tile}

-- two numbers differ by at most d
pub record DifferAtMost (d a b : ℤ) : Type 0 where
  pub above : (a -ℤ b) ≤ℤ d
  pub below : (b -ℤ a) ≤ℤ d

pub record IsNear (dx dy : ℤ) (t u : Tile) : Type 0 where
  pub columns : DifferAtMost dx t.i u.i
  pub rows : DifferAtMost dy t.j u.j
  pub sums : DifferAtMost (half (dx +ℤ dy)) (strips_of t).p (strips_of u).p
  pub differences : DifferAtMost (half (dx +ℤ dy)) (strips_of t).q (strips_of u).q

-- the grown set: some tile of the set is near
abbrev pub IsGrown : ℤ → ℤ → (Tile → Type 0) → Tile → Type 0
IsGrown dx dy set t = (u : Tile) × set u × IsNear dx dy t u

-- the shrunk set: all tiles near are in the set
abbrev pub IsShrunk : ℤ → ℤ → (Tile → Type 0) → Tile → Type 0
IsShrunk dx dy set t = (u : Tile) → IsNear dx dy t u → set u
