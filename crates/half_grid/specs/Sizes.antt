-- The number of an area's tiles: some list of this length has each tile of the area once, and no other tile.
use Rattle.std.specs.Prelude.{ℕ, ◌≡◌, Bool, true, false, ◌&&◌, List, count_by, length}
use Rattle.std.specs.Ordering.{int_eq}
use Rattle.half_grid.specs.declared.plane.Side.{Side}
use Rattle.half_grid.specs.declared.plane.Side.TheVariants.{Left, Right}
use Rattle.half_grid.specs.declared.plane.Tile.{Tile}

abbrev pub is_same_side : Side → Side → Bool
is_same_side Left Left = true
is_same_side Left Right = false
is_same_side Right Left = false
is_same_side Right Right = true

-- whether the second tile is the first
abbrev pub is_tile : Tile → Tile → Bool
is_tile t u = int_eq t.i u.i && (int_eq t.j u.j && is_same_side t.side u.side)

pub record IsNumberIn (area : Tile → Type 0) (n : ℕ) : Type 0 where
  pub tiles : List Tile
  pub once : (t : Tile) → area t → count_by (is_tile t) tiles ≡ 1
  pub never : (t : Tile) → (area t → ⊥) → count_by (is_tile t) tiles ≡ 0
  pub count : length tiles ≡ n
