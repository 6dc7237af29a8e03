-- Lists of trapezoids for areas, and the rows of a step that depend on its operands' rows.
use Rattle.std.specs.Prelude.{◌⊎◌, ℕ, List, [], get_or}
use Rattle.half_grid.specs.JoinedLists.{IsJoined}
use Rattle.half_grid.specs.Trapezoids.{Trapezoid}
use Rattle.half_grid.specs.Windows.{RowRange}
use Rattle.half_grid.specs.declared.plane.Tile.{Tile}
use Rattle.square_size.specs.EdgeLaws.{IsInSome}
use Rattle.bool_ops.specs.declared.operations.Op.{Op}
use Rattle.bool_ops.specs.declared.operations.Op.TheVariants.{Or, And, Sub, Xor}
use Rattle.bool_ops.specs.Operations.{IsInRows}

-- the joined list of the part of an area in the window's rows: it has all of these tiles, and no others
pub record HasArea (window : RowRange) (area : Tile → Type 0) (traps : List Trapezoid) : Type 0 where
  pub joined : IsJoined window traps
  pub inside : (t : Tile) → IsInSome traps t → IsInRows window t × area t
  pub all : (t : Tile) → IsInRows window t → area t → IsInSome traps t

-- the joined list of what it has, in some window
abbrev pub IsJoinedSomewhere : List Trapezoid → Type 0
IsJoinedSomewhere traps = (window : RowRange) × IsJoined window traps

-- the list of a number
abbrev pub list_at : List (List Trapezoid) → ℕ → List Trapezoid
list_at lists n = get_or lists n []

-- the tiles of the list of a number
abbrev pub IsListed : List (List Trapezoid) → ℕ → Tile → Type 0
IsListed lists n t = IsInSome (list_at lists n) t

-- the tiles that an operation takes of two sets
abbrev pub OfBoth : Op → Type 0 → Type 0 → Type 0
OfBoth Or A B = A ⊎ B
OfBoth And A B = A × B
OfBoth Sub A B = A × (B → ⊥)
OfBoth Xor A B = (A × (B → ⊥)) ⊎ ((A → ⊥) × B)
