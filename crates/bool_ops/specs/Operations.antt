-- Set operations on the tiles of two lists of trapezoids, in the rows of a window.
--
-- Or has the tiles of A or B, And those of both, Sub those of A that aren't in B, Xor those of just one of them.
use Rattle.std.specs.Prelude.{All, Any, ◌≡◌, pos, ◌≢◌, ◌≤ℤ◌, ◌<ℤ◌, ◌&&◌, ◌||◌, not, Bool, IsTrue, List}
use Rattle.std.specs.List.{list_any}
use Rattle.std.specs.Ordering.{int_eq}
use Rattle.half_grid.specs.Edges.{EdgeParts, edges_winding}
use Rattle.half_grid.specs.declared.border.Operand.{Operand}
use Rattle.half_grid.specs.declared.border.Operand.TheVariants.{A, B}
use Rattle.half_grid.specs.JoinedLists.{IsJoined}
use Rattle.half_grid.specs.Trapezoids.{Trapezoid, CoversExactly, trapezoid_has}
use Rattle.half_grid.specs.Winding.{IsInPolygon}
use Rattle.half_grid.specs.declared.plane.Point.{Point}
use Rattle.half_grid.specs.Windows.{RowRange}
use Rattle.half_grid.specs.declared.plane.Tile.{Tile}
use Rattle.bool_ops.specs.declared.operations.Op.{Op}
use Rattle.bool_ops.specs.declared.operations.Op.TheVariants.{Or, And, Sub, Xor}

-- whether some trapezoid of the list has the tile
abbrev pub has_tile : List Trapezoid → Tile → Bool
has_tile traps t = list_any (trapezoid_has t) traps

-- whether the operation takes a tile, by whether it is in A and whether it is in B
abbrev pub takes : Op → Bool → Bool → Bool
takes Or a b = a || b
takes And a b = a && b
takes Sub a b = a && not b
takes Xor a b = (a && not b) || (not a && b)

pub record IsInRows (window : RowRange) (t : Tile) : Type 0 where
  pub from : window.y0 ≤ℤ t.j
  pub below : t.j <ℤ window.y1

-- the tile is in the window's rows, and the operation takes it
pub record IsInResult (op : Op) (a b : List Trapezoid) (window : RowRange) (t : Tile) : Type 0 where
  pub rows : IsInRows window t
  pub taken : IsTrue (takes op (has_tile a t) (has_tile b t))

-- whether the winding of the operand isn't 0
abbrev pub is_wound : Operand → List EdgeParts → Tile → Bool
is_wound o edges t = not (int_eq (edges_winding o edges t) (pos 0))

-- the tile is in the window's rows, and the operation takes it, by which operands' windings there aren't 0
pub record IsWoundBy (op : Op) (edges : List EdgeParts) (window : RowRange) (t : Tile) : Type 0 where
  pub rows : IsInRows window t
  pub taken : IsTrue (takes op (is_wound A edges t) (is_wound B edges t))

-- the tile is in the window's rows, and the winding of operand A there isn't 0
pub record IsWoundIn (edges : List EdgeParts) (window : RowRange) (t : Tile) : Type 0 where
  pub rows : IsInRows window t
  pub wound : edges_winding A edges t ≢ pos 0

-- the tile is in the window's rows, and the winding of operand B there isn't 0, but that of operand A is
pub record IsLeftIn (edges : List EdgeParts) (window : RowRange) (t : Tile) : Type 0 where
  pub rows : IsInRows window t
  pub free : edges_winding A edges t ≡ pos 0
  pub wound : edges_winding B edges t ≢ pos 0

-- the list is the joined list, in the window, of an area
pub record IsJoinedOf (window : RowRange) (area : Tile → Type 0) (traps : List Trapezoid) : Type 0 where
  pub joined : IsJoined window traps
  pub covers : CoversExactly traps area

-- the rows from the least to the greatest Y of some points
pub record AreRowsOf (points : List Point) (window : RowRange) : Type 0 where
  pub above : All (λ p. window.y0 ≤ℤ p.y) points
  pub below : All (λ p. p.y ≤ℤ window.y1) points
  pub least : Any (λ p. p.y ≡ window.y0) points
  pub greatest : Any (λ p. p.y ≡ window.y1) points

-- the list is the joined list of a closed outline's tiles over all its rows
abbrev pub ArePieces : List Point → List Trapezoid → Type 0
ArePieces points traps = (window : RowRange) → AreRowsOf points window → IsJoinedOf window (IsInPolygon points) traps
