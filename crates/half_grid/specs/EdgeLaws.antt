-- The winding of the two edges of each trapezoid of a list, as laws over all lists.
use Rattle.std.specs.Prelude.{pos, ◌+ℤ◌, ◌≡◌, ◌≢◌, List, ◌++◌}
use Rattle.std.specs.List.{All, flat_map}
use Rattle.half_grid.specs.Trapezoids.{Trapezoid, IsInTrapezoid, IsLegal, count_in}
use Rattle.half_grid.specs.Edges.{EdgeParts, edges_of_trapezoid, edges_winding}
use Rattle.half_grid.specs.declared.plane.Tile.{Tile}
use Rattle.half_grid.specs.declared.border.Operand.{Operand}

-- The winding of two lists together is the sum of their windings.
abbrev pub WindingsAdd : Type 0
WindingsAdd = (o : Operand) (es fs : List EdgeParts) (t : Tile) → edges_winding o (es ++ fs) t ≡ edges_winding o es t +ℤ edges_winding o fs t

-- The two edges of a trapezoid have winding 1 at its tiles ..
abbrev pub OneInside : Type 0
OneInside = (o : Operand) (z : Trapezoid) (t : Tile) → IsLegal z → IsInTrapezoid z t → edges_winding o (edges_of_trapezoid o z) t ≡ pos 1

-- .. and 0 elsewhere.
abbrev pub NoneOutside : Type 0
NoneOutside = (o : Operand) (z : Trapezoid) (t : Tile) → IsLegal z → (IsInTrapezoid z t → ⊥) → edges_winding o (edges_of_trapezoid o z) t ≡ pos 0

-- The edges of a list of trapezoids have at each tile the number of trapezoids that have it,
abbrev pub WindingIsCount : Type 0
WindingIsCount = (o : Operand) (traps : List Trapezoid) (t : Tile) → All IsLegal traps
    → edges_winding o (flat_map (edges_of_trapezoid o) traps) t ≡ pos (count_in traps t)

-- and count nothing for the other operand.
abbrev pub OperandsApart : Type 0
OperandsApart = (o p : Operand) (traps : List Trapezoid) (t : Tile) → o ≢ p → edges_winding o (flat_map (edges_of_trapezoid p) traps) t ≡ pos 0
