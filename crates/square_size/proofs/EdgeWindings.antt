-- The windings of the edges of point lists and of grown rings.
use Rattle.std.proofs.Common.{◌≡◌, Bool, true, false, ◌&&◌, pos, ◌-ℤ◌, arith, refl, ◌∙◌, sym, List, [], ◌∷◌, Option, Some, None}
use Rattle.std.proofs.lemmas.Int.{ints}
use Rattle.std.specs.Option.{option_to_list}
use Rattle.std.specs.Prelude.{int_lt}
use Rattle.half_grid.specs.Edges.{EdgeParts, edges_winding, is_of, winds_up, winds_down, edge_parts}
use Rattle.half_grid.specs.Lines.{line_of}
use Rattle.half_grid.specs.Winding.{winding, crossing_of, count_one, rises_past}
use Rattle.half_grid.specs.declared.border.Operand.{Operand}
use Rattle.half_grid.specs.declared.border.Operand.TheVariants.{A, B}
use Rattle.half_grid.specs.declared.plane.Line.{Line}
use Rattle.half_grid.specs.declared.plane.Point.{Point}
use Rattle.half_grid.specs.declared.plane.Tile.{Tile}
use Rattle.half_grid.proofs.ForCallers.{windings_add, count_by-cons, winding-cons}
use Rattle.square_size.specs.Edges.{edge_along, edge_of_pair, edges_of_points}
use Rattle.square_size.proofs.Sides.{no_rows}
use Rattle.square_size.proofs.Orders.{lt_is, not_lt_is}

is_of_itself : (o : Operand) → is_of o o ≡ true
is_of_itself A = refl
is_of_itself B = refl

pub no_edges : (o : Operand) (t : Tile) → edges_winding o [] t ≡ pos 0
unfolding edges_winding
no_edges o t = refl

-- what one edge adds
one_edge : (o : Operand) (e : EdgeParts) (t : Tile) → edges_winding o (e ∷ []) t ≡ pos (count_one (winds_up o t e)) -ℤ pos (count_one (winds_down o t e))
unfolding edges_winding
one_edge o e t =
    let up = count_by-cons (winds_up o t) e [] in
    let down = count_by-cons (winds_down o t) e [] in
    rw (up, down) (omega (arith, ints))

and_false : (b : Bool) → b && false ≡ false
and_false true = refl
and_false false = refl

-- an edge of two points adds what the two points add to the winding
pair_adds : (o : Operand) (a b : Point) (t : Tile) (found : Option Line) (up : Bool) → line_of a b ≡ found
    → int_lt a.y b.y ≡ up → edges_winding o (option_to_list (edge_along o a b found)) t ≡ crossing_of t a b
pair_adds o a b t None up e k = no_edges o t ∙ sym (rw (e, and_false (rises_past t a b), and_false (rises_past t b a)) refl)
pair_adds o a b t (Some line) true e k =
    let rows = no_rows t a.y b.y (lt_is a.y b.y k) in
    rw k (one_edge o (edge_parts a.y b.y line true o) t ∙ (rw (e, rows, is_of_itself o) refl))
pair_adds o a b t (Some line) false e k =
    let rows = no_rows t b.y a.y (not_lt_is a.y b.y k) in
    rw k (one_edge o (edge_parts b.y a.y line false o) t ∙ (rw (e, rows, is_of_itself o) refl))

pub edges_have_winding : (o : Operand) (points : List Point) (t : Tile) → edges_winding o (edges_of_points o points) t ≡ winding points t
unfolding winding
edges_have_winding o [] t = no_edges o t
edges_have_winding o (a ∷ []) t = no_edges o t
edges_have_winding o (a ∷ b ∷ points) t =
    windings_add o (edge_of_pair o (a, b)) (edges_of_points o (b ∷ points)) t
    ∙ (rw (pair_adds o a b t _ _ refl refl, edges_have_winding o (b ∷ points) t) (sym (winding-cons t a b points)))

pair_adds_none : (o p : Operand) (a b : Point) (t : Tile) (found : Option Line) (up : Bool) → is_of o p ≡ false
    → int_lt a.y b.y ≡ up → edges_winding o (option_to_list (edge_along p a b found)) t ≡ pos 0
pair_adds_none o p a b t None up other k = no_edges o t
pair_adds_none o p a b t (Some line) true other k = rw k (one_edge o (edge_parts a.y b.y line true p) t ∙ (rw other (omega (arith, ints))))
pair_adds_none o p a b t (Some line) false other k = rw k (one_edge o (edge_parts b.y a.y line false p) t ∙ (rw other (omega (arith, ints))))

-- the edges of one operand don't wind for the other
pub none_for_other : (o p : Operand) (points : List Point) (t : Tile) → is_of o p ≡ false → edges_winding o (edges_of_points p points) t ≡ pos 0
none_for_other o p [] t other = no_edges o t
none_for_other o p (a ∷ []) t other = no_edges o t
none_for_other o p (a ∷ b ∷ points) t other =
    let first = pair_adds_none o p a b t (line_of a b) _ other refl in
    let later = none_for_other o p (b ∷ points) t other in
    windings_add o (edge_of_pair p (a, b)) (edges_of_points p (b ∷ points)) t ∙ (rw (first, later) (omega (arith, ints)))
