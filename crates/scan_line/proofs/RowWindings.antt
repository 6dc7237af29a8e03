-- The winding of the edges of a row at its tiles, edge by edge.
use Rattle.std.proofs.Common.{ℕ, ℤ, pos, neg_ℤ, ◌≡◌, ◌+◌, ◌+ℤ◌, ◌-ℤ◌, ◌≤ℤ◌, ◌<ℤ◌, Bool, true, false, ◌&&◌, not, cond}
use Rattle.std.proofs.Common.{List, [], ◌∷◌, All, count_by, arith, refl, ◌∙◌}
use Rattle.std.proofs.lemmas.Int.{ints}
use Rattle.std.proofs.lemmas.List.Elements.{All-head, All-tail}
use Rattle.half_grid.specs.Edges.{EdgeParts, spans, has_on_right, is_of, winds_up, winds_down, edges_winding}
use Rattle.half_grid.specs.Lines.{strip_along, first_strip}
use Rattle.half_grid.specs.Rows.{number_in_row, place}
use Rattle.half_grid.specs.Winding.{count_one}
use Rattle.half_grid.specs.declared.plane.Tile.{Tile}
use Rattle.half_grid.specs.declared.border.Operand.{Operand}
use Rattle.half_grid.proofs.ForCallers.{count_by-cons, right_by_place, left_by_place, le_yes, le_no}
use Rattle.scan_line.specs.Actives.{SpansRow}
use Rattle.scan_line.specs.Windings.{adds, IsEven}

-- what one edge adds at a tile
abbrev pub part : Operand → Tile → EdgeParts → ℤ
part o t e = pos (count_one (winds_up o t e)) -ℤ pos (count_one (winds_down o t e))

split : (a b c d e f : ℕ) → a ≡ c + e → b ≡ d + f → pos a -ℤ pos b ≡ (pos c -ℤ pos d) +ℤ (pos e -ℤ pos f)
split a b c d e f h k = omega (arith, ints)

pub winding_cons : (o : Operand) (e : EdgeParts) (edges : List EdgeParts) (t : Tile) → edges_winding o (e ∷ edges) t ≡ part o t e +ℤ edges_winding o edges t
unfolding edges_winding
winding_cons o e edges t = split _ _ _ _ _ _ (count_by-cons (winds_up o t) e edges) (count_by-cons (winds_down o t) e edges)

pub winding_nil : (o : Operand) (t : Tile) → edges_winding o [] t ≡ pos 0
unfolding edges_winding
winding_nil o t = refl

spans_yes : (e : EdgeParts) (j : ℤ) → SpansRow j e → spans e j ≡ true
spans_yes e j h = let from = h.from in let below = h.below in grind (arith, ints)

and_false : (b : Bool) → (b && false) ≡ false
and_false true = refl
and_false false = refl

right_true : (e : EdgeParts) (t : Tile) → SpansRow t.j e → place e.line t.j ≤ℤ number_in_row t → has_on_right e t ≡ true
right_true e t s h =
    let here = spans_yes e t.j s in
    let right = le_yes (first_strip e.line) (strip_along e.line t) (right_by_place t e.line h) in
    rw (here, right) refl

right_false : (e : EdgeParts) (t : Tile) → number_in_row t <ℤ place e.line t.j → has_on_right e t ≡ false
right_false e t h =
    let left = le_no (first_strip e.line) (strip_along e.line t) (left_by_place t e.line h) in
    rw left (and_false (spans e t.j))

counts_right : (b up : Bool) → pos (count_one (b && (up && true))) -ℤ pos (count_one (b && (not up && true))) ≡ cond b (cond up (pos 1) (neg_ℤ (pos 1))) (pos 0)
counts_right true true = refl
counts_right true false = refl
counts_right false up = refl

counts_left : (b up : Bool) → pos (count_one (b && (up && false))) -ℤ pos (count_one (b && (not up && false))) ≡ pos 0
counts_left true true = refl
counts_left true false = refl
counts_left false up = refl

-- an edge of the row adds the same at each tile on its right, and nothing on its left
pub part_right : (o : Operand) (t : Tile) (e : EdgeParts) → SpansRow t.j e → place e.line t.j ≤ℤ number_in_row t → part o t e ≡ adds o e
part_right o t e s h = let r = right_true e t s h in rw r (counts_right (is_of o e.operand) e.up)

pub part_left : (o : Operand) (t : Tile) (e : EdgeParts) → number_in_row t <ℤ place e.line t.j → part o t e ≡ pos 0
part_left o t e h = let r = right_false e t h in rw r (counts_left (is_of o e.operand) e.up)

-- left of all edges the winding is 0
pub winding_left : (o : Operand) (edges : List EdgeParts) (t : Tile) → All (λ e. number_in_row t <ℤ place e.line t.j) edges → edges_winding o edges t ≡ pos 0
winding_left o [] t h = winding_nil o t
winding_left o (e ∷ edges) t h =
    let P : EdgeParts → Type 0 = λ f. number_in_row t <ℤ place f.line t.j in
    let first = part_left o t e (All-head P e edges h) in
    let later = winding_left o edges t (All-tail P e edges h) in
    winding_cons o e edges t ∙ (rw (first, later) refl)

-- what all edges of the operand add together
abbrev pub total : Operand → List EdgeParts → ℤ
total o [] = pos 0
total o (e ∷ edges) = adds o e +ℤ total o edges

one_adds : (b up : Bool) → cond b (cond up (pos 1) (neg_ℤ (pos 1))) (pos 0) ≡ pos (count_one (b && up)) -ℤ pos (count_one (b && not up))
one_adds true true = refl
one_adds true false = refl
one_adds false up = refl

pub total_is : (o : Operand) (edges : List EdgeParts)
    → total o edges ≡ pos (count_by (λ e. is_of o e.operand && e.up) edges) -ℤ pos
    (count_by (λ e. is_of o e.operand && not e.up) edges)
total_is o [] = refl
total_is o (e ∷ edges) =
    let one = one_adds (is_of o e.operand) e.up in
    let later = total_is o edges in
    let up = count_by-cons (λ f. is_of o f.operand && f.up) e edges in
    let down = count_by-cons (λ f. is_of o f.operand && not f.up) e edges in
    rw (one, later, up, down) (omega (arith, ints))

pub total_even : (o : Operand) (edges : List EdgeParts) → IsEven edges o → total o edges ≡ pos 0
total_even o edges h = total_is o edges ∙ (rw h (omega (arith, ints)))
