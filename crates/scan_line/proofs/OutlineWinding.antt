-- The windings of the edges of a point list, and their balance.
use Rattle.std.proofs.Common.{ℕ, ℤ, pos, ◌≡◌, ◌≢◌, ◌+◌, ◌+ℤ◌, ◌-ℤ◌, ◌<ℤ◌, Bool, true, false, ◌&&◌, not, List, [], ◌∷◌}
use Rattle.std.proofs.Common.{Option, Some, None, count_by, arith, refl, inl, inr, ap, sym, ◌∙◌}
use Rattle.std.specs.Prelude.{int_le, int_lt}
use Rattle.std.specs.List.{cons_option}
use Rattle.std.proofs.lemmas.Int.{ints, by_lt_z}
use Rattle.std.proofs.lemmas.List.Elements.{All-head, All-tail}
use Rattle.half_grid.specs.Edges.{EdgeParts, edges_winding, is_of, spans}
use Rattle.half_grid.specs.Lines.{line_of}
use Rattle.half_grid.specs.Outlines.{IsClosed, HasGridEdges, IsOnGrid, last_of}
use Rattle.half_grid.specs.Winding.{winding, edges_of, crossing_of, count_one, rises_past}
use Rattle.half_grid.specs.declared.plane.Line.{Line}
use Rattle.half_grid.specs.declared.plane.Point.{Point}
use Rattle.half_grid.specs.declared.plane.Tile.{Tile}
use Rattle.half_grid.specs.declared.border.Operand.{Operand}
use Rattle.half_grid.specs.declared.border.Operand.TheVariants.{A, B}
use Rattle.half_grid.proofs.ForCallers.{winding-cons, count_by-cons, line_is}
use Rattle.scan_line.specs.OutlineEdges.{edge_from, edge_on, edges_along}
use Rattle.scan_line.specs.Runs.{IsBalancedAt}
use Rattle.scan_line.proofs.RowWindings.{part, winding_cons, winding_nil}

of_itself : (o : Operand) → is_of o o ≡ true
of_itself A = refl
of_itself B = refl

of_other : (o p : Operand) → o ≢ p → is_of o p ≡ false
of_other A A h = absurd (h refl)
of_other A B h = refl
of_other B A h = refl
of_other B B h = absurd (h refl)

not_down : (t : Tile) (a b : Point) → int_lt a.y b.y ≡ true → rises_past t b a ≡ false
not_down t a b h = grind (arith, ints)

not_up : (t : Tile) (a b : Point) → int_lt a.y b.y ≡ false → rises_past t a b ≡ false
not_up t a b h = grind (arith, ints)

part_up : (o : Operand) (t : Tile) (a b : Point) (line : Line) (up : Bool) → int_lt a.y b.y ≡ up
    → line_of a b ≡ Some line → part o t (edge_from o a b line) ≡ crossing_of t a b
part_up o t a b line true h e =
    let own = of_itself o in
    let down = not_down t a b h in
    rw (h, own, e, down) refl
part_up o t a b line false h e =
    let own = of_itself o in
    let up = not_up t a b h in
    rw (h, own, e, up) refl

crossing_no_line : (t : Tile) (a b : Point) → line_of a b ≡ None → crossing_of t a b ≡ pos 0
crossing_no_line t a b e = rw e (none (rises_past t a b) (rises_past t b a))
  where
    none : (p q : Bool) → pos (count_one (p && false)) -ℤ pos (count_one (q && false)) ≡ pos 0
    none true true = refl
    none true false = refl
    none false true = refl
    none false false = refl

winds_one : (o : Operand) (t : Tile) (a b : Point) (line : Option Line) (edges : List EdgeParts) → line_of a b ≡ line
    → edges_winding o (cons_option (edge_on o a b line) edges) t ≡ crossing_of t a b +ℤ edges_winding o edges t
winds_one o t a b None edges e = let zero = crossing_no_line t a b e in omega (arith, ints, zero)
winds_one o t a b (Some line) edges e = winding_cons o (edge_from o a b line) edges t ∙ ap
    (λ (n : ℤ). n +ℤ edges_winding o edges t) (part_up o t a b line _ refl e)

nothing_winds : (points : List Point) (t : Tile) → edges_of points ≡ [] → winding points t ≡ pos 0
unfolding winding
nothing_winds points t e = rw e refl

pub winds_as_outline : (o : Operand) (points : List Point) (t : Tile) → edges_winding o (edges_along o points) t ≡ winding points t
winds_as_outline o [] t = winding_nil o t ∙ sym (nothing_winds [] t refl)
winds_as_outline o (a ∷ []) t = winding_nil o t ∙ sym (nothing_winds (a ∷ []) t refl)
winds_as_outline o (a ∷ b ∷ points) t =
    winds_one o t a b _ (edges_along o (b ∷ points)) refl
    ∙ (ap (λ (n : ℤ). crossing_of t a b +ℤ n) (winds_as_outline o (b ∷ points) t) ∙ sym (winding-cons t a b points))

part_other : (o p : Operand) (t : Tile) (e : EdgeParts) → e.operand ≡ p → o ≢ p → part o t e ≡ pos 0
part_other o p t e same h =
    let other = of_other o p h in
    rw (same, other) refl

operand_of : (up : Bool) (p : Operand) (a b : Point) (line : Line) → int_lt a.y b.y ≡ up → (edge_from p a b line).operand ≡ p
operand_of true p a b line h = rw h refl
operand_of false p a b line h = rw h refl

winds_other_one : (o p : Operand) (t : Tile) (a b : Point) (line : Option Line) (edges : List EdgeParts) → o ≢ p
    → edges_winding o (cons_option (edge_on p a b line) edges) t ≡ edges_winding o edges t
winds_other_one o p t a b None edges h = refl
winds_other_one o p t a b (Some line) edges h =
    let zero = part_other o p t (edge_from p a b line) (operand_of _ p a b line refl) h in
    winding_cons o (edge_from p a b line) edges t ∙ (omega (arith, ints, zero))

pub winds_not_for_other : (o p : Operand) (points : List Point) (t : Tile) → o ≢ p → edges_winding o (edges_along p points) t ≡ pos 0
winds_not_for_other o p [] t h = winding_nil o t
winds_not_for_other o p (a ∷ []) t h = winding_nil o t
winds_not_for_other o p (a ∷ b ∷ points) t h = winds_other_one o p t a b (line_of a b) (edges_along p (b ∷ points)) h ∙ winds_not_for_other o p (b ∷ points) t h

-- ---- balance: what goes up less what goes down is whether the last point is above the row, less whether the first is

-- whether the point is above the row, for the operand
abbrev weight : Bool → ℤ → Point → ℕ
weight own j a = count_one (own && int_lt j a.y)

abbrev goes_up : Operand → ℤ → EdgeParts → Bool
goes_up o j e = is_of o e.operand && (e.up && spans e j)

abbrev goes_down : Operand → ℤ → EdgeParts → Bool
goes_down o j e = is_of o e.operand && (not e.up && spans e j)

lt_not_le : (x y : ℤ) → int_lt x y ≡ not (int_le y x)
lt_not_le x y = grind (arith, ints)

above_both : (a c j : ℤ) → int_lt a c ≡ true → int_le a j ≡ false → int_lt j c ≡ true
above_both a c j h k = grind (arith, ints)

above_other : (a c j : ℤ) → int_lt a c ≡ false → int_le c j ≡ false → int_lt j a ≡ true
above_other a c j h k = grind (arith, ints)

up_sum : (own low high : Bool) → (low ≡ false → high ≡ true) → count_one (own && (low && high)) + count_one (own && not low) ≡ count_one (own && high)
up_sum false low high h = refl
up_sum true true true h = refl
up_sum true true false h = refl
up_sum true false high h = let is = h refl in rw is refl

down_sum : (own low high : Bool) → (low ≡ false → high ≡ true) → count_one (own && high) ≡ count_one (own && (low && high)) + count_one (own && not low)
down_sum own low high h = sym (up_sum own low high h)

none_more : (own b : Bool) → count_one (own && (false && b)) ≡ 0
none_more true b = refl
none_more false b = refl

one_edge : (o p : Operand) (j : ℤ) (a c : Point) (line : Line) (up : Bool) → int_lt a.y c.y ≡ up
    → count_one (goes_up o j (edge_from p a c line)) + weight (is_of o p) j a ≡ count_one (goes_down o j (edge_from p a c line)) + weight (is_of o p) j c
one_edge o p j a c line true h =
    let sum = up_sum (is_of o p) (int_le a.y j) (int_lt j c.y) (above_both a.y c.y j h) in
    let none = none_more (is_of o p) (int_le a.y j && int_lt j c.y) in
    let above = lt_not_le j a.y in
    rw (h, none, above) (omega (arith, sum))
one_edge o p j a c line false h =
    let sum = down_sum (is_of o p) (int_le c.y j) (int_lt j a.y) (above_other a.y c.y j h) in
    let none = none_more (is_of o p) (int_le c.y j && int_lt j a.y) in
    let above = lt_not_le j c.y in
    rw (h, none, above) (omega (arith, sum))

differ_of : (x y : ℤ) → x <ℤ y → x ≢ y
differ_of x y h = λ e. omega (arith, ints, h, e)

level_of : (a c : Point) → IsOnGrid (a, c) → line_of a c ≡ None → a.y ≡ c.y
level_of a c (inl same) e = same
level_of a c (inr share) e =
    by_lt_z a.y c.y
    (λ lt. absurd (clash (line_is a c share.0 share.1 share.2 (differ_of a.y c.y lt))))
    (λ le. by_lt_z c.y a.y
    (λ lt. absurd (clash (line_is a c share.0 share.1 share.2 (λ k. differ_of c.y a.y lt (sym k)))))
    (λ other. omega (arith, ints, le, other)))
  where
    clash : line_of a c ≡ Some share.0 → ⊥
    clash k = let none : ⊥ = cc in none

step_over : (o p : Operand) (j : ℤ) (a c : Point) (line : Option Line) (edges : List EdgeParts) (last : ℕ) → line_of a c ≡ line → IsOnGrid (a, c)
    → count_by (goes_up o j) edges + weight (is_of o p) j c ≡ count_by (goes_down o j) edges + last
    → count_by (goes_up o j) (cons_option (edge_on p a c line) edges) + weight (is_of o p) j a ≡ count_by
    (goes_down o j) (cons_option (edge_on p a c line) edges) + last
step_over o p j a c None edges last e on h =
    let level = level_of a c on e in
    let same = ap (λ (y : ℤ). count_one (is_of o p && int_lt j y)) level in
    omega (arith, h, same)
step_over o p j a c (Some line) edges last e on h =
    let one = one_edge o p j a c line _ refl in
    let up = count_by-cons (goes_up o j) (edge_from p a c line) edges in
    let down = count_by-cons (goes_down o j) (edge_from p a c line) edges in
    omega (arith, h, one, up, down)

along_row : (o p : Operand) (j : ℤ) (a : Point) (points : List Point) → HasGridEdges (a ∷ points)
    → count_by (goes_up o j) (edges_along p (a ∷ points)) + weight (is_of o p) j a ≡ count_by (goes_down o j)
    (edges_along p (a ∷ points)) + weight (is_of o p) j (last_of a points)
along_row o p j a [] grid = refl
along_row o p j a (c ∷ points) grid =
    let later = along_row o p j c points (All-tail IsOnGrid (a, c) (edges_of (c ∷ points)) grid) in
    step_over o p j a c (line_of a c) (edges_along p (c ∷ points)) (weight (is_of o p) j (last_of c points)) refl
    (All-head IsOnGrid (a, c) (edges_of (c ∷ points)) grid) later

pub outline_is_balanced : (o p : Operand) (points : List Point) (j : ℤ) → IsClosed points → HasGridEdges points → IsBalancedAt (edges_along p points) o j
outline_is_balanced o p [] j closed grid = absurd closed
outline_is_balanced o p (a ∷ points) j closed grid =
    let row = along_row o p j a points grid in
    let same = ap (λ (b : Point). weight (is_of o p) j b) closed in
    omega (arith, row, same)
