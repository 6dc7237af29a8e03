-- In each row as many edges of a ring go up as go down.
use Rattle.std.proofs.Common.{◌≡◌, inl, inr, ◌⊎◌, ℕ, ◌+◌, Bool, true, false, not, ◌&&◌, ℤ, pos, ◌+ℤ◌, ◌-ℤ◌, ◌≤ℤ◌, arith}
use Rattle.std.proofs.Common.{refl, ap, ◌∙◌, All, List, [], ◌∷◌, ◌++◌, Option, Some, None, count_by, flat_map}
use Rattle.std.proofs.lemmas.Int.{ints, by_lt_z}
use Rattle.std.proofs.lemmas.List.Elements.{All-head, All-tail}
use Rattle.std.proofs.lemmas.List.Sums.{sum_by-append}
use Rattle.std.specs.Option.{option_to_list}
use Rattle.std.specs.Prelude.{int_le, int_lt}
use Rattle.half_grid.specs.Edges.{EdgeParts, is_of, spans, edge_parts}
use Rattle.half_grid.specs.Lines.{line_of}
use Rattle.half_grid.specs.Outlines.{IsOnGrid, HasGridEdges, last_of}
use Rattle.half_grid.specs.Trapezoids.{Trapezoid, IsLegal}
use Rattle.half_grid.specs.Winding.{count_one, edges_of}
use Rattle.half_grid.specs.declared.border.Operand.{Operand}
use Rattle.half_grid.specs.declared.border.Operand.TheVariants.{A}
use Rattle.half_grid.specs.declared.plane.Line.{Line}
use Rattle.half_grid.specs.declared.plane.Point.{Point}
use Rattle.half_grid.proofs.ForCallers.{count_by-cons, line_is, le_yes, le_no}
use Rattle.square_size.specs.Edges.{edge_along, edge_of_pair, edges_of_points, edges_of_grown}
use Rattle.square_size.specs.Ranges.{IsRectangle}
use Rattle.square_size.specs.Rings.{grown_ring, lower_left, upper_left, lower_right, upper_right, left_bend, right_bend}
use Rattle.square_size.proofs.RingPoints.{ring_on_grid}
use Rattle.square_size.proofs.Orders.{lt_yes, lt_no, lt_is, not_lt_is}

abbrev goes_up : Operand → ℤ → EdgeParts → Bool
goes_up o j e = is_of o e.operand && (e.up && spans e j)

abbrev goes_down : Operand → ℤ → EdgeParts → Bool
goes_down o j e = is_of o e.operand && (not e.up && spans e j)

-- those that go up less those that go down
abbrev surplus : Operand → ℤ → List EdgeParts → ℤ
surplus o j es = pos (count_by (goes_up o j) es) -ℤ pos (count_by (goes_down o j) es)

sum_of_differences : (a b c d e f : ℕ) → a ≡ c + e → b ≡ d + f → pos a -ℤ pos b ≡ (pos c -ℤ pos d) +ℤ (pos e -ℤ pos f)
sum_of_differences a b c d e f h k = omega (arith, ints)

surplus-append : (o : Operand) (j : ℤ) (es fs : List EdgeParts) → surplus o j (es ++ fs) ≡ surplus o j es +ℤ surplus o j fs
surplus-append o j es fs = sum_of_differences _ _ _ _ _ _ (sum_by-append _ es fs) (sum_by-append _ es fs)

-- 1 where the point isn't above the row
abbrev below : ℤ → Point → ℕ
below j p = count_one (int_le p.y j)

one_edge : (o : Operand) (j : ℤ) (e : EdgeParts) → surplus o j (e ∷ []) ≡ pos (count_one (goes_up o j e)) -ℤ pos (count_one (goes_down o j e))
one_edge o j e = rw (count_by-cons (goes_up o j) e [], count_by-cons (goes_down o j) e []) (omega (arith, ints))

-- the rows from x up to below y, where x isn't above y
rows_between : (x y j : ℤ) → x ≤ℤ y → pos (count_one (int_le x j && int_lt j y)) ≡ pos (count_one (int_le x j)) -ℤ pos (count_one (int_le y j))
rows_between x y j h =
    by_lt_z j x
    (λ under. rw (le_no x j under, le_no y j (omega (arith, ints, under, h))) (omega (arith, ints)))
    (λ ge. by_lt_z j y
    (λ lt. rw (le_yes x j ge, lt_yes j y lt, le_no y j lt) (omega (arith, ints)))
    (λ over. rw (le_yes x j ge, lt_no j y over, le_yes y j over) (omega (arith, ints))))

along : (o p : Operand) (j : ℤ) (a b : Point) (found : Option Line) (up : Bool) → is_of o p ≡ true
    → int_lt a.y b.y ≡ up → (a.y ≡ b.y) ⊎ ((line : Line) × (found ≡ Some line))
    → surplus o j (option_to_list (edge_along p a b found)) ≡ pos (below j a) -ℤ pos (below j b)
along o p j a b None up own k (inl same) = let e : below j a ≡ below j b = ap (λ y. count_one (int_le y j)) same in omega (arith, ints, e)
along o p j a b None up own k (inr (line, e)) = absurd (let bad : ⊥ = cc in bad)
along o p j a b (Some line) true own k h =
    let rows = rows_between a.y b.y j (lt_is a.y b.y k) in
    rw k (one_edge o j (edge_parts a.y b.y line true p) ∙ (rw own (omega (arith, ints, rows))))
along o p j a b (Some line) false own k h =
    let rows = rows_between b.y a.y j (not_lt_is a.y b.y k) in
    rw k (one_edge o j (edge_parts b.y a.y line false p) ∙ (rw own (omega (arith, ints, rows))))

found_line : (a b : Point) → IsOnGrid (a, b) → (a.y ≡ b.y) ⊎ ((line : Line) × (line_of a b ≡ Some line))
found_line a b (inl same) = inl same
found_line a b (inr (line, pa, pb)) =
    by_lt_z a.y b.y
    (λ lt. inr (line, line_is a b line pa pb (λ e. absurd (omega (arith, ints, lt, e)))))
    (λ ge. by_lt_z b.y a.y
    (λ gt. inr (line, line_is a b line pa pb (λ e. absurd (omega (arith, ints, gt, e)))))
    (λ le. inl (omega (arith, ints, ge, le))))

points_surplus : (o p : Operand) (j : ℤ) (a : Point) (points : List Point) → is_of o p ≡ true
    → HasGridEdges (a ∷ points) → surplus o j (edges_of_points p (a ∷ points)) ≡ pos (below j a) -ℤ pos
    (below j (last_of a points))
points_surplus o p j a [] own grid = omega (arith, ints)
points_surplus o p j a (b ∷ points) own grid =
    let first = along o p j a b (line_of a b) _ own refl (found_line a b (All-head IsOnGrid (a, b) (edges_of (b ∷ points)) grid)) in
    let later = points_surplus o p j b points own (All-tail IsOnGrid (a, b) (edges_of (b ∷ points)) grid) in
    surplus-append o j (edge_of_pair p (a, b)) (edges_of_points p (b ∷ points)) ∙ (rw (first, later) (omega (arith, ints)))

closed_surplus : (o p : Operand) (j : ℤ) (a : Point) (points : List Point) → is_of o p ≡ true
    → HasGridEdges (a ∷ points) → last_of a points ≡ a → surplus o j (edges_of_points p (a ∷ points)) ≡ pos 0
closed_surplus o p j a points own grid closed =
    let e : below j (last_of a points) ≡ below j a = ap (below j) closed in
    points_surplus o p j a points own grid ∙ (rw e (omega (arith, ints)))

other_along : (o p : Operand) (j : ℤ) (a b : Point) (found : Option Line) (up : Bool) → is_of o p ≡ false
    → int_lt a.y b.y ≡ up → surplus o j (option_to_list (edge_along p a b found)) ≡ pos 0
other_along o p j a b None up other k = omega (arith, ints)
other_along o p j a b (Some line) true other k = rw k (one_edge o j (edge_parts a.y b.y line true p) ∙ (rw other (omega (arith, ints))))
other_along o p j a b (Some line) false other k = rw k (one_edge o j (edge_parts b.y a.y line false p) ∙ (rw other (omega (arith, ints))))

other_points : (o p : Operand) (j : ℤ) (points : List Point) → is_of o p ≡ false → surplus o j (edges_of_points p points) ≡ pos 0
other_points o p j [] other = omega (arith, ints)
other_points o p j (a ∷ []) other = omega (arith, ints)
other_points o p j (a ∷ b ∷ points) other =
    let first = other_along o p j a b (line_of a b) _ other refl in
    let later = other_points o p j (b ∷ points) other in
    surplus-append o j (edge_of_pair p (a, b)) (edges_of_points p (b ∷ points)) ∙ (rw (first, later) (omega (arith, ints)))

ring_surplus : (o : Operand) (own : Bool) (j dx dy : ℤ) (z : Trapezoid) → is_of o A ≡ own → IsRectangle dx dy
    → IsLegal z → surplus o j (edges_of_grown dx dy z) ≡ pos 0
ring_surplus o true j dx dy z e r legal =
    closed_surplus o A j (lower_left dx dy z)
    (left_bend dx dy z.y0 z.y1 z.left ∷ upper_left dx dy z ∷ upper_right dx dy z ∷ right_bend dx dy z.y0 z.y1 z.right
    ∷ lower_right dx dy z ∷ lower_left dx dy z ∷ []) e (ring_on_grid dx dy z r legal) refl
ring_surplus o false j dx dy z e r legal = other_points o A j (grown_ring dx dy z) e

list_surplus : (o : Operand) (j dx dy : ℤ) (traps : List Trapezoid) → IsRectangle dx dy → All IsLegal traps
    → surplus o j (flat_map (edges_of_grown dx dy) traps) ≡ pos 0
list_surplus o j dx dy [] r legal = omega (arith, ints)
list_surplus o j dx dy (z ∷ traps) r legal =
    let first = ring_surplus o _ j dx dy z refl r (All-head IsLegal z traps legal) in
    let later = list_surplus o j dx dy traps r (All-tail IsLegal z traps legal) in
    surplus-append o j (edges_of_grown dx dy z) (flat_map (edges_of_grown dx dy) traps) ∙ (rw (first, later) (omega (arith, ints)))

same_count : (a b : ℕ) → pos a -ℤ pos b ≡ pos 0 → a ≡ b
same_count a b h = omega (arith, ints)

pub grown_are_balanced : (dx dy : ℤ) (traps : List Trapezoid) (o : Operand) (row : ℤ) → IsRectangle dx dy → All IsLegal traps
    → count_by (λ e. is_of o e.operand && (e.up && spans e row)) (flat_map (edges_of_grown dx dy) traps) ≡ count_by
    (λ e. is_of o e.operand && (not e.up && spans e row)) (flat_map (edges_of_grown dx dy) traps)
grown_are_balanced dx dy traps o row r legal = same_count _ _ (list_surplus o row dx dy traps r legal)
