-- The winding of edges, list by list.
use Rattle.std.proofs.Common.{◌≡◌, ◌≢◌, ℕ, ◌+◌, Bool, true, false, ◌&&◌, pos, ◌+ℤ◌, ◌-ℤ◌, arith, refl, ◌∙◌, List, [], ◌∷◌, ◌++◌, count_by}
use Rattle.std.proofs.lemmas.Int.{ints}
use Rattle.std.proofs.lemmas.List.Sums.{sum_by-append}
use Rattle.std.proofs.lemmas.List.Elements.{All-head, All-tail}
use Rattle.std.specs.List.{All, flat_map}
use Rattle.std.specs.Prelude.{int_le, int_lt}
use Rattle.half_grid.specs.Lines.{strip_along, first_strip}
use Rattle.half_grid.specs.Winding.{count_one}
use Rattle.half_grid.specs.Trapezoids.{Trapezoid, IsInTrapezoid, IsLegal, count_in, trapezoid_has}
use Rattle.half_grid.specs.Edges.{EdgeParts, edges_of_trapezoid, edges_winding, winds_up, winds_down, is_of, left_edge, right_edge}
use Rattle.half_grid.specs.declared.plane.Tile.{Tile}
use Rattle.half_grid.specs.declared.border.Operand.{Operand}
use Rattle.half_grid.specs.declared.border.Operand.TheVariants.{A, B}
use Rattle.half_grid.proofs.WindingLemmas.{count_by-cons}
use Rattle.half_grid.proofs.RingLemmas.{is_beyond, inside_left, inside_right, outside_same, int_le_true, int_lt_true, int_le_yes, int_lt_yes}
use Rattle.half_grid.proofs.LineLemmas.{and_both}

sum_of_differences : (a b c d e f : ℕ) → a ≡ c + e → b ≡ d + f → pos a -ℤ pos b ≡ (pos c -ℤ pos d) +ℤ (pos e -ℤ pos f)
sum_of_differences a b c d e f h k = omega (arith, ints)

pub windings_add : (o : Operand) (es fs : List EdgeParts) (t : Tile) → edges_winding o (es ++ fs) t ≡ edges_winding o es t +ℤ edges_winding o fs t
unfolding edges_winding
windings_add o es fs t = sum_of_differences _ _ _ _ _ _ (sum_by-append _ es fs) (sum_by-append _ es fs)

is_of_itself : (o : Operand) → is_of o o ≡ true
is_of_itself A = refl
is_of_itself B = refl

is_of_other : (o p : Operand) → o ≢ p → is_of o p ≡ false
is_of_other A A h = absurd (h refl)
is_of_other A B h = refl
is_of_other B A h = refl
is_of_other B B h = absurd (h refl)

two_counts : (p : EdgeParts → Bool) (e f : EdgeParts) → count_by p (e ∷ f ∷ []) ≡ count_one (p e) + count_one (p f)
two_counts p e f = let later = count_by-cons p f [] in count_by-cons p e (f ∷ []) ∙ (rw later (omega arith))

pub pair_winding : (o : Operand) (z : Trapezoid) (t : Tile) → edges_winding o (edges_of_trapezoid o z) t ≡ pos
    (count_one (is_beyond t z.left z.y0 z.y1)) -ℤ pos (count_one (is_beyond t z.right z.y0 z.y1))
unfolding edges_winding
pair_winding o z t =
    let up = two_counts (winds_up o t) (left_edge z o) (right_edge z o) in
    let down = two_counts (winds_down o t) (left_edge z o) (right_edge z o) in
    rw (up, down, is_of_itself o) (omega (arith, ints))

pub one_inside : (o : Operand) (z : Trapezoid) (t : Tile) → IsLegal z → IsInTrapezoid z t → edges_winding o (edges_of_trapezoid o z) t ≡ pos 1
one_inside o z t legal h = pair_winding o z t ∙ (rw (inside_left z t h, inside_right z t h) refl)

pub none_outside : (o : Operand) (z : Trapezoid) (t : Tile) → IsLegal z → (IsInTrapezoid z t → ⊥) → edges_winding o (edges_of_trapezoid o z) t ≡ pos 0
none_outside o z t legal h = pair_winding o z t ∙ (rw (outside_same z t legal h) (omega (arith, ints)))

-- whether a trapezoid has a tile, as a test and as a fact
pub has_in : (t : Tile) (z : Trapezoid) → trapezoid_has t z ≡ true → IsInTrapezoid z t
has_in t z h =
    let p = and_both (int_le z.y0 t.j && int_lt t.j z.y1)
    (int_le (first_strip z.left) (strip_along z.left t) && int_lt (strip_along z.right t)
    (first_strip z.right)) h in
    let q = and_both (int_le z.y0 t.j) (int_lt t.j z.y1) p.0 in
    let s = and_both (int_le (first_strip z.left) (strip_along z.left t)) (int_lt (strip_along z.right t) (first_strip z.right)) p.1 in
    record { above_bottom = int_le_true _ _ q.0; below_top = int_lt_true _ _ q.1; right_of_left = int_le_true _ _ s.0; left_of_right = int_lt_true _ _ s.1 }

pub in_has : (t : Tile) (z : Trapezoid) → IsInTrapezoid z t → trapezoid_has t z ≡ true
in_has t z h = rw (int_le_yes _ _ h.above_bottom, int_lt_yes _ _ h.below_top, int_le_yes _ _ h.right_of_left, int_lt_yes _ _ h.left_of_right) refl

pair_count_by : (b : Bool) (o : Operand) (z : Trapezoid) (t : Tile) → trapezoid_has t z ≡ b → IsLegal z
    → edges_winding o (edges_of_trapezoid o z) t ≡ pos (count_one b)
pair_count_by true o z t e legal = one_inside o z t legal (has_in t z e)
pair_count_by false o z t e legal = none_outside o z t legal (λ h. (let yes = in_has t z h in cc))

no_edges : (o : Operand) (t : Tile) → edges_winding o [] t ≡ pos 0
unfolding edges_winding
no_edges o t = refl

pub winding_is_count : (o : Operand) (traps : List Trapezoid) (t : Tile) → All IsLegal traps
    → edges_winding o (flat_map (edges_of_trapezoid o) traps) t ≡ pos (count_in traps t)
winding_is_count o [] t legal = no_edges o t
winding_is_count o (z ∷ traps) t legal =
    let first = pair_count_by _ o z t refl (All-head IsLegal z traps legal) in
    let later = winding_is_count o traps t (All-tail IsLegal z traps legal) in
    windings_add o (edges_of_trapezoid o z) (flat_map (edges_of_trapezoid o) traps) t
    ∙ (rw (first, later, count_by-cons (trapezoid_has t) z traps) (omega (arith, ints)))

other_pair : (o p : Operand) (z : Trapezoid) (t : Tile) → o ≢ p → edges_winding o (edges_of_trapezoid p z) t ≡ pos 0
unfolding edges_winding
other_pair o p z t h =
    let up = two_counts (winds_up o t) (left_edge z p) (right_edge z p) in
    let down = two_counts (winds_down o t) (left_edge z p) (right_edge z p) in
    rw (up, down, is_of_other o p h) (omega (arith, ints))

pub operands_apart : (o p : Operand) (traps : List Trapezoid) (t : Tile) → o ≢ p → edges_winding o (flat_map (edges_of_trapezoid p) traps) t ≡ pos 0
operands_apart o p [] t h = no_edges o t
operands_apart o p (z ∷ traps) t h =
    windings_add o (edges_of_trapezoid p z) (flat_map (edges_of_trapezoid p) traps) t
    ∙ (rw (other_pair o p z t h, operands_apart o p traps t h) refl)
