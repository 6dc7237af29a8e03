-- The seams of an area, swept again: what is maximal in them is maximal in the whole.
use Rattle.std.proofs.Common.{◌≡◌, ℕ, suc, zero, ◌+◌, ◌<◌, ◌≤◌, ℤ, pos, ◌-ℤ◌, ◌≤ℤ◌, ◌<ℤ◌, Bool, true, false, ◌&&◌, not}
use Rattle.std.proofs.Common.{add_comm, count_by, arith, refl, sym, ap, ◌∙◌, subst, List, [], ◌∷◌, ◌++◌}
use Rattle.std.proofs.lemmas.Int.{ints, by_lt_z}
use Rattle.std.proofs.lemmas.List.Elements.{All-append, All-weaker, All-contains, All-nil, All-head, All-tail}
use Rattle.std.proofs.lemmas.List.Sorted.{All-permutation, sum_by-IsPermutation}
use Rattle.std.specs.List.{All, Contains, flat_map}
use Rattle.std.specs.Ordering.{int_eq}
use Rattle.std.specs.Prelude.{IsPermutation}
use mathlib.Core.Logic.{inl, inr}
use Rattle.std.proofs.lemmas.List.Sums.{sum_by-append}
use Rattle.half_grid.specs.Winding.{count_one}
use Rattle.half_grid.specs.declared.border.Operand.{Operand}
use Rattle.scan_line.specs.Runs.{IsBalancedAt}
use Rattle.half_grid.specs.Edges.{EdgeParts, edges_of_trapezoid, edges_winding, spans, is_of, left_edge, right_edge}
use Rattle.half_grid.specs.JoinedLists.{IsJoined, StandInOrder, StandsBefore}
use Rattle.half_grid.specs.Rows.{place}
use Rattle.half_grid.specs.Trapezoids.{Trapezoid, IsLegal, CoversExactly, count_in, trapezoid_has}
use Rattle.half_grid.specs.Windows.{RowRange}
use Rattle.half_grid.specs.declared.plane.Tile.{Tile}
use Rattle.half_grid.specs.declared.border.Operand.TheVariants.{A, B}
use Rattle.half_grid.proofs.ForCallers.{has_in, in_has, winding_is_count, count_by-cons, tile_with, legal_places}
use Rattle.trap_join.specs.Joins.{IsTakenIn}
use Rattle.trap_join.specs.Maximal.{IsMaximal}
use Rattle.trap_join.proofs.ForCallers.{found, counted, none_counted, all_members, maximal_joined, in_at}
use Rattle.column_sweep.specs.ColumnLaws.{Rest}
use Rattle.column_sweep.specs.Sewing.{CoverTogether, HasTile, IsPiece, AreSewn, HaveSameTiles, StandsNotAfter, StandSorted}
use Rattle.column_sweep.proofs.Progressing.{same_area, count_append, Has, some_or_none, joined_member}
use Rattle.column_sweep.proofs.Rests.{other_is_maximal}

-- ---- the two edges of each trapezoid are in balance

two_counts : (p : EdgeParts → Bool) (e f : EdgeParts) → count_by p (e ∷ f ∷ []) ≡ count_one (p e) + count_one (p f)
two_counts p e f = count_by-cons p e (f ∷ []) ∙ (rw (count_by-cons p f []) (omega arith))

pair_balanced : (o p : Operand) (z : Trapezoid) (j : ℤ) → IsBalancedAt (edges_of_trapezoid p z) o j
pair_balanced o p z j =
    two_counts (λ e. is_of o e.operand && (e.up && spans e j)) (left_edge z p) (right_edge z p)
    ∙ add_comm (count_one (is_of o p && (true && spans (left_edge z p) j))) (count_one (is_of o p && (false && spans (left_edge z p) j)))
    ∙ sym (two_counts (λ e. is_of o e.operand && (not e.up && spans e j)) (left_edge z p) (right_edge z p))

-- two lists in balance are in balance together
both_balanced : (es fs : List EdgeParts) (o : Operand) (j : ℤ) → IsBalancedAt es o j → IsBalancedAt fs o j → IsBalancedAt (es ++ fs) o j
both_balanced es fs o j h k = sum_by-append _ es fs ∙ (rw (h, k) (sym (sum_by-append _ es fs)))

pub seams_balanced : (o p : Operand) (traps : List Trapezoid) (j : ℤ) → IsBalancedAt (flat_map (edges_of_trapezoid p) traps) o j
seams_balanced o p [] j = refl
seams_balanced o p (z ∷ traps) j =
    both_balanced (edges_of_trapezoid p z) (flat_map (edges_of_trapezoid p) traps) o j (pair_balanced o p z j) (seams_balanced o p traps j)

-- ---- the seams as an area

nonzero : (w : ℤ) (n : ℕ) → w ≡ pos n → true ≡ not (int_eq w (pos 0)) → 0 < n
nonzero w zero e h = absurd (grind (arith, ints, e, h))
nonzero w (suc n) e h = omega arith

is_nonzero : (w : ℤ) (n : ℕ) → w ≡ pos n → 0 < n → true ≡ not (int_eq w (pos 0))
is_nonzero w zero e h = absurd (omega (arith, h))
is_nonzero w (suc n) e h = grind (arith, ints, e)

module _ (window : RowRange) (seams : List Trapezoid) (pieces : All (IsPiece window) seams) (post : ℤ → ℤ → Bool → Type 0)
    (only : (x y : ℤ) (r : Bool) → post x y r → r ≡ not (int_eq x (pos 0))) (allowed : (x y : ℤ) → post x y (not (int_eq x (pos 0)))) where
  wound : (t : Tile) → edges_winding A (flat_map (edges_of_trapezoid A) seams) t ≡ pos (count_in seams t)
  wound t = winding_is_count A seams t (All-weaker (IsPiece window) IsLegal (λ z p. p.legal) seams pieces)

  pub taken_has : (t : Tile) → IsTakenIn post (flat_map (edges_of_trapezoid A) seams) window t → Has seams t
  taken_has t h = nonzero _ (count_in seams t) (wound t) (only _ _ true h.taken)

  pub has_taken : (t : Tile) → Has seams t → IsTakenIn post (flat_map (edges_of_trapezoid A) seams) window t
  has_taken t h =
      let f = found t seams h in
      let in_it = has_in t f.0 f.2 in
      let rows = (All-contains (IsPiece window) seams f.0 pieces f.1).in_window in
      let low = rows.low in
      let high = rows.high in
      let bottom = in_it.above_bottom in
      let top = in_it.below_top in
      record {
        from = omega (arith, ints, low, bottom);
        below = omega (arith, ints, high, top);
        taken = subst (post (edges_winding A (flat_map (edges_of_trapezoid A) seams) t)
            (edges_winding B (flat_map (edges_of_trapezoid A) seams) t))
            (sym (is_nonzero _ (count_in seams t) (wound t) h)) (allowed _ _);
      }

-- ---- sewn again

no_count : (n : ℕ) → (0 < n → ⊥) → n ≡ 0
no_count zero h = refl
no_count (suc n) h = absurd (h (omega arith))

module _ (window : RowRange) (finals seams more rest : List Trapezoid) (sewn : AreSewn window finals seams) (again : AreSewn window more rest)
    (area : Tile → Type 0) (to : (t : Tile) → area t → Has seams t) (back : (t : Tile) → Has seams t → area t) (covers : CoverTogether area more rest) where
  same_rest : (t : Tile) → count_in more t + count_in rest t ≡ count_in seams t
  same_rest t =
      elim (some_or_none (count_in seams t)) [
        | inl some ↦ (let one = covers.once t (back t some) in let most = sewn.apart t in omega (arith, one, some, most))
        | inr none ↦ (let no = covers.never t (λ a. none (to t a)) in let n = no_count (count_in seams t) none in omega (arith, no, n))
      ]

  total : (t : Tile) → count_in (finals ++ more) t + count_in rest t ≡ count_in finals t + count_in seams t
  total t = let a = count_append finals more t in let b = same_rest t in omega (arith, a, b)

  rest_has : (t : Tile) → HasTile more rest t → Rest (HasTile finals seams) finals t
  rest_has t h =
      let b = same_rest t in
      let most = sewn.apart t in
      (omega (arith, h, b), λ z has in_z. (let some = counted t z finals has (in_has t z in_z) in omega (arith, some, most, h, b)))

  has_rest : (t : Tile) → Rest (HasTile finals seams) finals t → HasTile more rest t
  has_rest t h =
      let b = same_rest t in
      let none = none_counted t finals (λ f. h.1 f.0 f.1 (has_in t f.0 f.2)) in
      let some = h.0 in
      omega (arith, b, none, some)

  to_now : (t : Tile) → HasTile finals seams t → HasTile (finals ++ more) rest t
  to_now t h = let n = total t in omega (arith, h, n)

  from_now : (t : Tile) → HasTile (finals ++ more) rest t → HasTile finals seams t
  from_now t h = let n = total t in omega (arith, h, n)

  kept : (z : Trapezoid) → IsMaximal (HasTile finals seams) window z → IsMaximal (HasTile (finals ++ more) rest) window z
  kept z m = same_area (HasTile finals seams) (HasTile (finals ++ more) rest) window to_now from_now z m

  won : (z : Trapezoid) → IsMaximal (HasTile more rest) window z → IsMaximal (HasTile (finals ++ more) rest) window z
  won z m = kept z (other_is_maximal (HasTile finals seams) window finals sewn.maximal z
      (same_area (HasTile more rest) (Rest (HasTile finals seams) finals) window rest_has has_rest z m))

  pub sewn_again : AreSewn window (finals ++ more) rest
  sewn_again = record {
    maximal = All-append (IsMaximal (HasTile (finals ++ more) rest) window) finals more
        (All-weaker (IsMaximal (HasTile finals seams) window) (IsMaximal (HasTile (finals ++ more) rest) window) kept finals sewn.maximal)
        (All-weaker (IsMaximal (HasTile more rest) window) (IsMaximal (HasTile (finals ++ more) rest) window) won more again.maximal);
    pieces = again.pieces;
    apart = λ t. (let n = total t in let most = sewn.apart t in omega (arith, n, most));
  }

  pub same_again : HaveSameTiles (finals ++ more) rest finals seams
  same_again = total

pub joined_sewn : (window : RowRange) (traps : List Trapezoid) → IsJoined window traps → AreSewn window traps []
joined_sewn window traps joined = record {
  maximal = all_members (IsMaximal (HasTile traps []) window) traps
      (λ z h. same_area (Has traps) (HasTile traps []) window (λ t k. omega (arith, k)) (λ t k. omega (arith, k)) z
      (joined_member window traps joined z h));
  pieces = All-nil (IsPiece window);
  apart = λ t. (let most = joined.apart t in omega (arith, most));
}

pub joined_covers : (area : Tile → Type 0) (traps : List Trapezoid) → CoversExactly traps area → CoverTogether area traps []
joined_covers area traps covers =
    record {
      once = λ t a. (let n = covers.once t a in omega (arith, n));
      never = λ t no.
          (let n = covers.never t no in omega (arith, n));
    }

-- ---- the order of joined lists

counts_first : (t : Tile) (z : Trapezoid) (zs : List Trapezoid) → trapezoid_has t z ≡ true → count_in (z ∷ zs) t ≡ 1 + count_in zs t
counts_first t z zs h = count_by-cons (trapezoid_has t) z zs ∙ (rw h refl)

counts_later : (t : Tile) (z : Trapezoid) (zs : List Trapezoid) → count_in zs t ≤ count_in (z ∷ zs) t
counts_later t z zs = let all = count_by-cons (trapezoid_has t) z zs in omega (arith, all)

module _ (z w : Trapezoid) (zs : List Trapezoid) (legal_z : IsLegal z) (legal_w : IsLegal w) (has : Contains zs w)
    (apart : (t : Tile) → count_in (z ∷ zs) t ≤ 1) where
  same_place : z.y1 ≡ w.y1 → place z.left (z.y1 -ℤ pos 1) ≡ place w.left (w.y1 -ℤ pos 1) → ⊥
  same_place top same =
      let rows_z = legal_z.has_rows in
      let rows_w = legal_w.has_rows in
      let j : ℤ = z.y1 -ℤ pos 1 in
      let p : ℤ = place z.left j in
      let level : w.y1 -ℤ pos 1 ≡ j = ap (λ (y : ℤ). y -ℤ pos 1) (sym top) in
      let at : place w.left j ≡ p = subst (λ (y : ℤ). place w.left y ≡ p) level (sym same) in
      let low_z : z.y0 ≤ℤ j = omega (arith, ints, rows_z) in
      let high_z : j <ℤ z.y1 = omega (arith, ints) in
      let low_w : w.y0 ≤ℤ j = omega (arith, ints, rows_w, top) in
      let high_w : j <ℤ w.y1 = omega (arith, ints, top) in
      let right_z = legal_places z j legal_z low_z high_z in
      let right_w = legal_places w j legal_w low_w high_w in
      let t = tile_with p j in
      let in_z = in_has t z (in_at z p j low_z high_z (omega (arith, ints)) right_z) in
      let in_w = in_has t w (in_at w p j low_w high_w (omega (arith, ints, at)) (omega (arith, ints, at, right_w))) in
      let later = counted t w zs has in_w in
      let all = counts_first t z zs in_z in
      let most = apart t in
      omega (arith, later, all, most)

  before_or_same : StandsNotAfter z w → StandsBefore z w
  before_or_same (inl lt) = inl lt
  before_or_same (inr h) =
      by_lt_z (place z.left (z.y1 -ℤ pos 1)) (place w.left (w.y1 -ℤ pos 1))
      (λ lt. inr (h.0, lt))
      (λ ge. (let le = h.1 in absurd (same_place h.0 (omega (arith, ints, ge, le)))))

pub in_strict_order : (traps : List Trapezoid) → StandSorted traps → All IsLegal traps → ((t : Tile) → count_in traps t ≤ 1) → StandInOrder traps
in_strict_order [] sorted legal apart = tt
in_strict_order (z ∷ zs) sorted legal apart = (
  all_members (StandsBefore z) zs
      (λ w h. before_or_same z w zs (All-head IsLegal z zs legal)
      (All-contains IsLegal zs w (All-tail IsLegal z zs legal) h) h apart
      (All-contains (StandsNotAfter z) zs w sorted.0 h)),
  in_strict_order zs sorted.1 (All-tail IsLegal z zs legal) (λ t. (let fewer = counts_later t z zs in let most = apart t in omega (arith, fewer, most))),
)

-- ---- all of them, in order

pub permuted_sewn : (window : RowRange) (traps sorted : List Trapezoid) → IsPermutation traps sorted → AreSewn window traps [] → AreSewn window sorted []
permuted_sewn window traps sorted same sewn = record {
  maximal = all_members (IsMaximal (HasTile sorted []) window) sorted
      (λ z h. same_area (HasTile traps []) (HasTile sorted []) window
      (λ t k. (let n = counts t in omega (arith, n, k))) (λ t k. (let n = counts t in omega (arith, n, k))) z
      (All-contains (IsMaximal (HasTile traps []) window) sorted z (All-permutation (IsMaximal (HasTile traps []) window) traps sorted same sewn.maximal) h));
  pieces = All-nil (IsPiece window);
  apart = λ t. (let n = counts t in let most = sewn.apart t in omega (arith, n, most));
}
  where
    counts : (t : Tile) → count_in sorted t ≡ count_in traps t
    counts t = sum_by-IsPermutation _ traps sorted same

pub permuted_count : (traps sorted : List Trapezoid) (t : Tile) → IsPermutation traps sorted
    → count_in sorted t + count_in [] t ≡ count_in traps t + count_in [] t
permuted_count traps sorted t same = let n : count_in sorted t ≡ count_in traps t = sum_by-IsPermutation _ traps sorted same in omega (arith, n)

pub sorted_joined : (window : RowRange) (traps : List Trapezoid) → AreSewn window traps [] → StandSorted traps → IsJoined window traps
sorted_joined window traps sewn sorted =
    maximal_joined (HasTile traps []) window traps
    (in_strict_order traps sorted
    (All-weaker (IsMaximal (HasTile traps []) window) IsLegal (λ z m. m.legal) traps sewn.maximal)
    (λ t. (let most = sewn.apart t in omega (arith, most))))
    sewn.maximal (λ t h. found t traps (omega (arith, h)))

-- and they cover what both lists covered
pub covers_all : (area : Tile → Type 0) (traps finals seams : List Trapezoid) → HaveSameTiles traps [] finals seams
    → CoverTogether area finals seams → CoversExactly traps area
covers_all area traps finals seams same covers = record {
  once = λ t a. (let n = same t in let one = covers.once t a in omega (arith, n, one));
  never = λ t no. (let n = same t in let none = covers.never t no in omega (arith, n, none));
}
