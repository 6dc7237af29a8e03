-- The counts of trapezoids in rows of windows that are held at once.
use Rattle.std.proofs.Common.{ℕ, zero, suc, ◌+◌, ◌<◌, ◌≤◌, ◌≡◌, ◌≢◌, ◌⊎◌, inl, inr, ℤ, pos, ◌+ℤ◌, ◌-ℤ◌, ◌*ℤ◌, ◌≤ℤ◌}
use Rattle.std.proofs.Common.{◌<ℤ◌, Bool, true, false, nat_lt, List, [], ◌∷◌, ◌++◌, length, get_or, take, set, arith}
use Rattle.std.proofs.Common.{refl, sym, ap, subst, ◌∙◌}
use Rattle.std.proofs.lemmas.Int.{ints}
use Rattle.std.proofs.lemmas.Bool.Decides.{nat_tests}
use Rattle.std.proofs.lemmas.List.{take_more, length-append, length-set, get_or_push, get_or_append_left, get_or-set_same, get_or-set_other}
use Rattle.std.proofs.lemmas.List.Elements.{All-head, All-tail}
use Rattle.std.proofs.lemmas.List.Sums.{sum_by-cons, sum_by_push}
use Rattle.std.specs.Int.{int_gap}
use Rattle.std.specs.List.{All}
use Rattle.half_grid.specs.Trapezoids.{Trapezoid, IsInTrapezoid, count_in, trapezoid_has}
use Rattle.half_grid.specs.Winding.{count_one}
use Rattle.half_grid.specs.declared.plane.Tile.{Tile}
use Rattle.half_grid.proofs.ForCallers.{has_in, count_by-cons}
use Rattle.density_map.specs.Frames.{IsInFrame, count_in_frame}
use Rattle.density_map.specs.Rows.{RowMap, row_map, AreApart, IsAdded}
use Rattle.density_map.specs.Windows.{IsWindowSize, IsTakenInWindow, window, window_sum}
use Rattle.density_map.proofs.ForCallers.{sum_is_count, one_more, multiples, gap_is}
use Rattle.deck_plan.specs.Plans.{Planned, planned_area}
use Rattle.density_report.specs.declared.strips.Batch.{Batch}
use Rattle.density_report.specs.Rows.{AreCountsFrom, AreMapsOf, ArePlacesOf, AreRowCounts, AreTrapsOf, HasNone, IsBatch, IsMapAt}
use Rattle.density_report.proofs.NumberLemmas.{number_none, one_number}
use Rattle.density_report.proofs.RowSteps.{first_apart, row_counts}
use Rattle.density_report.proofs.TableLemmas.{some_size}

-- ---- a row of windows that a trapezoid doesn't meet

one_bit : (b : Bool) → count_one b ≤ 1
one_bit true = omega arith
one_bit false = omega arith

none_of_one : (n : ℕ) → n ≤ 1 → (n ≡ 1 → ⊥) → n ≡ 0
none_of_one zero h out = refl
none_of_one (suc zero) h out = absurd (out refl)
none_of_one (suc (suc n)) h out = absurd (omega (arith, h))

alone : (z : Trapezoid) → AreApart (z ∷ [])
alone z t = let one = count_by-cons (trapezoid_has t) z [] in let bit = one_bit (trapezoid_has t z) in omega (arith, one, bit)

in_alone : (z : Trapezoid) (t : Tile) (b : Bool) → trapezoid_has t z ≡ b → count_in (z ∷ []) t ≡ 1 → IsInTrapezoid z t
in_alone z t true e one = has_in t z e
in_alone z t false e one = absurd (let all = count_by-cons (trapezoid_has t) z [] in let none = ap count_one e in omega (arith, all, none, one))

none_met : (size i j : ℤ) (z : Trapezoid) → ((t : Tile) → IsInFrame (window size i j) t → IsInTrapezoid z t → ⊥) → count_in_frame (window size i j) z ≡ 0
none_met size i j z out =
    let counted = sum_is_count (λ t. count_in (z ∷ []) t ≡ 1) size i j (z ∷ []) (alone z)
    (λ t h. (λ e. e, λ no. none_of_one (count_in (z ∷ []) t) (alone z t) no)) in
    let none = number_none (IsTakenInWindow (λ t. count_in (z ∷ []) t ≡ 1) size i j) (λ t h. out t h.inside (in_alone z t (trapezoid_has t z) refl h.taken)) in
    let same = one_number (IsTakenInWindow (λ t. count_in (z ∷ []) t ≡ 1) size i j) (window_sum size i j (z ∷ [])) 0 counted none in
    let one = sum_by-cons (count_in_frame (window size i j)) z [] in
    omega (arith, same, one)

-- it adds nothing to the counts
not_met : (size row : ℤ) (m : RowMap) (seen : List Trapezoid) (z : Trapezoid) → IsMapAt size row seen m
    → ((i : ℤ) (t : Tile) → IsInFrame (window size i row) t → IsInTrapezoid z t → ⊥) → IsMapAt size row (seen ++ z ∷ []) m
not_met size row m seen z at out = record {
  size_is = at.size_is;
  row_is = at.row_is;
  counted = λ i. by i m.size m.row at.size_is at.row_is (at.counted i);
}
  where
    by : (i s r : ℤ) → s ≡ size → r ≡ row → {n : ℕ} → n ≡ window_sum s i r seen → n ≡ window_sum s i r (seen ++ z ∷ [])
    by i s r e f {n} counted =
        let pushed = sum_by_push (count_in_frame (window s i r)) seen z in
        let none = none_met s i r z
        (λ t inside. out i t
        (subst (λ (y : ℤ). IsInFrame (window size i y) t) f
        (subst (λ (x : ℤ). IsInFrame (window x i r) t) e inside))) in
        omega (arith, counted, pushed, none)

above_it : (batch : Batch) (z : Trapezoid) (from to at : ℕ) → IsWindowSize batch.mesh.size → ArePlacesOf batch z from to → at < from
    → (i : ℤ) (t : Tile) → IsInFrame (window batch.mesh.size i (batch.end -ℤ pos (at + 1))) t → IsInTrapezoid z t → ⊥
above_it batch z from to at h p less i t inside in_it =
    let up = multiples (batch.end -ℤ pos from) (batch.end -ℤ pos (at + 1)) batch.mesh.size (some_size batch.mesh.size h) (omega (arith, ints, less)) in
    let top = p.above in
    let low = inside.above_bottom in
    let high = in_it.below_top in
    omega (arith, ints, up, top, low, high)

below_it : (batch : Batch) (z : Trapezoid) (from to at : ℕ) → IsWindowSize batch.mesh.size → ArePlacesOf batch z from to → to ≤ at
    → (i : ℤ) (t : Tile) → IsInFrame (window batch.mesh.size i (batch.end -ℤ pos (at + 1))) t → IsInTrapezoid z t → ⊥
below_it batch z from to at h p more i t inside in_it =
    let up = multiples ((batch.end -ℤ pos (at + 1)) +ℤ pos 1) (batch.end -ℤ pos to) batch.mesh.size (some_size batch.mesh.size h) (omega (arith, ints, more)) in
    let bottom = p.below in
    let high = inside.below_top in
    let low = in_it.above_bottom in
    omega (arith, ints, up, bottom, low, high)

-- ---- one more trapezoid

-- the places that it meets are done up to one, and the others have what they had
pub record AreDoneTo (size end : ℤ) (before after : List Trapezoid) (from at : ℕ) (maps : List RowMap) : Type 0 where
  pub done : (k : ℕ) (d : RowMap) → from ≤ k → k < at → IsMapAt size (end -ℤ pos (k + 1)) after (get_or maps k d)
  pub rest : (k : ℕ) (d : RowMap) → k < length maps → (k < from) ⊎ (at ≤ k) → IsMapAt size (end -ℤ pos (k + 1)) before (get_or maps k d)

pub none_done : (size end : ℤ) (before after : List Trapezoid) (from : ℕ) (maps : List RowMap)
    → AreMapsOf size end before maps → AreDoneTo size end before after from from maps
none_done size end before after from maps are = record {
  done = λ k d up less. absurd (omega (arith, up, less));
  rest = λ k d inside side. are k d inside;
}

-- the trapezoids up to the next one
pub next_traps : (traps : List Trapezoid) (next : ℕ) (z : Trapezoid) → next < length traps → z ≡ get_or traps next z
    → take (next + 1) traps ≡ take next traps ++ z ∷ []
next_traps traps next z less is = take_more traps next z less ∙ ap (λ x. take next traps ++ x ∷ []) (sym is)

pub next_apart : (traps : List Trapezoid) (next : ℕ) (z : Trapezoid) → next < length traps → z ≡ get_or traps next z
    → AreApart traps → AreApart (take next traps ++ z ∷ [])
next_apart traps next z less is apart = subst (λ (ts : List Trapezoid). AreApart ts) (next_traps traps next z less is) (first_apart traps (next + 1) apart)

-- the map at the place, with one more
pub added_at : (size row : ℤ) (before : List Trapezoid) (z : Trapezoid) (m new : RowMap) → IsMapAt size row before m
    → IsAdded m z new → IsMapAt size row (before ++ z ∷ []) new
added_at size row before z m new at added = record {
  size_is = added.size ∙ at.size_is;
  row_is = added.row ∙ at.row_is;
  counted = one_more m new before z at.counted added;
}

pub one_done : (size end : ℤ) (before after : List Trapezoid) (from at : ℕ) (maps : List RowMap) (new : RowMap)
    → at < length maps → from ≤ at → AreDoneTo size end before after from at maps
    → IsMapAt size (end -ℤ pos (at + 1)) after new → AreDoneTo size end before after from (at + 1) (set maps at new)
one_done size end before after from at maps new inside up so_far now = record {
  done = λ k d low less. done_by k d low less (nat_lt k at) refl;
  rest = λ k d within side. (
      let apart : k ≢ at = (λ e. other k side e) in
      let same = length-set maps at new in
      subst (λ (m : RowMap). IsMapAt size (end -ℤ pos (k + 1)) before m) (sym (get_or-set_other maps at k new d apart))
      (so_far.rest k d (omega (arith, within, same)) (later k side))
      );
}
  where
    other : (k : ℕ) → (k < from) ⊎ (at + 1 ≤ k) → k ≡ at → ⊥
    other k (inl less) e = omega (arith, less, e, up)
    other k (inr more) e = omega (arith, more, e)

    later : (k : ℕ) → (k < from) ⊎ (at + 1 ≤ k) → (k < from) ⊎ (at ≤ k)
    later k (inl less) = inl less
    later k (inr more) = inr (omega (arith, more))

    done_by : (k : ℕ) (d : RowMap) → from ≤ k → k < at + 1 → (b : Bool) → nat_lt k at ≡ b
        → IsMapAt size (end -ℤ pos (k + 1)) after (get_or (set maps at new) k d)
    done_by k d low less true e =
        let under : k < at = grind (arith, nat_tests) in
        let apart : k ≢ at = (λ f. absurd (omega (arith, f, under))) in
        subst (λ (m : RowMap). IsMapAt size (end -ℤ pos (k + 1)) after m) (sym (get_or-set_other maps at k new d apart)) (so_far.done k d low under)
    done_by k d low less false e =
        let last : at ≡ k = grind (arith, nat_tests) in
        subst (λ (n : ℕ). IsMapAt size (end -ℤ pos (n + 1)) after (get_or (set maps at new) n d)) last
        (subst (λ (m : RowMap). IsMapAt size (end -ℤ pos (at + 1)) after m) (sym (get_or-set_same maps at new d inside)) now)

-- once all places that it meets are done, all are
pub all_done : (batch : Batch) (before : List Trapezoid) (z : Trapezoid) (from to at : ℕ) (maps : List RowMap)
    → IsWindowSize batch.mesh.size → ArePlacesOf batch z from to → to ≤ at
    → AreDoneTo batch.mesh.size batch.end before (before ++ z ∷ []) from at maps → AreMapsOf batch.mesh.size batch.end (before ++ z ∷ []) maps
all_done batch before z from to at maps h p up so_far k d inside = by (nat_lt k from) refl (nat_lt k at) refl
  where
    by : (b : Bool) → nat_lt k from ≡ b → (c : Bool) → nat_lt k at ≡ c → IsMapAt batch.mesh.size (batch.end -ℤ pos (k + 1)) (before ++ z ∷ []) (get_or maps k d)
    by true e c f =
        let less : k < from = grind (arith, nat_tests) in
        not_met batch.mesh.size (batch.end -ℤ pos (k + 1)) (get_or maps k d) before z (so_far.rest k d inside (inl less)) (above_it batch z from to k h p less)
    by false e true f =
        let low : from ≤ k = grind (arith, nat_tests) in
        let less : k < at = grind (arith, nat_tests) in
        so_far.done k d low less
    by false e false f =
        let more : at ≤ k = grind (arith, nat_tests) in
        not_met batch.mesh.size (batch.end -ℤ pos (k + 1)) (get_or maps k d) before z
        (so_far.rest k d inside (inr more)) (below_it batch z from to k h p (omega (arith, more, up)))

-- ---- rows of windows with no counts yet

pub no_maps : (size end : ℤ) (traps : List Trapezoid) (maps : List RowMap) → maps ≡ [] → AreMapsOf size end traps maps
no_maps size end traps maps e at d less = absurd (let none = ap (λ (l : List RowMap). length l) e in omega (arith, none, less))

empty_at : (size row : ℤ) → IsMapAt size row [] (row_map size row [])
empty_at size row = record { size_is = refl; row_is = refl; counted = λ i. refl }

pub one_more_map : (size end : ℤ) (maps : List RowMap) (m : RowMap) (n : ℕ) → length maps ≡ n
    → m ≡ row_map size (end -ℤ pos (n + 1)) [] → AreMapsOf size end [] maps
    → AreMapsOf size end [] (maps ++ m ∷ [])
one_more_map size end maps m n count is are k d inside = by (nat_lt k n) refl
  where
    by : (b : Bool) → nat_lt k n ≡ b → IsMapAt size (end -ℤ pos (k + 1)) [] (get_or (maps ++ m ∷ []) k d)
    by true e =
        let less : k < length maps = grind (arith, nat_tests) in
        subst (λ (x : RowMap). IsMapAt size (end -ℤ pos (k + 1)) [] x) (sym (get_or_append_left maps (m ∷ []) d k less)) (are k d less)
    by false e =
        let all = length-append maps (m ∷ []) in
        let last : n ≡ k = grind (arith, nat_tests) in
        subst (λ (i : ℕ). IsMapAt size (end -ℤ pos (i + 1)) [] (get_or (maps ++ m ∷ []) i d)) last
        (subst (λ (x : RowMap). IsMapAt size (end -ℤ pos (n + 1)) [] x) (sym is ∙ sym (get_or_push maps m d n count)) (empty_at size (end -ℤ pos (n + 1))))

-- ---- the counts of an output's area

pub counts_from : (p : Planned) (k : ℕ) (batch : Batch) (traps : List Trapezoid) (maps : List RowMap) → IsBatch batch → AreTrapsOf p k batch traps
    → AreMapsOf batch.mesh.size batch.end traps maps → length maps ≡ int_gap batch.row batch.end → AreCountsFrom (planned_area p k) batch.mesh.size batch.row maps
counts_from p k batch traps maps b of are count = record {
  each = λ at d inside. (
      let size = batch.mesh.size in
      let positive = some_size size b.size in
      let all = gap_is batch.row batch.end b.ascending in
      let end : batch.end ≡ batch.row +ℤ pos (length maps) = omega (arith, ints, all, count) in
      let m = are at d inside in
      let bottom = multiples batch.row (batch.end -ℤ pos (at + 1)) size positive (omega (arith, ints, inside, all, count)) in
      let top = multiples ((batch.end -ℤ pos (at + 1)) +ℤ pos 1) batch.end size positive (omega (arith, ints)) in
      subst (λ (e : ℤ). AreRowCounts (planned_area p k) size (e -ℤ pos (at + 1)) (get_or maps at d).counts) end
      (row_counts p k batch size (batch.end -ℤ pos (at + 1)) traps (get_or maps at d) of
      (λ t low high. record { from = omega (arith, ints, bottom, low); below = omega (arith, ints, top, high) }) m.size_is m.row_is m.counted)
      );
}

-- the last map is that of the first row of windows
pub last_counts : (area : Tile → Type 0) (size row : ℤ) (maps rest : List RowMap) (m : RowMap) → maps ≡ rest ++ m ∷ []
    → AreCountsFrom area size row maps → AreRowCounts area size row m.counts
last_counts area size row maps rest m e are =
    let both = length-append rest (m ∷ []) in
    let count = ap (λ (l : List RowMap). length l) e in
    let here : (row +ℤ pos (length maps)) -ℤ pos (length rest + 1) ≡ row = omega (arith, ints, both, count) in
    let found : get_or maps (length rest) m ≡ m = ap (λ (l : List RowMap). get_or l (length rest) m) e ∙ get_or_push rest m m (length rest) refl in
    subst (λ (r : ℤ). AreRowCounts area size r m.counts) here
    (subst (λ (x : RowMap). AreRowCounts area size ((row +ℤ pos (length maps)) -ℤ pos (length rest + 1)) x.counts)
    found (are.each (length rest) m (omega (arith, both, count))))

-- and those before it are those of the rows of windows after that one
pub rest_counts : (area : Tile → Type 0) (size row : ℤ) (maps rest : List RowMap) (m : RowMap) → maps ≡ rest ++ m ∷ []
    → AreCountsFrom area size row maps → AreCountsFrom area size (row +ℤ pos 1) rest
rest_counts area size row maps rest m e are = record {
  each = λ at d inside. (
      let both = length-append rest (m ∷ []) in
      let count = ap (λ (l : List RowMap). length l) e in
      let here : (row +ℤ pos (length maps)) -ℤ pos (at + 1) ≡ ((row +ℤ pos 1) +ℤ pos (length rest)) -ℤ pos (at + 1) = omega (arith, ints, both, count) in
      let found : get_or maps at d ≡ get_or rest at d = ap (λ (l : List RowMap). get_or l at d) e ∙ get_or_append_left rest (m ∷ []) d at inside in
      subst (λ (r : ℤ). AreRowCounts area size r (get_or rest at d).counts) here
      (subst (λ (x : RowMap). AreRowCounts area size ((row +ℤ pos (length maps)) -ℤ pos (at + 1)) x.counts) found
      (are.each at d (omega (arith, both, count, inside))))
      );
}

-- where there is none
pub no_counts : (area : Tile → Type 0) (size row : ℤ) (maps : List RowMap) → maps ≡ [] → AreCountsFrom area size row maps
no_counts area size row maps e = record {
  each = λ at d inside. absurd (let none = ap (λ (l : List RowMap). length l) e in omega (arith, none, inside));
}

-- ---- rows of windows in which it has nothing

none_below : (traps : List Trapezoid) (y : ℤ) (t : Tile) → All (λ (z : Trapezoid). y ≤ℤ z.y0) traps → t.j <ℤ y → count_in traps t ≡ 0
none_below [] y t up less = refl
none_below (z ∷ traps) y t up less =
    let one = count_by-cons (trapezoid_has t) z traps in
    let rest = none_below traps y t (All-tail (λ (x : Trapezoid). y ≤ℤ x.y0) z traps up) less in
    let here = by (trapezoid_has t z) refl in
    omega (arith, one, rest, here)
  where
    by : (b : Bool) → trapezoid_has t z ≡ b → count_one (trapezoid_has t z) ≡ 0
    by true e = absurd (
        let low = (has_in t z e).above_bottom in
        let from = All-head (λ (x : Trapezoid). y ≤ℤ x.y0) z traps up in
        omega (arith, ints, low, from, less)
        )
    by false e = ap count_one e

pub none_passed : (p : Planned) (k : ℕ) (batch : Batch) (traps : List Trapezoid) (row : ℤ) → IsBatch batch
    → AreTrapsOf p k batch traps → All (λ (z : Trapezoid). (row *ℤ batch.mesh.size) ≤ℤ z.y0) traps
    → row ≤ℤ batch.end → HasNone (planned_area p k) batch.mesh.size batch.row row
none_passed p k batch traps row b of up inside t taken low high =
    let top = multiples row batch.end batch.mesh.size (some_size batch.mesh.size b.size) inside in
    let one = of.joined.covers.once t (record { rows = record { from = low; below = omega (arith, ints, top, high) }; area = taken }) in
    let none = none_below traps (row *ℤ batch.mesh.size) t up high in
    omega (arith, one, none)
