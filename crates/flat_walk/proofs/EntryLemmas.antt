-- What entries of a cell stand for.
use Rattle.std.proofs.Common.{Result, Ok, Err, OnOk, OnErr, ◌≡◌, ℕ, zero, suc, ◌+◌, ◌-◌, ◌<◌, ◌≤◌}
use Rattle.std.proofs.Common.{min, List, [], ◌∷◌, ◌++◌, Some, length, drop, replicate, slice_get, get_or, take, ◌^◌}
use Rattle.std.proofs.Common.{refl, ap, sym, subst, ◌∙◌, arith, append-nil, length-append}
use Rattle.std.specs.List.{sum_by}
use Rattle.std.proofs.lemmas.Grind.{flat_map-append}
use Rattle.std.proofs.lemmas.List.{length-replicate}
use Rattle.std.proofs.lemmas.List.Sums.{sum_by-cons}
use Rattle.std.proofs.lemmas.Option.{same_Some}
use Rattle.half_grid.specs.Trapezoids.{Trapezoid}
use Rattle.flat_walk.specs.Hands.{first_count}
use Rattle.flat_walk.specs.Kept.{Entry, lists_of, all_lists, bare, bare_ones, AreSingle}
use Rattle.flat_walk.specs.Tables.{count_within}
use Rattle.flat_walk.proofs.TableLemmas.{counted_more}

pub lists_more : (entries : List Entry) (entry : Entry) → all_lists (entries ++ entry ∷ []) ≡ all_lists entries ++ lists_of entry
lists_more entries entry = flat_map-append lists_of entries (entry ∷ []) ∙ ap (λ l. all_lists entries ++ l) (append-nil (lists_of entry))

-- ---- the first entries stand for one shape each

pub single_more : (count : ℕ) (entries : List Entry) (entry : Entry) → AreSingle count entries → AreSingle count (entries ++ entry ∷ [])
single_more zero entries entry single = tt
single_more (suc count) [] entry single = absurd single
single_more (suc count) (e ∷ entries) entry single = (single.0, single_more count entries entry single.1)

single_beside : (count : ℕ) (entries later : List Entry) → AreSingle count entries → AreSingle count (entries ++ later)
single_beside zero entries later single = tt
single_beside (suc count) [] later single = absurd single
single_beside (suc count) (e ∷ entries) later single = (single.0, single_beside count entries later single.1)

bare_single : (count : ℕ) → AreSingle count (replicate count bare)
bare_single zero = tt
bare_single (suc count) = (refl, bare_single count)

single_then : (count many next : ℕ) (entries : List Entry) → count ≡ length entries → next ≡ count + many → AreSingle count entries
    → AreSingle next (entries ++ replicate many bare)
single_then zero many next [] long is single = subst (λ n. AreSingle n (replicate many bare)) (let e : many ≡ next = omega (arith, is) in e) (bare_single many)
single_then zero many next (e ∷ entries) long is single = absurd (omega (arith, long))
single_then (suc count) many next [] long is single = absurd single
single_then (suc count) many zero (e ∷ entries) long is single = absurd (omega (arith, is))
single_then (suc count) many (suc next) (e ∷ entries) long is single =
    (single.0, single_then count many next entries (omega (arith, long)) (omega (arith, is)) single.1)

-- many entries more, each of one shape
pub single_each : (count many : ℕ) (entries all : List Entry) → all ≡ entries ++ replicate many bare → AreSingle count entries → AreSingle count all
single_each count many entries all is single = subst (AreSingle count) (sym is) (single_beside count entries (replicate many bare) single)

pub single_all : (count many next : ℕ) (entries all : List Entry) → all ≡ entries ++ replicate many bare → count ≡ length entries → next ≡ length all
    → AreSingle count entries → AreSingle next all
single_all count many next entries all is long end single =
    let e = ap length is in
    let f = length-append entries (replicate many bare) in
    let g = length-replicate many bare in
    subst (AreSingle next) (sym is) (single_then count many next entries long (omega (arith, e, f, g, long, end)) single)

none_each : (many : ℕ) → all_lists (replicate many bare) ≡ replicate many []
none_each zero = refl
none_each (suc many) = ap (λ l. [] ∷ l) (none_each many)

pub lists_each : (many : ℕ) (entries all : List Entry) → all ≡ entries ++ replicate many bare → all_lists all ≡ all_lists entries ++ replicate many []
lists_each many entries all is = ap all_lists is ∙ (flat_map-append lists_of entries (replicate many bare) ∙ ap (λ l. all_lists entries ++ l) (none_each many))

pub single_last : (count next : ℕ) (entries : List Entry) (entry : Entry) → count ≡ length entries → next ≡ count + 1 → AreSingle count entries
    → entry.more ≡ 0 → AreSingle next (entries ++ entry ∷ [])
single_last count zero entries entry long is single one = tt
single_last zero (suc next) [] entry long is single one = subst (λ n. AreSingle (suc n) (entry ∷ [])) (let e : 0 ≡ next = omega (arith, is) in e) (one, tt)
single_last (suc count) (suc next) [] entry long is single one = absurd single
single_last zero (suc next) (e ∷ entries) entry long is single one = absurd (omega (arith, long))
single_last (suc count) (suc next) (e ∷ entries) entry long is single one =
    (single.0, single_last count next entries entry (omega (arith, long)) (omega (arith, is)) single.1 one)

pub single_inside : (count : ℕ) (entries : List Entry) → AreSingle count entries → count ≤ length entries
single_inside zero entries single = omega arith
single_inside (suc count) [] single = absurd single
single_inside (suc count) (e ∷ entries) single = let h = single_inside count entries single.1 in omega (arith, h)

-- the list of a shape is that of its entry
pub single_slot : (count k : ℕ) (entries : List Entry) (entry : Entry) → AreSingle count entries → k < count → slice_get entries k ≡ Some entry
    → slice_get (all_lists entries) k ≡ Some entry.pieces
single_slot zero k entries entry single inside there = absurd (omega (arith, inside))
single_slot (suc count) k [] entry single inside there = absurd single
single_slot (suc count) zero (e ∷ entries) entry single inside there = ap (λ x. Some x.pieces) (same_Some e entry there)
single_slot (suc count) (suc k) (e ∷ entries) entry single inside there =
    ap (λ m. slice_get (replicate m [] ++ all_lists entries) k) single.0 ∙ single_slot count k entries entry single.1 (omega (arith, inside)) there

pub single_dropped : (passed count : ℕ) (entries : List Entry) → passed ≤ count → AreSingle count entries → AreSingle (count - passed) (drop passed entries)
single_dropped zero count entries few single = subst (λ n. AreSingle n entries) (let f : count ≡ count - 0 = omega arith in f) single
single_dropped (suc passed) zero entries few single = absurd (omega (arith, few))
single_dropped (suc passed) (suc count) [] few single = absurd single
single_dropped (suc passed) (suc count) (e ∷ entries) few single =
    subst (λ n. AreSingle n (drop passed entries)) (let f : count - passed ≡ suc count - suc passed = omega arith in f)
    (single_dropped passed count entries (omega (arith, few)) single.1)

-- so many entries are passed by, and with them as many lists
pub lists_dropped : (passed count : ℕ) (entries : List Entry) → passed ≤ count → AreSingle count entries
    → all_lists (drop passed entries) ≡ drop passed (all_lists entries)
lists_dropped zero count entries few single = refl
lists_dropped (suc passed) zero entries few single = absurd (omega (arith, few))
lists_dropped (suc passed) (suc count) [] few single = refl
lists_dropped (suc passed) (suc count) (e ∷ entries) few single =
    lists_dropped passed count entries (omega (arith, few)) single.1
    ∙ ap (λ m. drop passed (replicate m [] ++ all_lists entries)) (sym single.0)

-- an entry that is the only one of its shape
pub first_alone : (count : ℕ) (entries : List Entry) → 0 < count → AreSingle count entries → first_count entries ≡ 1
first_alone zero entries some single = absurd (omega (arith, some))
first_alone (suc count) [] some single = absurd single
first_alone (suc count) (e ∷ entries) some single = omega (arith, single.0)

-- the first entry is passed by
pub single_next : (single number all next : ℕ) (entries : List Entry) → AreSingle (single - number) entries → number < all
    → next ≡ min (number + first_count entries) all → AreSingle (single - next) (drop 1 entries)
single_next single number all next entries are inside is = by (single - number) refl
  where
    by : (left : ℕ) → single - number ≡ left → AreSingle (single - next) (drop 1 entries)
    by zero e = subst (λ k. AreSingle k (drop 1 entries)) (let f : 0 ≡ single - next = omega (arith, e, is, inside) in f) tt
    by (suc left) e =
        let here : AreSingle (suc left) entries = subst (λ k. AreSingle k entries) e are in
        let one = first_alone (suc left) entries (omega arith) here in
        subst (λ k. AreSingle k (drop 1 entries)) (let f : suc left - 1 ≡ single - next = omega (arith, e, is, inside, one) in f)
        (single_dropped 1 (suc left) entries (omega arith) here)

-- ---- how many pieces there are

none_counted : (count : ℕ) (lists : List (List Trapezoid)) → sum_by length (replicate count [] ++ lists) ≡ sum_by length lists
none_counted zero lists = refl
none_counted (suc count) lists =
    let e = sum_by-cons length [] (replicate count [] ++ lists) in let h = none_counted count lists in omega (arith, e, h)

pub counted_lists : (entries : List Entry) → sum_by length (all_lists entries) ≡ sum_by (λ entry. length entry.pieces) entries
counted_lists [] = refl
counted_lists (e ∷ entries) =
    sum_by-cons length e.pieces (replicate e.more [] ++ all_lists entries)
    ∙ (ap (λ n. length e.pieces + n) (none_counted e.more (all_lists entries) ∙ counted_lists entries)
    ∙ sym (sum_by-cons (λ entry. length entry.pieces) e entries))

-- the pieces of one more entry are counted
there : (entries : List Entry) (k : ℕ) → k < length entries → (entry : Entry) × (slice_get entries k ≡ Some entry) × (get_or entries k entry ≡ entry)
there [] k inside = absurd (omega (arith, inside))
there (e ∷ entries) zero inside = (e, refl, refl)
there (e ∷ entries) (suc k) inside = there entries k (omega (arith, inside))

pub counted_entry : (entries : List Entry) (k count more : ℕ) → k < length entries
    → count ≡ count_within (sum_by (λ entry. length entry.pieces) (take k entries))
    → ((entry : Entry) → slice_get entries k ≡ Some entry → more ≡ length entry.pieces) → more < 2 ^ 64
    → count_within (count + more) ≡ count_within (sum_by (λ entry. length entry.pieces) (take (k + 1) entries))
counted_entry entries k count more inside so is few =
    let at = there entries k inside in
    let here = is at.0 at.1 in
    counted_more (λ entry. length entry.pieces) entries k count more at.0 inside at.2 so (omega (arith, here, few))

-- ---- what is pushed

-- after one more entry was pushed, or none was
module _ {T E : Type 0} (result : Result T E) where
  pub single_pushed : (single : ℕ) (old new : List Entry) (entry : Entry) → OnOk result (new ≡ old ++ entry ∷ []) → OnErr result (new ≡ old)
      → AreSingle single old → AreSingle single new
  single_pushed single old new entry = by result
    where
      by : (result : Result T E) → OnOk result (new ≡ old ++ entry ∷ []) → OnErr result (new ≡ old) → AreSingle single old → AreSingle single new
      by (Ok x) is same all = subst (AreSingle single) (sym is) (single_more single old entry all)
      by (Err x) is same all = subst (AreSingle single) (sym same) all

  pub lists_pushed : (old new : List Entry) (more : ℕ) (lists : List (List Trapezoid)) → OnOk result (new ≡ old ++ bare_ones more ∷ [])
      → all_lists old ≡ lists → OnOk result (all_lists new ≡ lists ++ replicate (more + 1) [])
  lists_pushed old new more lists = by result
    where
      e : more + 1 ≡ suc more
      e = omega arith

      by : (result : Result T E) → OnOk result (new ≡ old ++ bare_ones more ∷ []) → all_lists old ≡ lists
          → OnOk result (all_lists new ≡ lists ++ replicate (more + 1) [])
      by (Ok x) is view =
          ap all_lists is ∙ (lists_more old (bare_ones more) ∙ (ap (λ l. l ++ replicate (suc more) []) view ∙ ap (λ k. lists ++ replicate k []) (sym e)))
      by (Err x) is view = tt
