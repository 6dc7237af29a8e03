-- Pairs in ascending order, and the search for one.
use Rattle.std.proofs.Common.{inl, inr, ◌≡◌, ℕ, ◌+◌, ◌<◌, ◌≤◌, true, false, nat_eq, ◌&&◌, List, length, Result, Ok, Err}
use Rattle.std.proofs.Common.{nat_cmp, is_lt, Less, Equal, Greater, get_or, sym, arith}
use Rattle.std.specs.Ordering.{ordering_then, ordering_index}
use Rattle.std.specs.Cmp.{nat_cmp_is}
use Rattle.std.specs.declared.cmp.Ordering.{Ordering}
use Rattle.std.specs.Result.{is_ok}
use Rattle.std.specs.List.{list_any}
use Rattle.std.specs.List.Sorted.{IsSorted, IsBinarySearchResult, IsSearchInRange}
use Rattle.std.proofs.lemmas.Bool.{cases_lt}
use Rattle.std.proofs.lemmas.List.Folds.{list_any_at, list_any_none}
use Rattle.std.proofs.lemmas.List.Sorted.{IsNonDecreasingBy-from_all_adjacent}
use Rattle.layout_model.specs.declared.pair.Pair.{Pair}
use Rattle.layout_model.specs.Pairs.{same_pair, by_layer, AreSorted}

less : (x y : ℕ) → x < y → nat_cmp x y ≡ Less
less x y h = sym (nat_cmp_is x y Less h)

greater : (x y : ℕ) → y < x → nat_cmp x y ≡ Greater
greater x y h = sym (nat_cmp_is x y Greater h)

at_most_two : (o : Ordering) → ordering_index o ≤ 2
at_most_two Less = omega arith
at_most_two Equal = omega arith
at_most_two Greater = omega arith

layers_rise : (al bl pl : ℕ) (x y : Ordering) → al < bl
    → ordering_index (ordering_then (nat_cmp al pl) x) ≤ ordering_index (ordering_then (nat_cmp bl pl) y)
layers_rise al bl pl x y h = elim (cases_lt pl bl) [
  | inl below ↦ rw (greater bl pl below) (at_most_two (ordering_then (nat_cmp al pl) x))
  | inr above ↦ let lower : al < pl = omega arith in rw (less al pl lower) (omega arith)
]

datatypes_rise : (ad bd pd : ℕ) → ad ≤ bd → ordering_index (nat_cmp ad pd) ≤ ordering_index (nat_cmp bd pd)
datatypes_rise ad bd pd h = grind arith

in_layer : (o a b : Ordering) → ordering_index a ≤ ordering_index b → ordering_index (ordering_then o a) ≤ ordering_index (ordering_then o b)
in_layer Less a b h = omega arith
in_layer Equal a b h = h
in_layer Greater a b h = omega arith

not_less : (x y : ℕ) → is_lt (nat_cmp x y) ≡ false → y ≤ x
not_less x y h = grind arith

adjacent : (al ad bl bd pl pd : ℕ) → is_lt (ordering_then (nat_cmp bl al) (nat_cmp bd ad)) ≡ false
    → ordering_index (ordering_then (nat_cmp al pl) (nat_cmp ad pd)) ≤ ordering_index (ordering_then (nat_cmp bl pl) (nat_cmp bd pd))
adjacent al ad bl bd pl pd h = elim (cases_lt al bl) [
  | inl up ↦ layers_rise al bl pl (nat_cmp ad pd) (nat_cmp bd pd) up
  | inr other ↦ elim (cases_lt bl al) [
    | inl down ↦ absurd (let e = less bl al down in let g = rw e at h in cc)
    | inr level ↦
        let same : bl ≡ al = omega arith in
        let e : nat_cmp bl al ≡ Equal = sym (nat_cmp_is bl al Equal same) in
        let datatypes : ad ≤ bd = not_less bd ad (rw e at h) in
        rw same (in_layer (nat_cmp al pl) (nat_cmp ad pd) (nat_cmp bd pd) (datatypes_rise ad bd pd datatypes))
  ]
]

equal_pair : (yl yd pl pd : ℕ) → ordering_then (nat_cmp yl pl) (nat_cmp yd pd) ≡ Equal → (nat_eq pl yl && nat_eq pd yd) ≡ true
equal_pair yl yd pl pd h = grind arith

less_pair : (yl yd pl pd : ℕ) → ordering_then (nat_cmp yl pl) (nat_cmp yd pd) ≡ Less → (nat_eq pl yl && nat_eq pd yd) ≡ false
less_pair yl yd pl pd h = grind arith

greater_pair : (yl yd pl pd : ℕ) → ordering_then (nat_cmp yl pl) (nat_cmp yd pd) ≡ Greater → (nat_eq pl yl && nat_eq pd yd) ≡ false
greater_pair yl yd pl pd h = grind arith

pub sorted_all : (xs : List Pair) → IsSorted by_layer xs → AreSorted xs
sorted_all xs up p = IsNonDecreasingBy-from_all_adjacent (λ y. ordering_index (by_layer y p)) xs (λ k d lt.
    let a = get_or xs k d in
    let b = get_or xs (k + 1) d in
    adjacent a.layer a.datatype b.layer b.datatype p.layer p.datatype (up k d (omega arith) lt))

pub searched_pair : (xs : List Pair) (p : Pair) (r : Result ℕ ℕ) → IsSearchInRange r (length xs)
    → IsBinarySearchResult (λ y. by_layer y p) xs r → AreSorted xs → is_ok r ≡ list_any (same_pair p) xs
searched_pair xs p (Ok i) bound found up =
    let y = get_or xs i p in
    sym (list_any_at (same_pair p) xs i p bound (equal_pair y.layer y.datatype p.layer p.datatype (found p)))
searched_pair xs p (Err i) bound found up = sym (list_any_none (same_pair p) xs (λ k d lt.
    let y = get_or xs k d in
    let parts = found (up p) in
    elim (cases_lt k i) [
      | inl below ↦ less_pair y.layer y.datatype p.layer p.datatype (parts.0 k d (omega arith) below)
      | inr above ↦ greater_pair y.layer y.datatype p.layer p.datatype (parts.1 k d above lt)
    ]))
