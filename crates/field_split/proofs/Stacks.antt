-- Trapezoids that stand one above another: such a list is joined where no two that touch have the same two lines.
use Rattle.std.proofs.Common.{◌≡◌, ◌≢◌, ◌≤◌, ◌+◌, Bool, true, false, ℤ, ◌≤ℤ◌, ◌<ℤ◌, List, [], ◌∷◌, ◌++◌, arith, refl, sym, ap, subst, ◌∙◌}
use Rattle.std.proofs.lemmas.Int.{ints}
use Rattle.std.proofs.lemmas.List.Elements.{All-nil, All-cons, All-head, All-tail, All-contains, Contains-push_cases, Contains-append_cases}
use Rattle.std.proofs.lemmas.List.Sums.{sum_by-append}
use Rattle.std.specs.List.{All, Contains}
use mathlib.Core.Logic.{◌⊎◌, inl, inr}
use Rattle.half_grid.specs.JoinedLists.{IsJoined, IsInWindow, IsBeside, StandsBefore}
use Rattle.half_grid.specs.Trapezoids.{Trapezoid, IsInTrapezoid, IsLegal, trapezoid_has, count_in}
use Rattle.half_grid.specs.Windows.{RowRange}
use Rattle.half_grid.specs.declared.plane.Tile.{Tile}
use Rattle.half_grid.proofs.ForCallers.{has_in, in_has, number_between, count_by-cons}

pub none_in_empty : (y : Trapezoid) → Contains [] y → ⊥
none_in_empty y h = omega (arith, h.1)

only_one : (x y : Trapezoid) → Contains (x ∷ []) y → x ≡ y
only_one x y h = elim (Contains-push_cases [] x y h) [ inl e ↦ absurd (none_in_empty y e) | inr e ↦ e ]

pub first_or_later : (x y : Trapezoid) (xs : List Trapezoid) → Contains (x ∷ xs) y → (x ≡ y) ⊎ Contains xs y
first_or_later x y xs h = elim (Contains-append_cases (x ∷ []) xs y h) [ inl e ↦ inl (only_one x y e) | inr e ↦ inr e ]

-- ---- counts

has_not : (t : Tile) (z : Trapezoid) → (IsInTrapezoid z t → ⊥) → (b : Bool) → trapezoid_has t z ≡ b → b ≡ false
has_not t z h true e = absurd (h (has_in t z e))
has_not t z h false e = refl

pub counted_out : (t : Tile) (z : Trapezoid) (zs : List Trapezoid) → (IsInTrapezoid z t → ⊥) → count_in (z ∷ zs) t ≡ count_in zs t
counted_out t z zs h = count_by-cons (trapezoid_has t) z zs ∙ (rw (has_not t z h _ refl) (omega arith))

pub counted_in : (t : Tile) (z : Trapezoid) (zs : List Trapezoid) → IsInTrapezoid z t → count_in (z ∷ zs) t ≡ 1 + count_in zs t
counted_in t z zs h = count_by-cons (trapezoid_has t) z zs ∙ (rw (in_has t z h) (omega arith))

counted_by : (t : Tile) (z : Trapezoid) (zs : List Trapezoid) (b : Bool) → trapezoid_has t z ≡ b → count_in zs t ≡ 0 → count_in (z ∷ zs) t ≤ 1
counted_by t z zs true e h = let one = counted_in t z zs (has_in t z e) in omega (arith, one, h)
counted_by t z zs false e h =
    let out : IsInTrapezoid z t → ⊥ = λ i. (let yes = in_has t z i in absurd cc) in
    let none = counted_out t z zs out in
    omega (arith, none, h)

pub count_in-append : (xs ys : List Trapezoid) (t : Tile) → count_in (xs ++ ys) t ≡ count_in xs t + count_in ys t
count_in-append xs ys t = sum_by-append _ xs ys

-- all stand at or above a height
abbrev pub StandFrom : ℤ → List Trapezoid → Type 0
StandFrom y zs = All (λ (z : Trapezoid). y ≤ℤ z.y0) zs

pub none_below : (y : ℤ) (zs : List Trapezoid) (t : Tile) → StandFrom y zs → t.j <ℤ y → count_in zs t ≡ 0
none_below y [] t h lt = omega arith
none_below y (z ∷ zs) t h lt =
    let at = All-head (λ (w : Trapezoid). y ≤ℤ w.y0) z zs h in
    counted_out t z zs (λ i. omega (arith, ints, i.above_bottom, lt, at)) ∙ none_below y zs t (All-tail (λ (w : Trapezoid). y ≤ℤ w.y0) z zs h) lt

-- ---- one more below

module _ (window : RowRange) (z : Trapezoid) (zs : List Trapezoid) (legal : IsLegal z) (inside : IsInWindow window z) (above : StandFrom z.y1 zs)
    (differ : All (λ (y : Trapezoid). z.left ≡ y.left → z.right ≡ y.right → z.y1 ≢ y.y0) zs) (rest : IsJoined window zs) where
  from_top : (y : Trapezoid) → Contains zs y → z.y1 ≤ℤ y.y0
  from_top y h = All-contains (λ (w : Trapezoid). z.y1 ≤ℤ w.y0) zs y above h

  has_rows : (y : Trapezoid) → Contains zs y → y.y0 <ℤ y.y1
  has_rows y h = (All-contains IsLegal zs y rest.legal h).has_rows

  apart_above : (t : Tile) (b : Bool) → trapezoid_has t z ≡ b → count_in (z ∷ zs) t ≤ 1
  apart_above t true e =
      let i = has_in t z e in
      let none = none_below z.y1 zs t above i.below_top in
      let one = counted_in t z zs i in
      omega (arith, one, none)
  apart_above t false e =
      let out : IsInTrapezoid z t → ⊥ = λ i. (let yes = in_has t z i in absurd cc) in
      let same = counted_out t z zs out in
      omega (arith, same, rest.apart t)

  beside_not : (t : Tile) → IsBeside z t → IsInTrapezoid z t → ⊥
  beside_not t b i =
      let n = number_between z t i in
      elim b.beside [ inl e ↦ omega (arith, ints, e, n.from_left) | inr e ↦ omega (arith, ints, e, n.below_right) ]

  ends_free_above : (y : Trapezoid) (t : Tile) → Contains (z ∷ zs) y → IsBeside y t → count_in (z ∷ zs) t ≡ 0
  ends_free_above y t h b =
      elim (first_or_later z y zs h) [
        | inl e ↦ (let c : IsBeside z t = subst (λ (w : Trapezoid). IsBeside w t) (sym e) b in counted_out t z zs
            (beside_not t c) ∙ none_below z.y1 zs t above c.below_top)
        | inr later ↦ (let over = from_top y later in counted_out t z zs
            (λ i. omega (arith, ints, i.below_top, b.above_bottom, over)) ∙ rest.ends_free y t later b)
      ]

  not_stacked_above : (x y : Trapezoid) → Contains (z ∷ zs) x → Contains (z ∷ zs) y → x.left ≡ y.left → x.right ≡ y.right → x.y1 ≢ y.y0
  not_stacked_above x y hx hy el er =
      elim (first_or_later z x zs hx) [
        | inl ex ↦ elim (first_or_later z y zs hy) [
          | inl ey ↦ (λ e. (let low = ap (λ (w : Trapezoid). w.y0) ey in let high = ap (λ (w : Trapezoid). w.y1) ex in
              omega (arith, ints, e, low, high, legal.has_rows)))
          | inr ly ↦ (λ e. All-contains (λ (w : Trapezoid). z.left ≡ w.left → z.right ≡ w.right → z.y1 ≢ w.y0) zs y differ ly
              (ap (λ (w : Trapezoid). w.left) ex ∙ el) (ap (λ (w : Trapezoid). w.right) ex ∙ er) (ap (λ (w : Trapezoid). w.y1) ex ∙ e))
        ]
        | inr lx ↦ elim (first_or_later z y zs hy) [
          | inl ey ↦ (λ e. (let low = ap (λ (w : Trapezoid). w.y0) ey in omega (arith, ints, e, low, from_top x lx, has_rows x lx, legal.has_rows)))
          | inr ly ↦ rest.not_stacked x y lx ly el er
        ]
      ]

  before_all : (ys : List Trapezoid) → StandFrom z.y1 ys → All IsLegal ys → All (StandsBefore z) ys
  before_all [] h l = All-nil (StandsBefore z)
  before_all (y ∷ ys) h l =
      let at = All-head (λ (w : Trapezoid). z.y1 ≤ℤ w.y0) y ys h in
      let high = (All-head IsLegal y ys l).has_rows in
      let lower : z.y1 <ℤ y.y1 = omega (arith, ints, at, high) in
      All-cons (StandsBefore z) y ys (inl lower) (before_all ys (All-tail (λ (w : Trapezoid). z.y1 ≤ℤ w.y0) y ys h) (All-tail IsLegal y ys l))

  pub joined_one_more : IsJoined window (z ∷ zs)
  joined_one_more = record {
    legal = All-cons IsLegal z zs legal rest.legal;
    in_window = All-cons (IsInWindow window) z zs inside rest.in_window;
    apart = λ t. apart_above t _ refl;
    ends_free = ends_free_above;
    not_stacked = not_stacked_above;
    in_order = (before_all zs above rest.legal, rest.in_order);
  }

pub joined_none : (window : RowRange) → IsJoined window []
joined_none window = record {
  legal = All-nil IsLegal;
  in_window = All-nil (IsInWindow window);
  apart = λ t. omega arith;
  ends_free = λ z t h b. absurd (none_in_empty z h);
  not_stacked = λ y z hy hz el er. absurd (none_in_empty y hy);
  in_order = tt;
}
