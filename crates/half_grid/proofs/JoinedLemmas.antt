-- A joined list is named by its tiles.
use Rattle.std.proofs.Common.{◌≡◌, ℕ, zero, suc, ◌≤◌, Bool, true, false, ℤ, pos, ◌+ℤ◌, ◌-ℤ◌, ◌≤ℤ◌, ◌<ℤ◌, arith, refl, ap, subst, eqb, ◌∙◌, sym, List, [], ◌∷◌}
use Rattle.std.proofs.lemmas.Int.{ints, by_lt_z}
use Rattle.std.proofs.lemmas.List.Elements.{All-contains, Contains-push_cases, Contains-append_cases}
use Rattle.std.proofs.lemmas.List.Elements.{Contains-append_right, Contains-append_left, Contains-push}
use Rattle.std.proofs.lemmas.Bool.Decides.{nat_tests}
use Rattle.std.specs.List.{Contains}
use mathlib.Core.Logic.{◌⊎◌, inl, inr}
use Rattle.half_grid.specs.Rows.{place}
use Rattle.half_grid.specs.Trapezoids.{Trapezoid, IsInTrapezoid, IsLegal, CoversExactly, count_in, trapezoid_has, trapezoid}
use Rattle.half_grid.specs.Windows.{RowRange}
use Rattle.half_grid.specs.JoinedLists.{IsBeside, StandsBefore, StandInOrder, IsJoined}
use Rattle.half_grid.specs.declared.plane.Tile.{Tile}
use Rattle.half_grid.specs.declared.plane.Line.{Line}
use Rattle.half_grid.proofs.EdgeLemmas.{has_in, in_has}
use Rattle.half_grid.proofs.MeetingLemmas.{number_between, in_by_number}
use Rattle.half_grid.proofs.Places.{one_line, legal_places}
use Rattle.half_grid.proofs.SizeLemmas.{tile_with, tile_with_number, natural, natural_is}
use Rattle.half_grid.proofs.WindingLemmas.{count_by-cons}

-- ---- members

none_in_empty : (z : Trapezoid) → Contains [] z → ⊥
none_in_empty z h = omega (arith, h.1)

among_rest : (x z : Trapezoid) (xs : List Trapezoid) → Contains xs z → Contains (x ∷ xs) z
among_rest x z xs h = Contains-append_right (x ∷ []) xs z h

is_first : (x : Trapezoid) (xs : List Trapezoid) → Contains (x ∷ xs) x
is_first x xs = Contains-append_left (x ∷ []) xs x (Contains-push [] x)

only_one : (x z : Trapezoid) → Contains (x ∷ []) z → x ≡ z
only_one x z h = elim (Contains-push_cases [] x z h) [ inl e ↦ absurd (none_in_empty z e) | inr e ↦ e ]

first_or_later : (x z : Trapezoid) (xs : List Trapezoid) → Contains (x ∷ xs) z → (x ≡ z) ⊎ Contains xs z
first_or_later x z xs h = elim (Contains-append_cases (x ∷ []) xs z h) [ inl e ↦ inl (only_one x z e) | inr e ↦ inr e ]

-- ---- counts

counted_first : (t : Tile) (x : Trapezoid) (xs : List Trapezoid) → trapezoid_has t x ≡ true → count_in (x ∷ xs) t ≡ suc (count_in xs t)
counted_first t x xs e = count_by-cons (trapezoid_has t) x xs ∙ (rw e (omega arith))

counted_not : (t : Tile) (x : Trapezoid) (xs : List Trapezoid) → trapezoid_has t x ≡ false → count_in (x ∷ xs) t ≡ count_in xs t
counted_not t x xs e = count_by-cons (trapezoid_has t) x xs ∙ (rw e (omega arith))

counted_later : (t : Tile) (x : Trapezoid) (xs : List Trapezoid) → count_in xs t ≤ count_in (x ∷ xs) t
counted_later t x xs = omega (arith, count_by-cons (trapezoid_has t) x xs)

-- a tile of a member is counted
counted : (t : Tile) (z : Trapezoid) (xs : List Trapezoid) → Contains xs z → trapezoid_has t z ≡ true → 1 ≤ count_in xs t
counted t z [] h e = absurd (none_in_empty z h)
counted t z (x ∷ xs) h e =
    elim (first_or_later x z xs h) [
      | inl s ↦ (let here = counted_first t x xs (rw s e) in omega (arith, here))
      | inr s ↦ (let later = counted t z xs s e in let more = counted_later t x xs in omega (arith, later, more))
    ]

abbrev Found : Tile → List Trapezoid → Type 0
Found t xs = (z : Trapezoid) × Contains xs z × (trapezoid_has t z ≡ true)

found_later : (t : Tile) (x : Trapezoid) (xs : List Trapezoid) → Found t xs → Found t (x ∷ xs)
found_later t x xs h = (h.0, among_rest x h.0 xs h.1, h.2)

found_by : (t : Tile) (x : Trapezoid) (xs : List Trapezoid) (b : Bool) → trapezoid_has t x ≡ b
    → 1 ≤ count_in (x ∷ xs) t → (1 ≤ count_in xs t → Found t xs) → Found t (x ∷ xs)
found_by t x xs true e h later = (x, is_first x xs, e)
found_by t x xs false e h later =
    let n = counted_not t x xs e in
    found_later t x xs (later (omega (arith, n, h)))

-- a tile that is counted is in some member
found : (t : Tile) (xs : List Trapezoid) → 1 ≤ count_in xs t → Found t xs
found t [] h = absurd (omega (arith, h))
found t (x ∷ xs) h = found_by t x xs _ refl h (found t xs)

twice_counted : (t : Tile) (x z : Trapezoid) (xs : List Trapezoid) {P : Type 0} → count_in (x ∷ xs) t ≤ 1
    → trapezoid_has t x ≡ true → Contains xs z → trapezoid_has t z ≡ true → P
twice_counted t x z xs {P} n ex hz ez = let here = counted_first t x xs ex in let later = counted t z xs hz ez in absurd (omega (arith, n, here, later))

-- a tile that is counted at most once is in at most one member
one_only : (t : Tile) (xs : List Trapezoid) (y z : Trapezoid) → count_in xs t ≤ 1 → Contains xs y → Contains xs z
    → trapezoid_has t y ≡ true → trapezoid_has t z ≡ true → y ≡ z
one_only t [] y z n hy hz ey ez = absurd (none_in_empty y hy)
one_only t (x ∷ xs) y z n hy hz ey ez =
    elim (first_or_later x y xs hy) [
      | inl sy ↦ elim (first_or_later x z xs hz) [ inl sz ↦ sym sy ∙ sz | inr sz ↦ twice_counted t x z xs n (rw sy ey) sz ez ]
      | inr sy ↦ elim (first_or_later x z xs hz) [
        | inl sz ↦ twice_counted t x y xs n (rw sz ez) sy ey
        | inr sz ↦
            one_only t xs y z (let more = counted_later t x xs in omega (arith, n, more)) sy sz ey ez
      ]
    ]

-- ---- tiles of a row, by number

-- the tile of this number in the row is in the trapezoid
in_at : (z : Trapezoid) (n j : ℤ) → z.y0 ≤ℤ j → j <ℤ z.y1 → place z.left j ≤ℤ n → n <ℤ place z.right j → IsInTrapezoid z (tile_with n j)
in_at z n j a b l r =
    let e = tile_with_number n j in
    in_by_number z (tile_with n j) (record { above_bottom = a; below_top = b; from_left = rw e l; below_right = rw e r })

from_left_at : (z : Trapezoid) (n j : ℤ) → IsInTrapezoid z (tile_with n j) → place z.left j ≤ℤ n
from_left_at z n j h = rw (tile_with_number n j) at (number_between z (tile_with n j) h).from_left

below_right_at : (z : Trapezoid) (n j : ℤ) → IsInTrapezoid z (tile_with n j) → n <ℤ place z.right j
below_right_at z n j h = rw (tile_with_number n j) at (number_between z (tile_with n j) h).below_right

beside_left : (z : Trapezoid) (n j : ℤ) → z.y0 ≤ℤ j → j <ℤ z.y1 → n +ℤ pos 1 ≡ place z.left j → IsBeside z (tile_with n j)
beside_left z n j a b e = record { above_bottom = a; below_top = b; beside = inl (rw (tile_with_number n j) e) }

beside_right : (z : Trapezoid) (n j : ℤ) → z.y0 ≤ℤ j → j <ℤ z.y1 → n ≡ place z.right j → IsBeside z (tile_with n j)
beside_right z n j a b e = record { above_bottom = a; below_top = b; beside = inr (rw (tile_with_number n j) e) }

abbrev SameTiles : List Trapezoid → List Trapezoid → Type 0
SameTiles xs ys = (t : Tile) → count_in xs t ≡ count_in ys t

-- a tile beside a member of one list is in no member of the other
clash : (window : RowRange) (xs ys : List Trapezoid) (z w : Trapezoid) (t : Tile) → IsJoined window xs
    → SameTiles xs ys → Contains xs z → IsBeside z t → Contains ys w → IsInTrapezoid w t → ⊥
clash window xs ys z w t joined same hz beside hw h =
    let free = joined.ends_free z t hz beside in
    let here = counted t w ys hw (in_has t w h) in
    omega (arith, free, here, same t)

-- ---- one row of a member is a row of a member of the other list, between the same lines

record Meets (ys : List Trapezoid) (z : Trapezoid) (low high : ℤ) : Type 0 where
  w : Trapezoid
  member : Contains ys w
  legal : IsLegal w
  left : w.left ≡ z.left
  right : w.right ≡ z.right
  from : w.y0 ≤ℤ low
  to : high <ℤ w.y1

moved : (ys : List Trapezoid) (z : Trapezoid) (low j k : ℤ) → j ≡ k → Meets ys z low j → Meets ys z low k
moved ys z low j k e m = subst (λ (x : ℤ). Meets ys z low x) e m

-- a legal trapezoid has the first tile of each of its rows
has_at : (w : Trapezoid) (left : Line) (j : ℤ) → IsLegal w → w.left ≡ left → w.y0 ≤ℤ j → j <ℤ w.y1 → trapezoid_has (tile_with (place left j) j) w ≡ true
has_at w left j legal e a b =
    let places = legal_places w j legal a b in
    rw (← e) (in_has (tile_with (place w.left j) j) w (in_at w (place w.left j) j a b (omega (arith, ints)) places))

module _ (window : RowRange) (xs ys : List Trapezoid) (first : IsJoined window xs) (second : IsJoined window ys) (same : SameTiles xs ys) where
  legal_first : (z : Trapezoid) → Contains xs z → IsLegal z
  legal_first z h = All-contains IsLegal xs z first.legal h

  legal_second : (z : Trapezoid) → Contains ys z → IsLegal z
  legal_second z h = All-contains IsLegal ys z second.legal h

  covered : (z : Trapezoid) (t : Tile) → Contains xs z → IsInTrapezoid z t → Found t ys
  covered z t h i = let here = counted t z xs h (in_has t z i) in found t ys (omega (arith, here, same t))

  same_left : (z w : Trapezoid) (j : ℤ) → Contains xs z → Contains ys w → z.y0 ≤ℤ j → j <ℤ z.y1 → w.y0 ≤ℤ j → j <ℤ w.y1
      → place z.left j <ℤ place z.right j → place w.left j ≤ℤ place z.left j → place z.left j <ℤ place w.right j → place w.left j ≡ place z.left j
  same_left z w j hz hw a b c d zz l r =
      by_lt_z (place w.left j) (place z.left j)
      (λ lt. absurd (clash window xs ys z w (tile_with (place z.left j -ℤ pos 1) j) first same hz
      (beside_left z (place z.left j -ℤ pos 1) j a b (omega (arith, ints))) hw
      (in_at w (place z.left j -ℤ pos 1) j c d (omega (arith, ints, lt)) (omega (arith, ints, r)))))
      (λ le. omega (arith, ints, l, le))

  same_right : (z w : Trapezoid) (j : ℤ) → Contains xs z → Contains ys w → z.y0 ≤ℤ j → j <ℤ z.y1 → w.y0 ≤ℤ j → j <ℤ w.y1
      → place z.left j <ℤ place z.right j → place w.left j ≤ℤ place z.left j → place z.left j <ℤ place w.right j → place w.right j ≡ place z.right j
  same_right z w j hz hw a b c d zz l r =
      by_lt_z (place w.right j) (place z.right j)
      (λ lt. absurd (clash window ys xs w z (tile_with (place w.right j) j) second (λ t. sym (same t)) hw
      (beside_right w (place w.right j) j c d refl) hz
      (in_at z (place w.right j) j a b (omega (arith, ints, r)) lt)))
      (λ ge. by_lt_z (place z.right j) (place w.right j)
      (λ lt. absurd (clash window xs ys z w (tile_with (place z.right j) j) first same hz
      (beside_right z (place z.right j) j a b refl) hw
      (in_at w (place z.right j) j c d (omega (arith, ints, zz, l)) lt)))
      (λ le. omega (arith, ints, ge, le)))

  row_of : (z : Trapezoid) (j : ℤ) → Contains xs z → z.y0 ≤ℤ j → j <ℤ z.y1 → Meets ys z j j
  row_of z j hz a b =
      let zz = legal_places z j (legal_first z hz) a b in
      let found = covered z (tile_with (place z.left j) j) hz (in_at z (place z.left j) j a b (omega (arith, ints)) zz) in
      let w = found.0 in
      let inside = has_in (tile_with (place z.left j) j) w found.2 in
      let l = from_left_at w (place z.left j) j inside in
      let r = below_right_at w (place z.left j) j inside in
      record {
        w = w;
        member = found.1;
        legal = legal_second w found.1;
        left = one_line w.left z.left j (same_left z w j hz found.1 a b inside.above_bottom inside.below_top zz l r);
        right = one_line w.right z.right j (same_right z w j hz found.1 a b inside.above_bottom inside.below_top zz l r);
        from = inside.above_bottom;
        to = inside.below_top;
      }

  taller_by : (z : Trapezoid) (j : ℤ) → z.y0 ≤ℤ j → Meets ys z z.y0 j → Meets ys z (j +ℤ pos 1) (j +ℤ pos 1) → Meets ys z z.y0 (j +ℤ pos 1)
  taller_by z j a m v =
      by_lt_z (j +ℤ pos 1) m.w.y1
      (λ lt. record { w = m.w; member = m.member; legal = m.legal; left = m.left; right = m.right; from = m.from; to = lt })
      (λ le. by_lt_z v.w.y0 (j +ℤ pos 1)
      (λ lt. (let e = one_only (tile_with (place z.left j) j) ys m.w v.w (second.apart (tile_with (place z.left j) j)) m.member v.member
      (has_at m.w z.left j m.legal m.left (omega (arith, ints, m.from, a)) m.to)
      (has_at v.w z.left j v.legal v.left (omega (arith, ints, lt)) (omega (arith, ints, v.to))) in
      let top : m.w.y1 ≡ v.w.y1 = ap (λ (u : Trapezoid). u.y1) e in
      absurd (omega (arith, ints, top, le, v.to))))
      (λ ge. absurd (second.not_stacked m.w v.w m.member v.member (m.left ∙ sym v.left) (m.right ∙ sym v.right) (omega (arith, ints, le, ge, m.to, v.from)))))

  tall : (z : Trapezoid) (k : ℕ) → Contains xs z → (z.y0 +ℤ pos k) <ℤ z.y1 → Meets ys z z.y0 (z.y0 +ℤ pos k)
  tall z zero hz b = moved ys z z.y0 z.y0 (z.y0 +ℤ pos 0) (omega (arith, ints)) (row_of z z.y0 hz (omega (arith, ints)) (omega (arith, ints, b)))
  tall z (suc k) hz b =
      moved ys z z.y0 ((z.y0 +ℤ pos k) +ℤ pos 1) (z.y0 +ℤ pos (suc k)) (omega (arith, ints))
      (taller_by z (z.y0 +ℤ pos k) (omega (arith, ints)) (tall z k hz (omega (arith, ints, b)))
      (row_of z ((z.y0 +ℤ pos k) +ℤ pos 1) hz (omega (arith, ints)) (omega (arith, ints, b))))

  -- a member lies between the same lines within a member of the other list
  whole : (z : Trapezoid) → Contains xs z → Meets ys z z.y0 (z.y1 -ℤ pos 1)
  whole z hz =
      let rows = (legal_first z hz).has_rows in
      let k = natural_is ((z.y1 -ℤ pos 1) -ℤ z.y0) (omega (arith, ints, rows)) in
      moved ys z z.y0 (z.y0 +ℤ pos (natural ((z.y1 -ℤ pos 1) -ℤ z.y0))) (z.y1 -ℤ pos 1) (omega (arith, ints, k))
      (tall z (natural ((z.y1 -ℤ pos 1) -ℤ z.y0)) hz (omega (arith, ints, k)))

same_trapezoid : (y z : Trapezoid) → y.y0 ≡ z.y0 → y.y1 ≡ z.y1 → y.left ≡ z.left → y.right ≡ z.right → y ≡ z
same_trapezoid y z e0 e1 el er =
    ap (λ (x : ℤ). trapezoid x y.y1 y.left y.right) e0
    ∙ ap (λ (x : ℤ). trapezoid z.y0 x y.left y.right) e1
    ∙ ap (λ (x : Line). trapezoid z.y0 z.y1 x y.right) el
    ∙ ap (λ (x : Line). trapezoid z.y0 z.y1 z.left x) er

-- a member of one list is a member of the other
same_member : (window : RowRange) (xs ys : List Trapezoid) → IsJoined window xs → IsJoined window ys → SameTiles xs ys
    → (z : Trapezoid) → Contains xs z → Contains ys z
same_member window xs ys first second same z hz =
    let m = whole window xs ys first second same z hz in
    let n = whole window ys xs second first (λ t. sym (same t)) m.w m.member in
    let legal = legal_first window xs ys first second same z hz in
    let e : n.w ≡ z = one_only (tile_with (place z.left z.y0) z.y0) xs n.w z (first.apart (tile_with (place z.left z.y0) z.y0)) n.member hz
    (has_at n.w z.left z.y0 n.legal (n.left ∙ m.left) (omega (arith, ints, n.from, m.from)) (omega (arith, ints, n.to, m.to, legal.has_rows)))
    (has_at z z.left z.y0 legal refl (omega (arith, ints)) legal.has_rows) in
    let low : n.w.y0 ≡ z.y0 = ap (λ (u : Trapezoid). u.y0) e in
    let high : n.w.y1 ≡ z.y1 = ap (λ (u : Trapezoid). u.y1) e in
    let is : m.w ≡ z = same_trapezoid m.w z (omega (arith, ints, low, n.from, m.from)) (omega (arith, ints, high, n.to, m.to)) m.left m.right in
    subst (λ (u : Trapezoid). Contains ys u) is m.member

-- ---- the order

not_both : (y z : Trapezoid) → StandsBefore y z → StandsBefore z y → ⊥
not_both y z (inl a) (inl b) = omega (arith, ints, a, b)
not_both y z (inl a) (inr b) = omega (arith, ints, a, b.0)
not_both y z (inr a) (inl b) = omega (arith, ints, a.0, b)
not_both y z (inr a) (inr b) = omega (arith, ints, a.1, b.1)

same_first : (x y : Trapezoid) (xs ys : List Trapezoid) → StandInOrder (x ∷ xs) → StandInOrder (y ∷ ys) → Contains (y ∷ ys) x → Contains (x ∷ xs) y → x ≡ y
same_first x y xs ys ox oy hx hy =
    elim (first_or_later y x ys hx) [
      | inl e ↦ sym e
      | inr later_x ↦ elim (first_or_later x y xs hy) [
        | inl e ↦ e
        | inr later_y ↦ absurd (not_both x y (All-contains (StandsBefore x) xs y ox.0 later_y) (All-contains (StandsBefore y) ys x oy.0 later_x))
      ]
    ]

later_member : (x y : Trapezoid) (xs ys : List Trapezoid) → x ≡ y → StandInOrder (x ∷ xs)
    → ((z : Trapezoid) → Contains (x ∷ xs) z → Contains (y ∷ ys) z) → (z : Trapezoid) → Contains xs z → Contains ys z
later_member x y xs ys e ox f z hz =
    let before = All-contains (StandsBefore x) xs z ox.0 hz in
    elim (first_or_later y z ys (f z (among_rest x z xs hz))) [
      | inl s ↦ (let b = subst (λ (u : Trapezoid). StandsBefore u z) (e ∙ s) before in absurd (not_both z z b b))
      | inr later ↦ later
    ]

same_list : (xs ys : List Trapezoid) → StandInOrder xs → StandInOrder ys
    → ((z : Trapezoid) → Contains xs z → Contains ys z) → ((z : Trapezoid) → Contains ys z → Contains xs z) → xs ≡ ys
same_list [] [] ox oy f g = refl
same_list [] (y ∷ ys) ox oy f g = absurd (none_in_empty y (g y (is_first y ys)))
same_list (x ∷ xs) [] ox oy f g = absurd (none_in_empty x (f x (is_first x xs)))
same_list (x ∷ xs) (y ∷ ys) ox oy f g =
    let e = same_first x y xs ys ox oy (f x (is_first x xs)) (g y (is_first y ys)) in
    let later = same_list xs ys ox.1 oy.1 (later_member x y xs ys e ox f) (later_member y x ys xs (sym e) oy g) in
    ap (λ (u : Trapezoid). u ∷ xs) e ∙ ap (λ (us : List Trapezoid). y ∷ us) later

-- A window and a set of tiles have at most one joined list.
pub one_joined_list : (window : RowRange) (xs ys : List Trapezoid) → IsJoined window xs → IsJoined window ys
    → ((t : Tile) → count_in xs t ≡ count_in ys t) → xs ≡ ys
one_joined_list window xs ys first second same =
    same_list xs ys first.in_order second.in_order (same_member window xs ys first second same) (same_member window ys xs second first (λ t. sym (same t)))

same_tiles_by : (area : Tile → Type 0) (xs ys : List Trapezoid) → CoversExactly xs area → CoversExactly ys area
    → (t : Tile) (p q : Bool) → eqb (count_in xs t) 1 ≡ p → eqb (count_in ys t) 1 ≡ q → count_in xs t ≡ count_in ys t
same_tiles_by area xs ys first second t true true ep eq = grind (arith, nat_tests)
same_tiles_by area xs ys first second t true false ep eq =
    let out : area t → ⊥ = λ h. (let n = second.once t h in grind (arith, nat_tests)) in
    let n = first.never t out in
    absurd (grind (arith, nat_tests))
same_tiles_by area xs ys first second t false q ep eq =
    let out : area t → ⊥ = λ h. (let n = first.once t h in grind (arith, nat_tests)) in
    first.never t out ∙ sym (second.never t out)

-- Two lists that cover one set of tiles have the same tiles.
pub same_tiles : (area : Tile → Type 0) (xs ys : List Trapezoid) → CoversExactly xs area → CoversExactly ys area → (t : Tile) → count_in xs t ≡ count_in ys t
same_tiles area xs ys first second t = same_tiles_by area xs ys first second t _ _ refl refl
