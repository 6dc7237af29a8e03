-- The tiles of a trapezoid in rows of a frame's columns, counted by what lies left of its two lines.
use Rattle.std.proofs.Common.{ℕ, zero, suc, ◌+◌, ◌≡◌, Bool, true, false, cond, ℤ, pos, ◌+ℤ◌, ◌-ℤ◌, ◌≤ℤ◌, ◌<ℤ◌, List, ◌∷◌, count_by, arith, refl, ap, subst, ◌∙◌}
use Rattle.std.proofs.lemmas.Int.{ints, by_lt_z}
use Rattle.std.proofs.lemmas.List.Sums.{sum_by-append, sum_by-cons}
use Rattle.half_grid.specs.Halves.{twice}
use Rattle.half_grid.specs.Rows.{place, number_in_row}
use Rattle.half_grid.specs.Trapezoids.{Trapezoid, IsLegal, trapezoid_has}
use Rattle.half_grid.specs.declared.plane.Line.{Line}
use Rattle.half_grid.specs.declared.plane.Side.TheVariants.{Left, Right}
use Rattle.half_grid.specs.declared.plane.Tile.{Tile}
use Rattle.half_grid.proofs.ForCallers.{has_in, in_has, number_between, in_by_number, legal_places}
use Rattle.density_map.specs.Frames.{natural, row_tiles, rows_tiles}
use Rattle.density_map.specs.Wedges.{row_before, tiles_before}
use Rattle.density_map.proofs.Numbers.{natural_is, natural_none}

abbrev pub bit : Bool → ℕ
bit b = cond b 1 0

-- how far a place lies beyond a number
abbrev past : Line → ℤ → ℤ → ℕ
past line j n = natural (place line j -ℤ n)

-- one number more
past_less : (p n : ℤ) → n <ℤ p → natural (p -ℤ n) ≡ suc (natural (p -ℤ (n +ℤ pos 1)))
past_less p n h =
    let a = natural_is (p -ℤ n) (omega (arith, ints, h)) in
    let b = natural_is (p -ℤ (n +ℤ pos 1)) (omega (arith, ints, h)) in
    omega (arith, ints, a, b)

past_none : (p n : ℤ) → p ≤ℤ n → natural (p -ℤ n) ≡ 0
past_none p n h = natural_none (p -ℤ n) (omega (arith, ints, h))

-- one tile, by its number n: l and r are the places of the lines
one_number : (b : Bool) (l r n : ℤ) → l ≤ℤ r → (b ≡ true → (l ≤ℤ n) × (n <ℤ r)) → (l ≤ℤ n → n <ℤ r → b ≡ true)
    → bit b + (natural (l -ℤ n) + natural (r -ℤ (n +ℤ pos 1))) ≡ natural (r -ℤ n) + natural (l -ℤ (n +ℤ pos 1))
one_number true l r n le f g =
    let h = f refl in
    let a = past_none l n h.0 in
    let b = past_none l (n +ℤ pos 1) (omega (arith, ints, h.0)) in
    let d = past_less r n h.1 in
    omega (arith, a, b, d)
one_number false l r n le f g =
    by_lt_z n l
    (λ less. (let a = past_less l n less in let b = past_less r n (omega (arith, ints, less, le)) in omega (arith, a, b)))
    (λ from. by_lt_z n r
    (λ under. absurd (let yes = g from under in let clash : ⊥ = cc in clash))
    (λ over. (
    let a = past_none l n from in
    let b = past_none r n over in
    let d = past_none l (n +ℤ pos 1) (omega (arith, ints, from)) in
    let e = past_none r (n +ℤ pos 1) (omega (arith, ints, over)) in
    omega (arith, a, b, d, e)
    )))

module _ (z : Trapezoid) (legal : IsLegal z) where
  one_tile : (t : Tile) (n m : ℤ) → z.y0 ≤ℤ t.j → t.j <ℤ z.y1 → number_in_row t ≡ n → n +ℤ pos 1 ≡ m
      → bit (trapezoid_has t z) + (past z.left t.j n + past z.right t.j m) ≡ past z.right t.j n + past z.left t.j m
  one_tile t n m low high e f =
      let order = legal_places z t.j legal low high in
      subst (λ (k : ℤ). bit (trapezoid_has t z) + (past z.left t.j n + past z.right t.j k) ≡ past z.right t.j n + past z.left t.j k) f
      (subst (λ (k : ℤ). bit (trapezoid_has t z) + (past z.left t.j k + past z.right t.j (k +ℤ pos 1)) ≡ past z.right t.j k + past z.left t.j (k +ℤ pos 1)) e
      (one_number (trapezoid_has t z) (place z.left t.j) (place z.right t.j) (number_in_row t) (omega (arith, ints, order))
      (λ yes. (let h = number_between z t (has_in t z yes) in (h.from_left, h.below_right)))
      (λ from under. in_has t z (in_by_number z t (record { above_bottom = low; below_top = high; from_left = from; below_right = under })))))

  counted : Tile → ℕ
  counted t = bit (trapezoid_has t z)

  two_more : (t u : Tile) (ts : List Tile) → count_by (λ t. trapezoid_has t z) (t ∷ u ∷ ts) ≡ bit
      (trapezoid_has t z) + (bit (trapezoid_has u z) + count_by (λ t. trapezoid_has t z) ts)
  two_more t u ts =
      sum_by-cons (λ t. bit (trapezoid_has t z)) t (u ∷ ts) ∙ ap (λ (n : ℕ). bit (trapezoid_has t z) + n) (sum_by-cons (λ t. bit (trapezoid_has t z)) u ts)

  -- the tiles of k columns of a row
  row_count : (i j : ℤ) (k : ℕ) → z.y0 ≤ℤ j → j <ℤ z.y1
      → count_by (λ t. trapezoid_has t z)
      (row_tiles i j k) + (row_before z.left i j + row_before z.right (i +ℤ pos k) j) ≡ row_before z.right i j
      + row_before z.left (i +ℤ pos k) j
  row_count i j zero low high =
      let e : i +ℤ pos 0 ≡ i = omega (arith, ints) in
      let l = ap (λ (x : ℤ). row_before z.left x j) e in
      let r = ap (λ (x : ℤ). row_before z.right x j) e in
      omega (arith, l, r)
  row_count i j (suc k) low high =
      let t : Tile = record { i = i; j = j; side = Left } in
      let u : Tile = record { i = i; j = j; side = Right } in
      let first = one_tile t (twice i) (twice i +ℤ pos 1) low high refl refl in
      let second = one_tile u (twice i +ℤ pos 1) (twice (i +ℤ pos 1)) low high refl (omega (arith, ints)) in
      let rest = row_count (i +ℤ pos 1) j k low high in
      let e : (i +ℤ pos 1) +ℤ pos k ≡ i +ℤ pos (suc k) = omega (arith, ints) in
      let l = ap (λ (x : ℤ). row_before z.left x j) e in
      let r = ap (λ (x : ℤ). row_before z.right x j) e in
      let two = two_more t u (row_tiles (i +ℤ pos 1) j k) in
      omega (arith, first, second, rest, l, r, two)

  -- the tiles of n rows
  pub rows_count : (i j : ℤ) (k n : ℕ) → z.y0 ≤ℤ j → (j +ℤ pos n) ≤ℤ z.y1
      → count_by (λ t. trapezoid_has t z)
      (rows_tiles i k j n) + (tiles_before z.left i j n + tiles_before z.right (i +ℤ pos k) j n)
      ≡ tiles_before z.right i j n + tiles_before z.left (i +ℤ pos k) j n
  rows_count i j k zero low high = omega arith
  rows_count i j k (suc n) low high =
      let here = row_count i j k low (omega (arith, ints, high)) in
      let rest = rows_count i (j +ℤ pos 1) k n (omega (arith, ints, low)) (omega (arith, ints, high)) in
      let sum = sum_by-append (λ t. bit (trapezoid_has t z)) (row_tiles i j k) (rows_tiles i k (j +ℤ pos 1) n) in
      omega (arith, here, rest, sum)
