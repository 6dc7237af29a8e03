-- The lowest rows of bands, as numbers.
use Rattle.std.proofs.Common.{ℕ, ◌<◌, ◌/◌, ◌%◌, ◌-◌, ◌^◌, suc, sym, neg_ℤ, FitsSigned, w64, ◌+◌, ◌*◌, ◌≤◌, ℤ, pos}
use Rattle.std.proofs.Common.{negsuc, ◌+ℤ◌, ◌-ℤ◌, ◌*ℤ◌, ◌≤ℤ◌, ◌<ℤ◌, ◌≡◌, arith, ap, ◌∙◌, mul-le-mul_left}
use Rattle.std.proofs.lemmas.Int.{ints}
use Rattle.std.proofs.Math.IntN.{+ℤ_one, suc_ℤ-*ℤ}
use Rattle.std.proofs.Math.Nat.{mod-lt}
use Rattle.std.proofs.lemmas.Nat.{div-add-mod'}
use Rattle.std.specs.Int.{int_rem_euclid}
use Rattle.half_grid.specs.Windows.{RowRange, row_range}
use Rattle.deck_plan.specs.Bands.{band}
use borrow.Author.Differences.{up, down}

mono : (k m : ℤ) (r : ℕ) → k ≤ℤ m → (k *ℤ pos r) ≤ℤ (m *ℤ pos r)
mono k m r h =
    let less : up k + down m ≤ up m + down k = omega (arith, ints) in
    let products : r * (up k + down m) ≤ r * (up m + down k) = mul-le-mul_left r less in
    omega (arith, ints, products)

pub multiples : (k m rows : ℤ) → pos 0 <ℤ rows → k ≤ℤ m → (k *ℤ rows) ≤ℤ (m *ℤ rows)
multiples k m (pos r) some h = mono k m r h
multiples k m (negsuc r) some h = absurd (omega (arith, ints, some))

pub next_bottom : (k rows : ℤ) → (k +ℤ pos 1) *ℤ rows ≡ (k *ℤ rows) +ℤ rows
next_bottom k rows = ap (λ (m : ℤ). m *ℤ rows) (+ℤ_one k) ∙ suc_ℤ-*ℤ k rows

-- ---- the first band

pub near_fits : (z : ℤ) → neg_ℤ (pos (2 ^ 40)) ≤ℤ z → z ≤ℤ pos (2 ^ 40) → FitsSigned w64 z
near_fits (pos n) low high = record { sfits = omega (arith, ints, high) }
near_fits (negsuc n) low high = record { sfits = omega (arith, ints, low) }

above : (a n : ℕ) → pos a -ℤ pos (a % n) ≡ pos (a / n) *ℤ pos n
above a n = let e = div-add-mod' a n in omega (arith, ints, e)

below : (a n : ℕ) → 0 < n → negsuc a -ℤ pos (n - 1 - a % n) ≡ negsuc (a / n) *ℤ pos n
below a n some =
    let e = div-add-mod' a n in
    let less = mod-lt a some in
    let product : suc (a / n) * n ≡ n + a / n * n = omega arith in
    omega (arith, ints, e, less, product)

-- a number less its remainder is a multiple
pub bottom_is : (y rows : ℤ) → pos 0 <ℤ rows → (k : ℤ) × ((y -ℤ int_rem_euclid y rows) ≡ k *ℤ rows)
bottom_is (pos a) (pos n) some = (pos (a / n), above a n)
bottom_is (negsuc a) (pos n) some = (negsuc (a / n), below a n (omega (arith, ints, some)))
bottom_is y (negsuc n) some = absurd (omega (arith, ints, some))

pub first_is : (rows low y rest : ℤ) (window : RowRange) → pos 0 <ℤ rows → y ≡ low → rest ≡ int_rem_euclid low rows
    → window ≡ row_range (y -ℤ rest) ((y -ℤ rest) +ℤ rows) → (k : ℤ) × (window ≡ band rows k)
first_is rows low y rest window some same value is =
    let k = bottom_is low rows some in
    let bottom : y -ℤ rest ≡ k.0 *ℤ rows = ap (λ (z : ℤ). z -ℤ rest) same ∙ ap (λ (z : ℤ). low -ℤ z) value ∙ k.1 in
    (k.0, is ∙ ap (λ (z : ℤ). row_range z (z +ℤ rows)) bottom ∙ ap (row_range (k.0 *ℤ rows)) (sym (next_bottom k.0 rows)))

pub rem_low : (y rows : ℤ) → pos 0 <ℤ rows → pos 0 ≤ℤ int_rem_euclid y rows
rem_low (pos a) rows some = omega (arith, ints)
rem_low (negsuc a) rows some = omega (arith, ints)
