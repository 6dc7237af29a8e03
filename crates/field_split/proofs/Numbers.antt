-- The numbers of fields: multiples of a size, and the stretch of a number.
use Rattle.std.proofs.Common.{◌≡◌, ℕ, suc, ◌+◌, ◌*◌, ◌/◌, ◌<◌, ◌≤◌, ◌^◌, ℤ, pos, negsuc, neg_ℤ, ◌+ℤ◌, ◌*ℤ◌, ◌≤ℤ◌, ◌<ℤ◌}
use Rattle.std.proofs.Common.{arith, refl, ap, ◌∙◌, mul-le-mul_left, FitsSigned, w64}
use Rattle.std.proofs.lemmas.Int.{ints, by_lt_z}
use Rattle.std.proofs.Math.IntN.{+ℤ_one, suc_ℤ-*ℤ}
use Rattle.std.proofs.Math.Nat.{mod-lt}
use Rattle.std.proofs.lemmas.Nat.{div-add-mod'}
use Rattle.std.specs.Int.{int_div_euclid}
use Rattle.field_split.specs.Cutting.{natural_of}
use Rattle.field_split.specs.Fields.{IsInStretch}
use borrow.Author.Differences.{up, down}

-- what is well below 2^63 fits 64 bits
pub fits_by : (z : ℤ) → neg_ℤ (pos (2 ^ 60)) ≤ℤ z → z ≤ℤ pos (2 ^ 60) → FitsSigned w64 z
fits_by (pos n) a b = record { sfits = omega (arith, ints, b) }
fits_by (negsuc n) a b = record { sfits = omega (arith, ints, a) }

mono : (k m : ℤ) (r : ℕ) → k ≤ℤ m → (k *ℤ pos r) ≤ℤ (m *ℤ pos r)
mono k m r h =
    let less : up k + down m ≤ up m + down k = omega (arith, ints) in
    let products : r * (up k + down m) ≤ r * (up m + down k) = mul-le-mul_left r less in
    omega (arith, ints, products)

pub multiples : (k m size : ℤ) → pos 0 <ℤ size → k ≤ℤ m → (k *ℤ size) ≤ℤ (m *ℤ size)
multiples k m (pos r) some h = mono k m r h
multiples k m (negsuc r) some h = absurd (omega (arith, ints, some))

-- a lesser multiple is that of a lesser number
pub fewer : (k m size : ℤ) → pos 0 <ℤ size → (k *ℤ size) <ℤ (m *ℤ size) → k <ℤ m
fewer k m size some h = by_lt_z k m (λ lt. lt) (λ le. (let back = multiples m k size some le in absurd (omega (arith, ints, h, back))))

pub next_start : (m size : ℤ) → (m +ℤ pos 1) *ℤ size ≡ (m *ℤ size) +ℤ size
next_start m size = ap (λ (k : ℤ). k *ℤ size) (+ℤ_one m) ∙ suc_ℤ-*ℤ m size

-- a number lies in the stretch of its quotient
quotient_above : (a s : ℕ) → 0 < s → ((pos (a / s) *ℤ pos s) ≤ℤ pos a) × (pos a <ℤ ((pos (a / s) *ℤ pos s) +ℤ pos s))
quotient_above a s some =
    let e = div-add-mod' a s in
    let less = mod-lt a some in
    (omega (arith, ints, e, less), omega (arith, ints, e, less))

quotient_below : (a s : ℕ) → 0 < s → ((negsuc (a / s) *ℤ pos s) ≤ℤ negsuc a) × (negsuc a <ℤ ((negsuc (a / s) *ℤ pos s) +ℤ pos s))
quotient_below a s some =
    let e = div-add-mod' a s in
    let less = mod-lt a some in
    let product : suc (a / s) * s ≡ s + a / s * s = omega arith in
    (omega (arith, ints, e, less, product), omega (arith, ints, e, less, product))

in_stretch : (size n v : ℤ) → ((n *ℤ size) ≤ℤ v) × (v <ℤ ((n *ℤ size) +ℤ size)) → IsInStretch size n v
in_stretch size n v h = record { from = h.0; below = rw (next_start n size) h.1 }

pub stretch_of : (size v : ℤ) → pos 0 <ℤ size → IsInStretch size (int_div_euclid v size) v
stretch_of (pos s) (pos a) some = in_stretch (pos s) (pos (a / s)) (pos a) (quotient_above a s (omega (arith, ints, some)))
stretch_of (pos s) (negsuc a) some = in_stretch (pos s) (negsuc (a / s)) (negsuc a) (quotient_below a s (omega (arith, ints, some)))
stretch_of (negsuc s) v some = absurd (omega (arith, ints, some))

-- one stretch has a number
pub same_stretch : (size m n v : ℤ) → pos 0 <ℤ size → IsInStretch size m v → IsInStretch size n v → m ≡ n
same_stretch size m n v some p q =
    let up = fewer m (n +ℤ pos 1) size some (omega (arith, ints, p.from, q.below)) in
    let back = fewer n (m +ℤ pos 1) size some (omega (arith, ints, q.from, p.below)) in
    omega (arith, ints, up, back)

-- counts
pub count_is : (z : ℤ) → pos 0 ≤ℤ z → pos (natural_of z) ≡ z
count_is (pos n) h = refl
count_is (negsuc n) h = absurd (omega (arith, ints, h))
