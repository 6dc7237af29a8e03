-- Halves rounded down, by what lies above and below zero: the integer z is up z less down z.
use Rattle.std.proofs.Common.{◌≡◌, ◌+◌, ◌*◌, ◌≤◌, Bool, true, false, ℤ, pos, negsuc, arith, cond, refl}
use borrow.Author.Differences.{up, down}
use Rattle.std.proofs.lemmas.Bool.Decides.{nat_tests}
use Rattle.half_grid.specs.Halves.{half, is_even}

-- twice the half is at most the number ..
pub half_low : (z : ℤ) → 2 * up (half z) + down z ≤ 2 * down (half z) + up z
half_low (pos n) = omega arith
half_low (negsuc n) = omega arith

-- .. and at least the number less one
pub half_high : (z : ℤ) → up z + 2 * down (half z) ≤ down z + 2 * up (half z) + 1
half_high (pos n) = omega arith
half_high (negsuc n) = omega arith

-- an even number is twice its half
pub half_even : (z : ℤ) → is_even z ≡ true → up z + 2 * down (half z) ≡ down z + 2 * up (half z)
half_even (pos n) e = grind (arith, nat_tests)
half_even (negsuc n) e = grind (arith, nat_tests)

-- an odd number is one more
pub half_odd : (z : ℤ) → is_even z ≡ false → up z + 2 * down (half z) ≡ down z + 2 * up (half z) + 1
half_odd (pos n) e = grind (arith, nat_tests)
half_odd (negsuc n) e = grind (arith, nat_tests)

-- a choice, by its test
pub chosen : {A : Type 0} (b : Bool) (x y z : A) → (b ≡ true → x ≡ z) → (b ≡ false → y ≡ z) → cond b x y ≡ z
chosen true x y z f g = f refl
chosen false x y z f g = g refl
