-- Products of a coordinate with a small factor fit 128 bits.
use Rattle.std.proofs.Common.{◌≡◌, ℕ, ℤ, pos, negsuc, ◌*ℤ◌, ◌<◌, ◌≤◌, ◌^◌, ◌*◌, FitsSigned, to_z, of_z, w64, arith, unsigned_abs}
use mir.Syntax.{w128}
use Rattle.std.proofs.lemmas.Int.{ints, to_z-of_z, to_z_pos, unsigned_abs-mul, fits_signed_from_abs}
use Rattle.std.proofs.Math.Nat.{mul-le-mul}
use Rattle.layout_model.specs.Products.{IsProduct}

abs_of_fitting : (u : ℤ) → FitsSigned w64 u → unsigned_abs u ≤ 2 ^ 63
abs_of_fitting (pos n) f = omega (arith, f.sfits)
abs_of_fitting (negsuc n) f = omega (arith, f.sfits)

near_by_abs : (z : ℤ) → unsigned_abs z ≤ 2 ^ 96 → IsProduct z
near_by_abs (pos n) h = record { low = omega (arith, ints); high = omega (arith, ints) }
near_by_abs (negsuc n) h = record { low = omega (arith, ints); high = omega (arith, ints) }

abs_of_product : (a : ℕ) (u : ℤ) → a < 2 ^ 32 → FitsSigned w64 u → unsigned_abs (pos a *ℤ u) ≤ 2 ^ 96
abs_of_product a u h f =
    let first : a ≤ 2 ^ 32 = omega arith in
    let both : a * unsigned_abs u ≤ 2 ^ 32 * 2 ^ 63 = mul-le-mul first (abs_of_fitting u f) in
    omega (arith, both, unsigned_abs-mul (pos a) u)

pub product_small : (a : ℕ) (u : ℤ) → a < 2 ^ 32 → FitsSigned w64 u → IsProduct (pos a *ℤ u)
product_small a u h f = near_by_abs (pos a *ℤ u) (abs_of_product a u h f)

pub product_fits : (a : ℕ) (u : ℤ) → a < 2 ^ 32 → FitsSigned w64 u → FitsSigned w128 (pos a *ℤ u)
product_fits a u h f = fits_signed_from_abs w128 (pos a *ℤ u) (omega (arith, abs_of_product a u h f))

-- what the code computes
pub product_bits : (a : ℕ) (u : ℤ) → a < 2 ^ 32 → FitsSigned w64 u
    → to_z w128 (of_z w128 (to_z w128 a *ℤ to_z w128 (of_z w128 (to_z w64 (of_z w64 u))))) ≡ pos a *ℤ u
product_bits a u h f =
    let wider : FitsSigned w128 u = fits_signed_from_abs w128 u (omega (arith, abs_of_fitting u f)) in
    rw (to_z-of_z w64 u f, to_z-of_z w128 u wider, to_z_pos w128 a (omega arith)) (to_z-of_z w128 (pos a *ℤ u) (product_fits a u h f))
