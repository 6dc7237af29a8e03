-- How many triangles a shot has at most.
use Rattle.std.proofs.Common.{◌≡◌, ℕ, ℤ, pos, ◌-ℤ◌, ◌+ℤ◌, ◌*ℤ◌, ◌*◌, ◌^◌, ◌≤◌, unsigned_abs, subst, sym, ap, ◌∙◌, arith}
use Rattle.std.proofs.lemmas.Int.{ints, unsigned_abs-mul}
use Rattle.std.proofs.lemmas.Nat.{mul-le}
use Rattle.half_grid.specs.Reach.{IsWithinReach}
use Rattle.half_grid.specs.Trapezoids.{Trapezoid, IsShot, bottom_of, top_of}

-- a difference of two numbers that are within reach
small : (a b : ℤ) → IsWithinReach a → IsWithinReach b → unsigned_abs (a -ℤ b) ≤ 2 ^ 45
small a b p q = omega (arith, ints)

-- the sum of two
small_sum : (a b : ℤ) → unsigned_abs a ≤ 2 ^ 45 → unsigned_abs b ≤ 2 ^ 45 → unsigned_abs (a +ℤ b) ≤ 2 ^ 46
small_sum a b p q = omega (arith, ints)

-- its rows are at most 2^45, and the lengths of its parallel sides together at most 2^46
pub few_triangles : (z : Trapezoid) (n : ℕ) → IsShot z → pos n ≡ (z.y1 -ℤ z.y0) *ℤ (bottom_of z +ℤ top_of z) → n ≤ 2 ^ 91
few_triangles z n shot e =
    let r = shot.reach in
    let rows : unsigned_abs (z.y1 -ℤ z.y0) ≤ 2 ^ 45 = small _ _ r.y1 r.y0 in
    let sides : unsigned_abs (bottom_of z +ℤ top_of z) ≤ 2 ^ 46 =
    small_sum (bottom_of z) (top_of z) (small _ _ r.bottom_right r.bottom_left) (small _ _ r.top_right r.top_left) in
    let product : n ≡ unsigned_abs (z.y1 -ℤ z.y0) * unsigned_abs (bottom_of z +ℤ top_of z) =
    ap unsigned_abs e ∙ unsigned_abs-mul (z.y1 -ℤ z.y0) (bottom_of z +ℤ top_of z) in
    subst (λ (m : ℕ). m ≤ 2 ^ 91) (sym product) (mul-le _ _ (2 ^ 45) (2 ^ 46) rows sides)
