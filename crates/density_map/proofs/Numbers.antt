-- Whole numbers as natural ones, and their squares.
use Rattle.std.proofs.Common.{ℕ, ◌+◌, ◌*◌, ◌≤◌, ◌≡◌, ℤ, pos, negsuc, ◌+ℤ◌, ◌≤ℤ◌, arith, refl}
use Rattle.std.proofs.lemmas.Int.{ints}
use Rattle.density_map.specs.Frames.{natural}

pub natural_is : (z : ℤ) → pos 0 ≤ℤ z → pos (natural z) ≡ z
natural_is (pos n) h = refl
natural_is (negsuc n) h = absurd (omega (arith, ints, h))

pub natural_none : (z : ℤ) → z ≤ℤ pos 0 → natural z ≡ 0
natural_none (pos n) h = omega (arith, ints, h)
natural_none (negsuc n) h = refl

abbrev pub square : ℤ → ℕ
square z = natural z * natural z

next_square : (n : ℕ) → (n + n + 1) + n * n ≡ (n + 1) * (n + 1)
next_square n = omega arith

square_of : (y z : ℤ) (n : ℕ) → natural z ≡ n → natural y ≡ n + 1 → (n + n + 1) + natural z * natural z ≡ natural y * natural y
square_of y z n e f = rw (e, f) (next_square n)

-- the odd numbers add up to squares
pub odd_step : (z : ℤ) → natural ((z +ℤ z) +ℤ pos 1) + square z ≡ square (z +ℤ pos 1)
odd_step (pos n) =
    let twice : natural ((pos n +ℤ pos n) +ℤ pos 1) ≡ n + n + 1 = refl in
    let next : natural (pos n +ℤ pos 1) ≡ n + 1 = refl in
    rw twice (square_of (pos n +ℤ pos 1) (pos n) n refl next)
odd_step (negsuc n) =
    let twice : natural ((negsuc n +ℤ negsuc n) +ℤ pos 1) ≡ 0 = natural_none ((negsuc n +ℤ negsuc n) +ℤ pos 1) (omega (arith, ints)) in
    let next : natural (negsuc n +ℤ pos 1) ≡ 0 = natural_none (negsuc n +ℤ pos 1) (omega (arith, ints)) in
    rw (twice, next) refl
