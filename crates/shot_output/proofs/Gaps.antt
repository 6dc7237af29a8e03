-- How many rows are left, and how many of a band lie below a row.
use Rattle.std.proofs.Common.{◌<◌, refl, ℤ, pos, negsuc, ◌+ℤ◌, ◌≤ℤ◌, ◌<ℤ◌, ◌≡◌, arith}
use Rattle.std.proofs.lemmas.Int.{ints, by_lt_z}
use Rattle.std.proofs.Math.Nat.{mod-lt}
use Rattle.std.specs.Int.{int_gap, int_rem_euclid}

-- the gap between two numbers
pub gap_is : (a b : ℤ) → a ≤ℤ b → a +ℤ pos (int_gap a b) ≡ b
gap_is (pos m) (pos n) h = omega (arith, ints, h)
gap_is (pos m) (negsuc n) h = absurd (omega (arith, ints, h))
gap_is (negsuc m) (pos n) h = omega (arith, ints)
gap_is (negsuc m) (negsuc n) h = omega (arith, ints, h)

pub no_gap : (a b : ℤ) → b ≤ℤ a → int_gap a b ≡ 0
no_gap (pos m) (pos n) h = omega (arith, ints, h)
no_gap (pos m) (negsuc n) h = refl
no_gap (negsuc m) (pos n) h = absurd (omega (arith, ints, h))
no_gap (negsuc m) (negsuc n) h = omega (arith, ints, h)

-- the gap falls as its lower end rises
pub gap_falls : (a b c : ℤ) → a <ℤ c → a <ℤ b → int_gap c b < int_gap a b
gap_falls a b c less some =
    let before = gap_is a b (omega (arith, ints, some)) in
    by_lt_z c b
    (λ below. (let now = gap_is c b (omega (arith, ints, below)) in omega (arith, ints, before, now, less)))
    (λ above. (let now = no_gap c b above in omega (arith, ints, before, now, some)))

pub rem_high : (y rows : ℤ) → pos 0 <ℤ rows → int_rem_euclid y rows <ℤ rows
rem_high (pos a) (pos n) some = let less = mod-lt a (let any : 0 < n = omega (arith, ints, some) in any) in omega (arith, ints, less)
rem_high (negsuc a) (pos n) some = omega (arith, ints, some)
rem_high y (negsuc n) some = absurd (omega (arith, ints, some))
