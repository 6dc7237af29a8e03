-- How many numbers an interval of a kind has.
use Rattle.std.proofs.Common.{◌≡◌, ℕ, zero, suc, ◌≤◌, Some, refl, arith}
use Rattle.oas_record.specs.Values.{bounds}

pub bounds_one : (kind : ℕ) → 1 ≤ kind → kind ≤ 3 → bounds kind ≡ Some 1
bounds_one zero low high = absurd (omega (arith, low))
bounds_one (suc zero) low high = refl
bounds_one (suc (suc zero)) low high = refl
bounds_one (suc (suc (suc zero))) low high = refl
bounds_one (suc (suc (suc (suc kind)))) low high = absurd (omega (arith, high))

pub bounds_two : (kind : ℕ) → kind ≡ 4 → bounds kind ≡ Some 2
bounds_two kind is = rw is refl
