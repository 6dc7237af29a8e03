-- Tests on whole numbers, by the facts that they decide.
use Rattle.std.proofs.Common.{◌≡◌, true, false, ℤ, ◌≤ℤ◌, ◌<ℤ◌, arith}
use Rattle.std.proofs.lemmas.Int.{ints}
use Rattle.std.specs.Prelude.{int_lt}

pub lt_yes : (x y : ℤ) → x <ℤ y → int_lt x y ≡ true
lt_yes x y h = grind (arith, ints)

pub lt_no : (x y : ℤ) → y ≤ℤ x → int_lt x y ≡ false
lt_no x y h = grind (arith, ints)

pub lt_is : (x y : ℤ) → int_lt x y ≡ true → x ≤ℤ y
lt_is x y h = grind (arith, ints)

pub not_lt_is : (x y : ℤ) → int_lt x y ≡ false → y ≤ℤ x
not_lt_is x y h = grind (arith, ints)
