-- Half of a whole number, rounded down, and whether it is even.
use Rattle.std.specs.Prelude.{◌/◌, ◌%◌, ◌==◌, Bool, ℤ, pos, negsuc, ◌+ℤ◌}

abbrev pub half : ℤ → ℤ
half (pos n) = pos (n / 2)
half (negsuc n) = negsuc (n / 2)

abbrev pub is_even : ℤ → Bool
is_even (pos n) = n % 2 == 0
is_even (negsuc n) = n % 2 == 1

-- twice a number
abbrev pub twice : ℤ → ℤ
twice z = z +ℤ z
