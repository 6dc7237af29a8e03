-- Bytes read with a sign are in two's complement.
use Rattle.std.proofs.Common.{◌≡◌, ℕ, ◌<◌, ◌^◌, arith}
use Rattle.std.proofs.lemmas.Int.{ints}
use Rattle.std.specs.Int.{cast_signed, w16, w32}
use Rattle.byteorder.specs.Endian.{twos_complement}

pub cast_signed-two : (x : ℕ) → x < 2 ^ 16 → cast_signed w16 x ≡ twos_complement 2 x
cast_signed-two x h = grind (arith, ints)

pub cast_signed-four : (x : ℕ) → x < 2 ^ 32 → cast_signed w32 x ≡ twos_complement 4 x
cast_signed-four x h = grind (arith, ints)
