-- What the pieces of a line say, one after another.
use Rattle.std.specs.Prelude.{ℕ, ◌/◌, ◌%◌, List, [], ◌∷◌, flat_map, decimal, slice_index, codes}
use Rattle.std.specs.Fmt.{signed_decimal}
use Rattle.std.specs.Int.{to_be_bytes, w64}
use Rattle.job_report.specs.declared.pieces.Piece.{Piece}
use Rattle.job_report.specs.declared.pieces.Piece.TheVariants.{Text, Count, Number, Bits, Names}

-- a hexadecimal digit
abbrev pub hex_digit : ℕ → ℕ
hex_digit n = slice_index (codes "0123456789abcdef") n

-- a byte as two digits
abbrev pub byte_digits : ℕ → List ℕ
byte_digits b = hex_digit (b / 16) ∷ hex_digit (b % 16) ∷ []

-- 64 bits as 16 digits, the highest first
unfoldable pub hex_text : ℕ → List ℕ
hex_text bits = flat_map byte_digits (to_be_bytes w64 bits)

-- names, each after a space
abbrev pub names_text : List (List ℕ) → List ℕ
names_text names = flat_map (λ name. 32 ∷ name) names

abbrev pub text_of : Piece → List ℕ
text_of (Text bytes) = bytes.now
text_of (Count number) = decimal number
text_of (Number number) = signed_decimal number
text_of (Bits bits) = hex_text bits
text_of (Names names) = names_text names.now

-- the pieces one after another
abbrev pub spelled : List Piece → List ℕ
spelled pieces = flat_map text_of pieces
