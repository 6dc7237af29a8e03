-- What the tokens of a line may be. A NAME is a letter or `_`, then letters, digits or `_`, at most 32 bytes. A FILE is a
-- token of 1 to 255 bytes, a CELL one of 1 to 1,024. A number is an optional `-` and 1 to 18 digits; zeros may lead.
use Rattle.std.specs.Prelude.{ℕ, ◌+◌, ◌-◌, ◌*◌, ℤ, pos, neg_ℤ, Bool, false, ◌&&◌, ◌||◌, ◌==◌, nat_le, List, [], ◌∷◌}
use Rattle.std.specs.Prelude.{length, fold, Option, Some, None, option_map, Result, Ok, Err, if◌then◌else◌}
use Rattle.std.specs.List.{list_all}
use Rattle.std.specs.Char.{is_ascii_graphic, is_ascii_digit, is_ascii_alphabetic}
use Rattle.deck_text.specs.Tokens.{Piece}

-- ---- tokens

abbrev pub is_letter : ℕ → Bool
is_letter b = is_ascii_alphabetic b || b == 95

abbrev pub is_word : ℕ → Bool
is_word b = is_letter b || is_ascii_digit b

unfoldable pub is_name : List ℕ → Bool
is_name [] = false
is_name (b ∷ bytes) = is_letter b && (nat_le (length bytes) 31 && list_all is_word bytes)

-- a token of at least one and at most so many bytes
unfoldable pub is_token : ℕ → List ℕ → Bool
is_token most bytes = nat_le 1 (length bytes) && (nat_le (length bytes) most && list_all is_ascii_graphic bytes)

-- what digits say in decimal
abbrev pub decimal_value : List ℕ → ℕ
decimal_value digits = fold (λ n d. 10 * n + (d - 48)) 0 digits

unfoldable pub are_digits : List ℕ → Bool
are_digits digits = nat_le 1 (length digits) && (nat_le (length digits) 18 && list_all is_ascii_digit digits)

-- ---- values

abbrev pub name_value : List ℕ → Option (List ℕ)
name_value token = if is_name token then Some token else None

abbrev pub file_value : List ℕ → Option (List ℕ)
file_value token = if is_token 255 token then Some token else None

abbrev pub cell_value : List ℕ → Option (List ℕ)
cell_value token = if is_token 1024 token then Some token else None

unfoldable pub digits_value : List ℕ → Option ℕ
digits_value digits = if are_digits digits then Some (decimal_value digits) else None

unfoldable pub number_value : List ℕ → Option ℤ
number_value [] = None
number_value (b ∷ bytes) =
    if b == 45 then option_map (λ n. neg_ℤ (pos n)) (digits_value bytes) else option_map (λ n. pos n) (digits_value (b ∷ bytes))

-- ---- kinds

-- what may stand at a place of a line; Sides are the two half sides of a rectangle, by one number for both or by two
pub data Kind : Type 0 where
  Name : Kind
  File : Kind
  Cell : Kind
  Number : Kind
  Sides : Kind

abbrev pub Value : Kind → Type 0
Value Name = List ℕ
Value File = List ℕ
Value Cell = List ℕ
Value Number = ℤ
Value Sides = ℤ × ℤ

abbrev pub Values : List Kind → Type 0
Values [] = Unit {0}
Values (kind ∷ kinds) = Value kind × Values kinds

infixl 10 ◌>>=◌
abbrev pub ◌>>=◌ : {A B : Type 0} → Result A ℕ → (A → Result B ℕ) → Result B ℕ
Ok x >>= f = f x
Err column >>= f = Err column

-- ---- matching: the values, or the column of the first piece that doesn't fit, or `past` where a piece is missing

-- one piece, with those after it
abbrev pub fitting : {A : Type 0} → ℕ → List Piece → Option A → Result (A × List Piece) ℕ
fitting column behind (Some value) = Ok (value, behind)
fitting column behind None = Err column

unfoldable pub taken_as : {A : Type 0} → (List ℕ → Option A) → ℕ → List Piece → Result (A × List Piece) ℕ
taken_as value past [] = Err past
taken_as value past (p ∷ ps) = fitting p.column ps (value p.bytes)

-- the second of two half sides, which is the first where the line ends there
unfoldable pub second_side : ℤ → ℕ → List Piece → Result ((ℤ × ℤ) × List Piece) ℕ
second_side d past [] = Ok ((d, d), [])
second_side d past (p ∷ ps) = taken_as number_value past (p ∷ ps) >>= λ e. Ok ((d, e.0), e.1)

abbrev pub taken : (kind : Kind) → ℕ → List Piece → Result (Value kind × List Piece) ℕ
taken Name past ps = taken_as name_value past ps
taken File past ps = taken_as file_value past ps
taken Cell past ps = taken_as cell_value past ps
taken Number past ps = taken_as number_value past ps
taken Sides past ps = taken_as number_value past ps >>= λ d. second_side d.0 past d.1

-- nothing stands after the last
unfoldable pub ended : ℕ → List Piece → Result (Unit {0}) ℕ
ended past [] = Ok tt
ended past (p ∷ ps) = Err p.column

abbrev pub fields : (kinds : List Kind) → ℕ → List Piece → Result (Values kinds) ℕ
fields [] past ps = ended past ps
fields (kind ∷ kinds) past ps = taken kind past ps >>= λ v. fields kinds past v.1 >>= λ vs. Ok (v.0, vs)
