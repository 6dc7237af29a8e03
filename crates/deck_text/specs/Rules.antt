-- The rules of a deck, each about a line's statement and those of the lines before it.
use Rattle.std.specs.Prelude.{ℕ, ℤ, pos, neg_ℤ, ◌+ℤ◌, int_lt, Bool, true, false, ◌&&◌, ◌||◌, not, nat_le, List, [], ◌∷◌}
use Rattle.std.specs.Prelude.{find, count_by, Option, Some, None, option_map, if◌then◌else◌}
use Rattle.std.specs.List.{list_any}
use Rattle.std.specs.Str.{bytes_eq}
use Rattle.half_grid.specs.Halves.{is_even}
use Rattle.deck_text.specs.Statements.{Setting, UnitIs, TopIs, BandIs, LimitsAre, FrameIs, Operation, LayerOf, Combines}
use Rattle.deck_text.specs.Statements.{Sizes, Inverts, Mirrors, Statement, Sets, Defines, Writes, Said}
use Rattle.deck_text.specs.declared.refusal.DeckBad.{DeckBad}
use Rattle.deck_text.specs.declared.refusal.DeckBad.TheVariants as faults

-- ---- statements

abbrev pub is_setting : Statement → Bool
is_setting (Sets setting) = true
is_setting (Defines name operation) = false
is_setting (Writes a file layer datatype) = false

abbrev pub is_definition : Statement → Bool
is_definition (Sets setting) = false
is_definition (Defines name operation) = true
is_definition (Writes a file layer datatype) = false

abbrev pub is_output : Statement → Bool
is_output (Sets setting) = false
is_output (Defines name operation) = false
is_output (Writes a file layer datatype) = true

-- the statements before, alone
abbrev pub any_before : (Statement → Bool) → List Said → Bool
any_before test before = list_any (λ m. test m.says) before

abbrev pub count_before : (Statement → Bool) → List Said → ℕ
count_before test before = count_by (λ m. test m.says) before

-- ---- settings

abbrev pub is_unit : Statement → Bool
is_unit (Sets (UnitIs n)) = true
is_unit _ = false

abbrev pub is_top : Statement → Bool
is_top (Sets (TopIs cell)) = true
is_top _ = false

abbrev pub is_band : Statement → Bool
is_band (Sets (BandIs rows)) = true
is_band _ = false

abbrev pub is_limits : Statement → Bool
is_limits (Sets (LimitsAre height width)) = true
is_limits _ = false

abbrev pub is_frame : Statement → Bool
is_frame (Sets (FrameIs x0 y0 x1 y1)) = true
is_frame _ = false

-- ---- Order: a setting comes after a definition or an output, or one of these comes before both `unit` and `top`

abbrev pub is_misplaced : List Said → Statement → Bool
is_misplaced before s =
    if is_setting s then any_before (λ t. not (is_setting t)) before else not (any_before is_unit before && any_before is_top before)

-- ---- Twice: the setting of an earlier line again, or the name that it defined

-- the same setting
abbrev pub sets_again : Setting → Statement → Bool
sets_again (UnitIs n) t = is_unit t
sets_again (TopIs cell) t = is_top t
sets_again (BandIs rows) t = is_band t
sets_again (LimitsAre height width) t = is_limits t
sets_again (FrameIs x0 y0 x1 y1) t = is_frame t

-- defines this name
abbrev pub defines : List ℕ → Statement → Bool
defines name (Sets setting) = false
defines name (Defines other operation) = bytes_eq other name
defines name (Writes a file layer datatype) = false

abbrev pub repeats : Statement → Statement → Bool
repeats (Sets setting) t = sets_again setting t
repeats (Defines name operation) t = defines name t
repeats (Writes a file layer datatype) t = false

-- the line of the first statement that this one repeats
abbrev pub repeated_line : List Said → Statement → Option ℕ
repeated_line before s = option_map (λ m. m.line) (find (λ m. repeats s m.says) before)

-- ---- Unknown: an operand isn't defined before

abbrev pub operands_of_operation : Operation → List (List ℕ)
operands_of_operation (LayerOf layer datatype) = []
operands_of_operation (Combines operator a b) = a ∷ b ∷ []
operands_of_operation (Sizes sizing a dx dy) = a ∷ []
operands_of_operation (Inverts a) = a ∷ []
operands_of_operation (Mirrors a m) = a ∷ []

abbrev pub operands_of : Statement → List (List ℕ)
operands_of (Sets setting) = []
operands_of (Defines name operation) = operands_of_operation operation
operands_of (Writes a file layer datatype) = a ∷ []

abbrev pub is_defined : List Said → List ℕ → Bool
is_defined before name = any_before (defines name) before

-- the first operand that isn't defined
abbrev pub unknown_operand : List Said → Statement → Option (List ℕ)
unknown_operand before s = find (λ name. not (is_defined before name)) (operands_of s)

-- ---- NoFrame: `invert` without a frame

abbrev pub inverts : Statement → Bool
inverts (Sets setting) = false
inverts (Defines name (LayerOf layer datatype)) = false
inverts (Defines name (Combines operator a b)) = false
inverts (Defines name (Sizes sizing a dx dy)) = false
inverts (Defines name (Inverts a)) = true
inverts (Defines name (Mirrors a m)) = false
inverts (Writes a file layer datatype) = false

abbrev pub lacks_frame : List Said → Statement → Bool
lacks_frame before s = inverts s && not (any_before is_frame before)

-- ---- Range: a number is out of its range

-- a number, and the least and the greatest that it may be
pub record Bound : Type 0 where
  pub value : ℤ
  pub low : ℤ
  pub high : ℤ

abbrev pub bound : ℤ → ℤ → ℤ → Bound
bound value low high = record { value = value; low = low; high = high }

abbrev pub is_outside : Bound → Bool
is_outside b = int_lt b.value b.low || int_lt b.high b.value

-- within 2^30 of 0
abbrev pub within_reach : ℤ → Bound
within_reach x = bound x (neg_ℤ (pos 1073741824)) (pos 1073741824)

-- more than x0, and within 2^30 of 0, as x0 is
abbrev pub above : ℤ → ℤ → Bound
above x0 x1 = bound x1 (x0 +ℤ pos 1) (pos 1073741824)

-- layers and datatypes have 32 bits
abbrev pub narrow : ℤ → Bound
narrow n = bound n (pos 0) (pos 4294967295)

abbrev pub bounds_of_setting : Setting → List Bound
bounds_of_setting (UnitIs n) = bound n (pos 1) (pos 1000000) ∷ []
bounds_of_setting (TopIs cell) = []
bounds_of_setting (BandIs rows) = bound rows (pos 1024) (pos 16777216) ∷ []
bounds_of_setting (LimitsAre height width) = bound height (pos 1) (pos 16777216) ∷ bound width (height +ℤ height) (pos 33554432) ∷ []
bounds_of_setting (FrameIs x0 y0 x1 y1) = within_reach x0 ∷ within_reach y0 ∷ above x0 x1 ∷ above y0 y1 ∷ []

abbrev pub bounds_of_operation : Operation → List Bound
bounds_of_operation (LayerOf layer datatype) = narrow layer ∷ narrow datatype ∷ []
bounds_of_operation (Combines operator a b) = []
bounds_of_operation (Sizes sizing a dx dy) = bound dx (pos 0) (pos 65536) ∷ bound dy (pos 0) (pos 65536) ∷ []
bounds_of_operation (Inverts a) = []
bounds_of_operation (Mirrors a m) = within_reach m ∷ []

abbrev pub bounds_of : Statement → List Bound
bounds_of (Sets setting) = bounds_of_setting setting
bounds_of (Defines name operation) = bounds_of_operation operation
bounds_of (Writes a file layer datatype) = narrow layer ∷ narrow datatype ∷ []

-- the first number that is out of its range
abbrev pub first_outside : List Bound → Option ℤ
first_outside bounds = option_map (λ b. b.value) (find is_outside bounds)

unfoldable pub out_of_range : Statement → Option ℤ
out_of_range s = first_outside (bounds_of s)

-- ---- Odd: the sum of the two half sides is odd

abbrev pub has_odd_sum : Statement → Bool
has_odd_sum (Sets setting) = false
has_odd_sum (Defines name (LayerOf layer datatype)) = false
has_odd_sum (Defines name (Combines operator a b)) = false
has_odd_sum (Defines name (Sizes sizing a dx dy)) = not (is_even (dx +ℤ dy))
has_odd_sum (Defines name (Inverts a)) = false
has_odd_sum (Defines name (Mirrors a m)) = false
has_odd_sum (Writes a file layer datatype) = false

-- ---- Names: the file of an output is that of an earlier one, or the layout or the deck

abbrev pub goes_to : List ℕ → Statement → Bool
goes_to file (Sets setting) = false
goes_to file (Defines name operation) = false
goes_to file (Writes a other layer datatype) = bytes_eq other file

abbrev pub takes_name : (layout deck : List ℕ) → List Said → Statement → Bool
takes_name layout deck before (Sets setting) = false
takes_name layout deck before (Defines name operation) = false
takes_name layout deck before (Writes a file l d) = bytes_eq file layout || (bytes_eq file deck || any_before (goes_to file) before)

-- ---- Many: 256 definitions or 64 outputs come before

abbrev pub is_too_many : List Said → Statement → Bool
is_too_many before (Sets setting) = false
is_too_many before (Defines name operation) = nat_le 256 (count_before is_definition before)
is_too_many before (Writes a file layer datatype) = nat_le 64 (count_before is_output before)

-- ---- the rules in their order

abbrev pub when : Bool → DeckBad → Option DeckBad
when broken bad = if broken then Some bad else None

abbrev pub or_else : Option DeckBad → Option DeckBad → Option DeckBad
or_else None next = next
or_else (Some bad) next = Some bad

-- the first rule that the statement of line n breaks
unfoldable pub broken_rule : (layout deck : List ℕ) → List Said → ℕ → Statement → Option DeckBad
broken_rule layout deck before n s =
    or_else (when (is_misplaced before s) (faults.Order n))
    (or_else (option_map (λ m. faults.Twice n m) (repeated_line before s))
    (or_else (option_map (λ name. faults.Unknown n name) (unknown_operand before s))
    (or_else (when (lacks_frame before s) (faults.NoFrame n))
    (or_else (option_map (λ value. faults.Range n value) (out_of_range s))
    (or_else (when (has_odd_sum s) (faults.Odd n))
    (or_else (when (takes_name layout deck before s) (faults.Names n))
    (when (is_too_many before s) (faults.Many n))))))))
