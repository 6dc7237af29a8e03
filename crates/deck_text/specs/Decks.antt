-- Decks: their lines, the first line that is refused, and what accepted lines say.
use Rattle.std.specs.Prelude.{◌≡◌, ◌⊎◌, ℕ, ◌+◌, ◌<◌, ℤ, pos, unsigned_abs, Bool, true, false, List, [], ◌∷◌, length}
use Rattle.std.specs.Prelude.{take, slice_get, filter_map, not, Option, Some, None, unwrap_or}
use Rattle.std.specs.List.{prefix_len}
use Rattle.std.specs.Str.{bytes_eq}
use Rattle.half_grid.specs.declared.shot.Limits.{Limits}
use Rattle.half_grid.specs.declared.extent.Frame.{Frame}
use Rattle.layout_model.specs.declared.pair.Pair.{Pair}
use Rattle.deck_text.specs.Lines.{lines_of}
use Rattle.deck_text.specs.Statements.{UnitIs, TopIs, BandIs, LimitsAre, FrameIs, Operation, LayerOf, Combines, Sizes}
use Rattle.deck_text.specs.Statements.{Inverts, Mirrors, Statement, Sets, Defines, Writes, Reading, Passed, Refused}
use Rattle.deck_text.specs.Statements.{Says, Said}
use Rattle.deck_text.specs.Forms.{reading}
use Rattle.deck_text.specs.Rules.{any_before, is_output, broken_rule}
use Rattle.deck_text.specs.declared.statement.Operator.{Operator}
use Rattle.deck_text.specs.declared.statement.Operator.TheVariants as operators
use Rattle.deck_text.specs.declared.statement.Sizing.{Sizing}
use Rattle.deck_text.specs.declared.statement.Sizing.TheVariants as sizings
use Rattle.deck_text.specs.declared.refusal.DeckBad.{DeckBad}
use Rattle.deck_text.specs.declared.refusal.DeckBad.TheVariants as faults
use Rattle.deck_text.specs.declared.deck.Step.{Step}
use Rattle.deck_text.specs.declared.deck.Step.TheVariants as steps
use Rattle.deck_text.specs.declared.deck.Output.{Output}
use Rattle.deck_text.specs.declared.deck.Deck.{Deck}

-- ---- lines

abbrev pub said : ℕ → Statement → Said
said n s = record { line = n; says = s }

-- one more line before the others
abbrev pub said_first : ℕ → Reading → List Said → List Said
said_first n Passed rest = rest
said_first n (Refused column) rest = rest
said_first n (Says s) rest = said n s ∷ rest

-- the statements of lines, of which the first has the number n
unfoldable pub saids_from : ℕ → List (List ℕ) → List Said
saids_from n [] = []
saids_from n (line ∷ lines) = said_first n (reading line) (saids_from (n + 1) lines)

-- ---- refusals

-- why line n, which reads so, is refused after these statements
abbrev pub refusal : (layout deck : List ℕ) → List Said → ℕ → Reading → Option DeckBad
refusal layout deck before n Passed = None
refusal layout deck before n (Refused column) = Some (faults.Line n column)
refusal layout deck before n (Says s) = broken_rule layout deck before n s

-- why the line after the first i lines is refused
abbrev pub refusal_after : (layout deck : List ℕ) → List (List ℕ) → ℕ → List ℕ → Option DeckBad
refusal_after layout deck lines i line = refusal layout deck (saids_from 1 (take i lines)) (i + 1) (reading line)

-- none of the first n lines is refused
abbrev pub AreAccepted : (layout deck : List ℕ) → List (List ℕ) → ℕ → Type 0
AreAccepted layout deck lines n =
    (i : ℕ) (line : List ℕ) → i < n → slice_get lines i ≡ Some line → refusal_after layout deck lines i line ≡ None

-- the line after the first n lines is the first that is refused, and bad says why
pub record IsLineRefusedAt (layout deck : List ℕ) (lines : List (List ℕ)) (n : ℕ) (bad : DeckBad) : Type 0 where
  pub line : List ℕ
  pub there : slice_get lines n ≡ Some line
  pub why : refusal_after layout deck lines n line ≡ Some bad
  pub before : AreAccepted layout deck lines n

abbrev pub has_output : List Said → Bool
has_output saids = any_before is_output saids

-- no line is refused, but there is no output
pub record HasNoOutput (layout deck : List ℕ) (lines : List (List ℕ)) (bad : DeckBad) : Type 0 where
  pub accepted : AreAccepted layout deck lines (length lines)
  pub none : has_output (saids_from 1 lines) ≡ false
  pub order : bad ≡ faults.Order (length lines + 1)

-- the first fault of bytes that are no deck, where the command gives these names of layout and deck
abbrev pub IsFirstDeckFault : (bytes layout deck : List ℕ) → DeckBad → Type 0
IsFirstDeckFault bytes layout deck bad =
    ((n : ℕ) × IsLineRefusedAt layout deck (lines_of bytes) n bad) ⊎ HasNoOutput layout deck (lines_of bytes) bad

-- ---- settings

-- what h gives of the first statement where it gives something
abbrev pub first_or : {A : Type 0} → Option A → Option A → Option A
first_or None next = next
first_or (Some x) next = Some x

abbrev pub setting_in : {A : Type 0} → (Statement → Option A) → List Said → Option A
setting_in h [] = None
setting_in h (m ∷ saids) = first_or (h m.says) (setting_in h saids)

abbrev pub unit_of : Statement → Option ℤ
unit_of (Sets (UnitIs n)) = Some n
unit_of _ = None

abbrev pub top_of : Statement → Option (List ℕ)
top_of (Sets (TopIs cell)) = Some cell
top_of _ = None

abbrev pub band_of : Statement → Option ℤ
band_of (Sets (BandIs rows)) = Some rows
band_of _ = None

abbrev pub limits : ℤ → ℤ → Limits
limits height width = record { height = height; width = width }

abbrev pub limits_of : Statement → Option Limits
limits_of (Sets (LimitsAre height width)) = Some (limits height width)
limits_of _ = None

abbrev pub frame : ℤ → ℤ → ℤ → ℤ → Frame
frame x0 y0 x1 y1 = record { x0 = x0; y0 = y0; x1 = x1; y1 = y1 }

abbrev pub frame_of : Statement → Option Frame
frame_of (Sets (FrameIs x0 y0 x1 y1)) = Some (frame x0 y0 x1 y1)
frame_of _ = None

-- ---- steps and outputs

abbrev pub defined_name : Statement → Option (List ℕ)
defined_name (Sets setting) = None
defined_name (Defines name operation) = Some name
defined_name (Writes a file layer datatype) = None

-- the names of the definitions in order
abbrev pub names_of : List Said → List (List ℕ)
names_of saids = filter_map (λ m. defined_name m.says) saids

-- the number of the definition of a name: how many stand before it
abbrev pub number_of : List (List ℕ) → List ℕ → ℕ
number_of names name = prefix_len (λ other. not (bytes_eq other name)) names

-- numbers in range aren't negative
abbrev pub pair : ℤ → ℤ → Pair
pair layer datatype = record { layer = unsigned_abs layer; datatype = unsigned_abs datatype }

abbrev pub combined : Operator → ℕ → ℕ → Step
combined operators.Or a b = steps.Or a b
combined operators.And a b = steps.And a b
combined operators.Sub a b = steps.Sub a b
combined operators.Xor a b = steps.Xor a b

abbrev pub resized : Sizing → ℕ → ℤ → ℤ → Step
resized sizings.Grow a dx dy = steps.Grow a dx dy
resized sizings.Shrink a dx dy = steps.Shrink a dx dy

abbrev pub step_of : List (List ℕ) → Operation → Step
step_of names (LayerOf layer datatype) = steps.Layer (pair layer datatype)
step_of names (Combines operator a b) = combined operator (number_of names a) (number_of names b)
step_of names (Sizes sizing a dx dy) = resized sizing (number_of names a) dx dy
step_of names (Inverts a) = steps.Invert (number_of names a)
step_of names (Mirrors a m) = steps.Mirror (number_of names a) m

abbrev pub step_in : List (List ℕ) → Statement → Option Step
step_in names (Sets setting) = None
step_in names (Defines name operation) = Some (step_of names operation)
step_in names (Writes a file layer datatype) = None

abbrev pub output : ℕ → List ℕ → Pair → Output
output name file pair = record { name = name; file = file; pair = pair }

abbrev pub output_in : List (List ℕ) → Statement → Option Output
output_in names (Sets setting) = None
output_in names (Defines name operation) = None
output_in names (Writes a file layer datatype) = Some (output (number_of names a) file (pair layer datatype))

abbrev pub steps_of : List Said → List Step
steps_of saids = filter_map (λ m. step_in (names_of saids) m.says) saids

abbrev pub outputs_of : List Said → List Output
outputs_of saids = filter_map (λ m. output_in (names_of saids) m.says) saids

-- ---- decks

-- the deck that these statements say
pub record IsDeckOf (saids : List Said) (d : Deck) : Type 0 where
  pub unit : setting_in unit_of saids ≡ Some (pos d.unit)
  pub top : setting_in top_of saids ≡ Some d.top
  pub band : d.band ≡ unwrap_or (setting_in band_of saids) (pos 1048576)
  pub limits : d.limits ≡ unwrap_or (setting_in limits_of saids) (limits (pos 1048576) (pos 2097152))
  pub frame : d.frame ≡ setting_in frame_of saids
  pub steps : d.steps ≡ steps_of saids
  pub outputs : d.outputs ≡ outputs_of saids

-- the bytes are this deck, where the command gives these names of layout and deck: no line is refused, there is an
-- output, and the lines say so
pub record IsDeck (bytes layout deck : List ℕ) (d : Deck) : Type 0 where
  pub accepted : AreAccepted layout deck (lines_of bytes) (length (lines_of bytes))
  pub some : has_output (saids_from 1 (lines_of bytes)) ≡ true
  pub says : IsDeckOf (saids_from 1 (lines_of bytes)) d

-- ---- the layers of a deck

abbrev pub layer_of : Step → Option Pair
layer_of (steps.Layer pair) = Some pair
layer_of (steps.Or a b) = None
layer_of (steps.And a b) = None
layer_of (steps.Sub a b) = None
layer_of (steps.Xor a b) = None
layer_of (steps.Grow a dx dy) = None
layer_of (steps.Shrink a dx dy) = None
layer_of (steps.Invert a) = None
layer_of (steps.Mirror a m) = None

abbrev pub layers_of : List Step → List Pair
layers_of steps = filter_map layer_of steps
