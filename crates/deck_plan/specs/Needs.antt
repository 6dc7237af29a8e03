-- The rows of each definition on which an output's area in a band depends.
--
-- A definition is used where a chain of operands leads to it from the definition that the output names. A family of
-- windows, one for each definition, is enough for a band where the window of the output's definition contains the band,
-- and the window of each operand of a used step contains the step's window, widened on both sides by the half side in y
-- where the step grows or shrinks. The needed windows are the least such family. So a definition that isn't used needs
-- no rows.
use Rattle.std.specs.Prelude.{◌≡◌, ◌≤ℤ◌, ◌<ℤ◌, ◌+ℤ◌, ◌-ℤ◌, ℕ, ℤ, pos, List, [], ◌∷◌, slice_get, Some, Contains}
use Rattle.half_grid.specs.Reach.{IsWithinReach}
use Rattle.half_grid.specs.Windows.{RowRange, row_range}
use Rattle.deck_text.specs.declared.deck.Step.{Step}
use Rattle.deck_text.specs.declared.deck.Step.TheVariants.{Layer, Or, And, Sub, Xor, Grow, Shrink, Invert, Mirror}
use Rattle.deck_text.specs.declared.deck.Deck.{Deck}
use Rattle.deck_plan.specs.declared.needs.Taken.{Taken}

-- a band of an output: it has rows, and lies within reach
pub record IsBand (band : RowRange) : Type 0 where
  pub low : IsWithinReach band.y0
  pub high : IsWithinReach band.y1
  pub has_rows : band.y0 <ℤ band.y1

-- a band that an area is asked for: it has at most as many rows as a deck's bands may have
pub record IsAskedBand (band : RowRange) : Type 0 where
  pub is_band : IsBand band
  pub few : band.y1 ≤ℤ (band.y0 +ℤ pos 16777216)

-- An operand of a step is taken by its name, and with a halo: how many rows beyond a row of the step its area is looked
-- at.
abbrev pub taken : ℕ → ℤ → Taken
taken name halo = record { name = name; halo = halo }

abbrev pub operands_of : Step → List Taken
operands_of (Layer pair) = []
operands_of (Or a b) = taken a (pos 0) ∷ taken b (pos 0) ∷ []
operands_of (And a b) = taken a (pos 0) ∷ taken b (pos 0) ∷ []
operands_of (Sub a b) = taken a (pos 0) ∷ taken b (pos 0) ∷ []
operands_of (Xor a b) = taken a (pos 0) ∷ taken b (pos 0) ∷ []
operands_of (Grow a dx dy) = taken a dy ∷ []
operands_of (Shrink a dx dy) = taken a dy ∷ []
operands_of (Invert a) = taken a (pos 0) ∷ []
operands_of (Mirror a m) = taken a (pos 0) ∷ []

-- definition n takes the operand
pub record Takes (deck : Deck) (n : ℕ) (operand : Taken) : Type 0 where
  pub step : Step
  pub here : slice_get deck.steps n ≡ Some step
  pub among : Contains (operands_of step) operand

-- each is an operand of the one before it, the first one of definition n
abbrev pub IsChain : Deck → ℕ → List Taken → Type 0
IsChain deck n [] = Unit {0}
IsChain deck n (operand ∷ chain) = Takes deck n operand × IsChain deck operand.name chain

-- where the chain leads
abbrev pub chain_end : ℕ → List Taken → ℕ
chain_end n [] = n
chain_end n (operand ∷ chain) = chain_end operand.name chain

pub record IsUsed (deck : Deck) (name n : ℕ) : Type 0 where
  pub chain : List Taken
  pub chained : IsChain deck name chain
  pub end : chain_end name chain ≡ n

abbrev pub widened : ℤ → RowRange → RowRange
widened halo window = row_range (window.y0 -ℤ halo) (window.y1 +ℤ halo)

-- each row of the first is one of the second
abbrev pub IsInside : RowRange → RowRange → Type 0
IsInside v w = (j : ℤ) → v.y0 ≤ℤ j → j <ℤ v.y1 → (w.y0 ≤ℤ j) × (j <ℤ w.y1)

-- enough for a band of an output that names this definition
pub record AreEnough (deck : Deck) (name : ℕ) (band : RowRange) (windows : ℕ → RowRange) : Type 0 where
  pub own : IsInside band (windows name)
  pub operands : (n : ℕ) (operand : Taken) → IsUsed deck name n → Takes deck n operand → IsInside (widened operand.halo (windows n)) (windows operand.name)

-- the least family that is enough
pub record AreNeeded (deck : Deck) (name : ℕ) (band : RowRange) (windows : ℕ → RowRange) : Type 0 where
  pub enough : AreEnough deck name band windows
  pub least : (others : ℕ → RowRange) → AreEnough deck name band others → (n : ℕ) → IsInside (windows n) (others n)

-- the window that a definition needs for a band of an output that names another
abbrev pub IsNeeded : Deck → ℕ → RowRange → ℕ → RowRange → Type 0
IsNeeded deck name band n window = (windows : ℕ → RowRange) × AreNeeded deck name band windows × (windows n ≡ window)
