-- How many rows beyond a band an output needs of each definition: the greatest sum of the halos along a chain of operands
-- that leads to it.
use Rattle.std.specs.Prelude.{◌≡◌, ◌≤◌, ◌<◌, ◌+◌, ◌*◌, ◌≤ℤ◌, ◌+ℤ◌, ℕ, ℤ, pos, List, [], ◌∷◌, Option, Some, None, slice_get, slice_set, get_or, length}
use Rattle.std.specs.Prelude.{true, false}
use Rattle.std.specs.Int.{int_max}
use Rattle.deck_text.specs.declared.deck.Deck.{Deck}
use Rattle.deck_plan.specs.declared.needs.Taken.{Taken}
use Rattle.deck_plan.specs.declared.needs.Need.{Need}
use Rattle.half_grid.specs.Windows.{RowRange, row_range}
use Rattle.deck_plan.specs.Needs.{IsChain, chain_end, Takes, widened}

abbrev pub halo_sum : List Taken → ℤ
halo_sum [] = pos 0
halo_sum (operand ∷ chain) = operand.halo +ℤ halo_sum chain

-- a chain from a definition to another, with this sum of halos
pub record HasChain (deck : Deck) (name n : ℕ) (halo : ℤ) : Type 0 where
  pub chain : List Taken
  pub chained : IsChain deck name chain
  pub end : chain_end name chain ≡ n
  pub sum : halo_sum chain ≡ halo

-- where it is one operand alone, definition n takes it
abbrev pub IsLone : Need → ℕ → Type 0
IsLone need n = need.shared ≡ false → need.last ≡ n

abbrev pub NeedIs : List (Option Need) → ℕ → Need → Type 0
NeedIs needs n need = slice_get needs n ≡ Some (Some need)

-- what is needed of definitions, from number `from` on with what these take
pub record AreHalos (deck : Deck) (name from : ℕ) (needs : List (Option Need)) : Type 0 where
  pub long : length needs ≡ 256
  pub own : (need : Need) × NeedIs needs name need × (need.halo ≡ pos 0)
  pub none : (n : ℕ) (need : Need) → NeedIs needs n need → n ≤ name
  pub operands : (n : ℕ) (need : Need) (operand : Taken) → from ≤ n → NeedIs needs n need → Takes deck n operand
      → (other : Need) × NeedIs needs operand.name other × ((need.halo +ℤ operand.halo) ≤ℤ other.halo) × (n ≤ other.last) × IsLone other n
  pub reached : (n : ℕ) (need : Need) → NeedIs needs n need → HasChain deck name n need.halo
  pub low : (n : ℕ) (need : Need) → NeedIs needs n need → pos 0 ≤ℤ need.halo
  pub high : (n : ℕ) (need : Need) → NeedIs needs n need → (need.halo +ℤ pos (65536 * n)) ≤ℤ pos (65536 * name)
  pub later : (n : ℕ) (need : Need) → NeedIs needs n need → from ≤ need.last + 1
  pub latest : (n : ℕ) (need : Need) → NeedIs needs n need → need.last ≤ name

-- ---- what a step adds

-- an operand of definition n
pub record IsSoundOperand (n : ℕ) (operand : Taken) : Type 0 where
  pub earlier : operand.name < n
  pub low : pos 0 ≤ℤ operand.halo
  pub high : operand.halo ≤ℤ pos 65536

-- the need of an operand that is asked so many rows beyond the band by the definition `user`
abbrev pub raised : Option Need → ℤ → ℕ → Need
raised None halo user = record { halo = halo; last = user; shared = false }
raised (Some need) halo user = record { halo = int_max need.halo halo; last = need.last; shared = true }

abbrev pub raised_at : List (Option Need) → ℕ → ℤ → ℕ → List (Option Need)
raised_at needs name halo user = slice_set needs name (Some (raised (get_or needs name None) halo user))

abbrev pub raised_all : List (Option Need) → ℤ → ℕ → List Taken → List (Option Need)
raised_all needs halo user [] = needs
raised_all needs halo user (operand ∷ operands) = raised_all (raised_at needs operand.name (halo +ℤ operand.halo) user) halo user operands

-- after the definition `user` has taken its operands, where it is needed itself
abbrev pub passed_by : Option Need → List (Option Need) → ℕ → List Taken → List (Option Need)
passed_by None needs user operands = needs
passed_by (Some need) needs user operands = raised_all needs need.halo user operands

abbrev pub passed : List (Option Need) → ℕ → List Taken → List (Option Need)
passed needs user operands = passed_by (get_or needs user None) needs user operands

-- ---- windows

-- the rows of a definition for a band, by what is needed of it: none where it isn't needed
abbrev pub window_for : RowRange → Option Need → RowRange
window_for band None = row_range (pos 0) (pos 0)
window_for band (Some need) = widened need.halo band
