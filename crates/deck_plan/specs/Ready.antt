-- The areas of the definitions of an output, in the rows that are needed of them for a band, as long as they are needed.
use Rattle.std.specs.Prelude.{◌≡◌, ◌<◌, ◌⊎◌, ◌==◌, ℕ, Bool, false, List, [], Option, Some, None, length, get_or, slice_set, if◌then◌else◌}
use Rattle.half_grid.specs.Trapezoids.{Trapezoid}
use Rattle.half_grid.specs.Windows.{RowRange}
use Rattle.layout_model.specs.declared.cells.Cell.{Cell}
use Rattle.deck_text.specs.declared.deck.Deck.{Deck}
use Rattle.deck_plan.specs.declared.needs.Need.{Need}
use Rattle.deck_plan.specs.declared.needs.Taken.{Taken}
use Rattle.deck_plan.specs.Areas.{IsInArea}
use Rattle.deck_plan.specs.Halos.{NeedIs}
use Rattle.deck_plan.specs.Lists.{HasArea, list_at}
use Rattle.deck_plan.specs.Needs.{widened}
use Rattle.deck_plan.specs.OwnLayers.{IsLeftOut}

-- a list that has what is needed of a definition, or nothing where nothing is needed
pub record IsReady (cells : List Cell) (top : ℕ) (deck : Deck) (band : RowRange) (needs : List (Option Need)) (n : ℕ) (traps : List Trapezoid) : Type 0 where
  pub needed : (need : Need) → NeedIs needs n need → HasArea (widened need.halo band) (IsInArea cells top deck n) traps
  pub others : get_or needs n None ≡ None → traps ≡ []

-- no definition from this number on takes definition n
abbrev pub IsPast : List (Option Need) → ℕ → ℕ → Type 0
IsPast needs from n = (need : Need) → NeedIs needs n need → need.last < from

-- no list of definition n is taken: not any more, or none is at all
abbrev pub IsGone : Deck → List (Option Need) → ℕ → ℕ → Type 0
IsGone deck needs from n = IsPast needs from n ⊎ IsLeftOut deck needs n

-- what stands for a definition when those before `from` are done: its list, or nothing where no list of it is taken
abbrev pub IsHeld : List Cell → ℕ → Deck → RowRange → List (Option Need) → ℕ → ℕ → List Trapezoid → Type 0
IsHeld cells top deck band needs from n traps = IsReady cells top deck band needs n traps ⊎ ((traps ≡ []) × IsGone deck needs from n)

-- what stands for the definitions so far
abbrev pub AreHeld : List Cell → ℕ → Deck → RowRange → List (Option Need) → ℕ → List (List Trapezoid) → Type 0
AreHeld cells top deck band needs from lists = (m : ℕ) → m < length lists → IsHeld cells top deck band needs from m (list_at lists m)

-- whether the definition `user` is the last that takes the one of which this is needed
abbrev pub ends_at : Option Need → ℕ → Bool
ends_at None user = false
ends_at (Some need) user = need.last == user

-- the lists without that of an operand, where the definition `user` is the last that takes it
abbrev pub let_go : List (Option Need) → ℕ → Option Taken → List (List Trapezoid) → List (List Trapezoid)
let_go needs user None lists = lists
let_go needs user (Some operand) lists = if ends_at (get_or needs operand.name None) user then slice_set lists operand.name [] else lists
