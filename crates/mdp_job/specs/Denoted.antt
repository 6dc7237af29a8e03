-- What an accepted input denotes, and what a command changes that writes the files of its outputs.
use Rattle.std.specs.Prelude.{◌≡◌, ◌≢◌, ℕ, ◌<◌, List, [], slice_get, Some}
use Rattle.std.specs.FinMap.{get}
use Rattle.half_grid.specs.declared.plane.Tile.{Tile}
use Rattle.depot.specs.Content.{Content}
use Rattle.deck_text.specs.declared.deck.Output.{Output}
use Rattle.deck_text.specs.declared.deck.Deck.{Deck}
use Rattle.deck_plan.specs.Areas.{IsInArea}
use Rattle.deck_plan.specs.Plans.{Planned, planned}
use Rattle.job_input.specs.declared.reading.Input.{Input}

-- deck and cells, as the areas of outputs are made of them
abbrev pub plan_of : Input → Planned
plan_of input = planned input.deck input.tree

-- the area that the deck denotes of the layout for an output
abbrev pub area_of : Input → Output → Tile → Type 0
area_of input output t = IsInArea input.tree.layout.cells input.tree.top input.deck output.name t

-- the name is the file of none of the first n outputs
abbrev pub IsNoFileOf : Deck → ℕ → List ℕ → Type 0
IsNoFileOf deck n name = (k : ℕ) (output : Output) → k < n → slice_get deck.outputs k ≡ Some output → output.file ≢ name

-- but for the files of the first n outputs, the name that writes go to, what is left to be read and what was said, all is
-- as before
pub record ChangesOnly (before now : Content) (deck : Deck) (n : ℕ) : Type 0 where
  pub others : (name : List ℕ) → IsNoFileOf deck n name → get now.made name ≡ get before.made name
  pub rest : now ≡ record before { left = []; made = now.made; current = now.current; said = now.said }
