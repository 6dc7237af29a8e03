-- The areas that a deck denotes of a layout.
--
-- Each definition of a deck has an area, a set of tiles of the whole plane, by its step:
--   layer: the tiles in the polygon of some flattened shape of the top cell on the layer and datatype;
--   or: the tiles of either area; and: of both; sub: of the first that aren't of the second; xor: of just one;
--   grow: the tiles near to some tile of the area; shrink: the tiles all of whose near tiles are in the area;
--   invert: the tiles of the frame that aren't in the area;
--   mirror: the tiles whose mirror image is in the area.
-- An operand is a definition that stands earlier, so what is said here of steps upon steps, at most as many as the deck
-- has definitions, is said of all. The area of an output is that of the definition that it names.
use Rattle.std.specs.Prelude.{◌⊎◌, ℕ, zero, suc, List, length, slice_get, Option, IsSomeAnd}
use Rattle.half_grid.specs.Nearness.{IsGrown, IsShrunk}
use Rattle.half_grid.specs.Windows.{RowRange}
use Rattle.half_grid.specs.declared.plane.Tile.{Tile}
use Rattle.half_grid.specs.declared.extent.Frame.{Frame}
use Rattle.layout_model.specs.declared.cells.Cell.{Cell}
use Rattle.cell_tree.specs.Flattening.{IsInLayer}
use Rattle.tone_mirror.specs.Frames.{IsInFrame}
use Rattle.tone_mirror.specs.Mirrors.{mirrored_tile}
use Rattle.bool_ops.specs.Operations.{IsInRows}
use Rattle.deck_text.specs.declared.deck.Step.{Step}
use Rattle.deck_text.specs.declared.deck.Step.TheVariants.{Layer, Or, And, Sub, Xor, Grow, Shrink, Invert, Mirror}
use Rattle.deck_text.specs.declared.deck.Deck.{Deck}

-- the area of a step, by the areas of the definitions before it
abbrev pub IsInStep : List Cell → ℕ → Option Frame → (ℕ → Tile → Type 0) → Step → Tile → Type 0
IsInStep cells top frame area (Layer pair) t = IsInLayer cells top pair t
IsInStep cells top frame area (Or a b) t = area a t ⊎ area b t
IsInStep cells top frame area (And a b) t = area a t × area b t
IsInStep cells top frame area (Sub a b) t = area a t × (area b t → ⊥)
IsInStep cells top frame area (Xor a b) t = (area a t × (area b t → ⊥)) ⊎ ((area a t → ⊥) × area b t)
IsInStep cells top frame area (Grow a dx dy) t = IsGrown dx dy (area a) t
IsInStep cells top frame area (Shrink a dx dy) t = IsShrunk dx dy (area a) t
IsInStep cells top frame area (Invert a) t = IsSomeAnd frame (λ frame. IsInFrame frame t) × (area a t → ⊥)
IsInStep cells top frame area (Mirror a m) t = area a (mirrored_tile m t)

-- the area of definition n, over steps upon steps, at most so many
abbrev pub area_over : List Cell → ℕ → Deck → ℕ → ℕ → Tile → Type 0
area_over cells top deck zero n t = ⊥
area_over cells top deck (suc steps) n t = IsSomeAnd (slice_get deck.steps n) (λ step. IsInStep cells top deck.frame (area_over cells top deck steps) step t)

-- the area of definition n
unfoldable pub IsInArea : List Cell → ℕ → Deck → ℕ → Tile → Type 0
IsInArea cells top deck n t = area_over cells top deck (length deck.steps) n t

-- the area of output k
abbrev pub IsInOutput : List Cell → ℕ → Deck → ℕ → Tile → Type 0
IsInOutput cells top deck k t = IsSomeAnd (slice_get deck.outputs k) (λ output. IsInArea cells top deck output.name t)

-- the part of an output's area in the rows of a band
pub record IsInBand (cells : List Cell) (top : ℕ) (deck : Deck) (k : ℕ) (band : RowRange) (t : Tile) : Type 0 where
  pub rows : IsInRows band t
  pub area : IsInOutput cells top deck k t
