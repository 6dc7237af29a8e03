-- What every deck that is read meets: its numbers are in range, each operand is defined before, `invert` has a frame, and
-- the files of its outputs are free.
use Rattle.std.specs.Prelude.{◌≡◌, ◌≢◌, ℕ, ◌<◌, ◌≤◌, ℤ, pos, neg_ℤ, ◌+ℤ◌, ◌≤ℤ◌, ◌<ℤ◌, true, List, [], ◌∷◌, length, map}
use Rattle.std.specs.Prelude.{slice_get, All, Option, Some, IsSome, IfSome}
use Rattle.half_grid.specs.Halves.{is_even}
use Rattle.half_grid.specs.declared.shot.Limits.{Limits}
use Rattle.half_grid.specs.declared.extent.Frame.{Frame}
use Rattle.layout_model.specs.declared.pair.Pair.{Pair}
use Rattle.deck_text.specs.Decks.{IsDeck}
use Rattle.deck_text.specs.declared.deck.Step.{Step}
use Rattle.deck_text.specs.declared.deck.Step.TheVariants as steps
use Rattle.deck_text.specs.declared.deck.Output.{Output}
use Rattle.deck_text.specs.declared.deck.Deck.{Deck}

-- within 2^30 of 0
pub record IsDeckCoordinate (x : ℤ) : Type 0 where
  pub low : neg_ℤ (pos 1073741824) ≤ℤ x
  pub high : x ≤ℤ pos 1073741824

-- of 32 bits each
pub record IsNarrow (p : Pair) : Type 0 where
  pub layer : p.layer ≤ 4294967295
  pub datatype : p.datatype ≤ 4294967295

-- half sides of a rectangle, whose sum is even
pub record AreSides (dx dy : ℤ) : Type 0 where
  pub dx_low : pos 0 ≤ℤ dx
  pub dx_high : dx ≤ℤ pos 65536
  pub dy_low : pos 0 ≤ℤ dy
  pub dy_high : dy ≤ℤ pos 65536
  pub even : is_even (dx +ℤ dy) ≡ true

pub record IsFrame (f : Frame) : Type 0 where
  pub x0 : IsDeckCoordinate f.x0
  pub y0 : IsDeckCoordinate f.y0
  pub x1 : IsDeckCoordinate f.x1
  pub y1 : IsDeckCoordinate f.y1
  pub columns : f.x0 <ℤ f.x1
  pub rows : f.y0 <ℤ f.y1

pub record AreLimits (l : Limits) : Type 0 where
  pub height_low : pos 1 ≤ℤ l.height
  pub height_high : l.height ≤ℤ pos 16777216
  pub width_low : (l.height +ℤ l.height) ≤ℤ l.width
  pub width_high : l.width ≤ℤ pos 33554432

-- a step after k others
abbrev pub IsSoundStep : Option Frame → ℕ → Step → Type 0
IsSoundStep frame k (steps.Layer p) = IsNarrow p
IsSoundStep frame k (steps.Or a b) = (a < k) × (b < k)
IsSoundStep frame k (steps.And a b) = (a < k) × (b < k)
IsSoundStep frame k (steps.Sub a b) = (a < k) × (b < k)
IsSoundStep frame k (steps.Xor a b) = (a < k) × (b < k)
IsSoundStep frame k (steps.Grow a dx dy) = (a < k) × AreSides dx dy
IsSoundStep frame k (steps.Shrink a dx dy) = (a < k) × AreSides dx dy
IsSoundStep frame k (steps.Invert a) = (a < k) × IsSome frame
IsSoundStep frame k (steps.Mirror a m) = (a < k) × IsDeckCoordinate m

-- an output after so many steps
pub record IsSoundOutput (layout deck : List ℕ) (count : ℕ) (o : Output) : Type 0 where
  pub defined : o.name < count
  pub narrow : IsNarrow o.pair
  pub not_layout : o.file ≢ layout
  pub not_deck : o.file ≢ deck

-- no file stands twice
abbrev pub AreDistinct : List (List ℕ) → Type 0
AreDistinct [] = Unit {0}
AreDistinct (file ∷ files) = All (λ other. file ≢ other) files × AreDistinct files

pub record IsSound (layout deck : List ℕ) (d : Deck) : Type 0 where
  pub unit_low : 1 ≤ d.unit
  pub unit_high : d.unit ≤ 1000000
  pub band_low : pos 1024 ≤ℤ d.band
  pub band_high : d.band ≤ℤ pos 16777216
  pub limits : AreLimits d.limits
  pub frame : IfSome d.frame IsFrame
  pub steps : (k : ℕ) (step : Step) → slice_get d.steps k ≡ Some step → IsSoundStep d.frame k step
  pub outputs : All (IsSoundOutput layout deck (length d.steps)) d.outputs
  pub some_output : 1 ≤ length d.outputs
  pub few_steps : length d.steps ≤ 256
  pub few_outputs : length d.outputs ≤ 64
  pub files : AreDistinct (map (λ o. o.file) d.outputs)

abbrev pub AreSound : Type 0
AreSound = (bytes layout deck : List ℕ) (d : Deck) → IsDeck bytes layout deck d → IsSound layout deck d
