-- What holds of the shot list of each output, for every height of bands.
use Rattle.std.specs.Prelude.{ℤ, pos, ◌<ℤ◌, ◌≡◌, ◌↔◌, ℕ, List, Some, slice_get}
use Rattle.std.specs.List.{All}
use Rattle.half_grid.specs.Trapezoids.{Trapezoid, IsShot, FitsLimits, CoversExactly, count_in}
use Rattle.half_grid.specs.declared.plane.Tile.{Tile}
use Rattle.fracture.specs.Limits.{AreLimits}
use Rattle.fracture.specs.Economy.{HasNoNeedlessCut}
use Rattle.layout_model.specs.declared.cells.Cell.{Cell}
use Rattle.layout_model.specs.declared.pair.Pair.{Pair}
use Rattle.cell_tree.specs.Flattening.{IsInLayer}
use Rattle.deck_text.specs.declared.deck.Step.TheVariants.{Layer}
use Rattle.deck_text.specs.declared.deck.Output.{Output}
use Rattle.deck_text.specs.declared.deck.Deck.{Deck}
use Rattle.deck_plan.specs.Plans.{Planned, planned_area}
use Rattle.shot_writer.specs.Writing.{triangles_of}
use Rattle.shot_output.specs.Files.{IsListOf, text_of}
use Rattle.half_grid.specs.Sizes.{IsNumberIn}

-- bands have rows, and the limits are those of shots
pub record HasRules (deck : Deck) : Type 0 where
  pub some_rows : pos 0 <ℤ deck.band
  pub limits : AreLimits deck.limits.height deck.limits.width

-- Each shot is legal and within reach,
abbrev pub ShotsAreLegal : Type 0
ShotsAreLegal = (p : Planned) (k : ℕ) (shots : List Trapezoid) → HasRules p.deck → IsListOf p k shots → All IsShot shots

-- and within the limits.
abbrev pub ShotsFit : Type 0
ShotsFit = (p : Planned) (k : ℕ) (shots : List Trapezoid) → HasRules p.deck → IsListOf p k shots
    → All (FitsLimits p.deck.limits.height p.deck.limits.width) shots

-- Each tile whatsoever is in exactly one of the shots where it is in the output's area, and in none otherwise.
abbrev pub ShotsCover : Type 0
ShotsCover = (p : Planned) (k : ℕ) (shots : List Trapezoid) → HasRules p.deck → IsListOf p k shots → CoversExactly shots (planned_area p k)

-- No cut is needless.
abbrev pub ShotsAreFew : Type 0
ShotsAreFew = (p : Planned) (k : ℕ) (shots : List Trapezoid) → HasRules p.deck → IsListOf p k shots
    → HasNoNeedlessCut p.deck.band p.deck.limits.height p.deck.limits.width (planned_area p k) shots

-- Their triangles are the tiles of the area.
abbrev pub TrianglesAreTiles : Type 0
TrianglesAreTiles = (p : Planned) (k : ℕ) (shots : List Trapezoid) → HasRules p.deck → IsListOf p k shots
    → IsNumberIn (planned_area p k) (triangles_of shots)

-- Where the areas of two outputs agree, and with them the bands and the limits, the shot list is one and the same.
abbrev pub OneShotList : Type 0
OneShotList = (p q : Planned) (k m : ℕ) (xs ys : List Trapezoid) → HasRules p.deck → p.deck.band ≡ q.deck.band → p.deck.limits ≡ q.deck.limits
    → ((t : Tile) → planned_area p k t ↔ planned_area q m t) → IsListOf p k xs → IsListOf q m ys → xs ≡ ys

-- two trees of cells have the same areas on the layers of the deck
abbrev pub HaveSameLayers : Deck → List Cell → ℕ → List Cell → ℕ → Type 0
HaveSameLayers deck cells top others other_top =
    (n : ℕ) (pair : Pair) (t : Tile) → slice_get deck.steps n ≡ Some (Layer pair) → IsInLayer cells top pair t ↔ IsInLayer others other_top pair t

-- With one deck, layouts whose layers have the same areas give the same files, byte for byte.
abbrev pub SameLayersSameFiles : Type 0
SameLayersSameFiles = (deck : Deck) (cells : List Cell) (top : ℕ) (others : List Cell) (other_top k : ℕ) (output : Output) (xs ys : List Trapezoid)
    → HasRules deck → HaveSameLayers deck cells top others other_top
    → IsListOf (record { deck = deck; cells = cells; top = top }) k xs
    → IsListOf (record { deck = deck; cells = others; top = other_top }) k ys → text_of deck output xs ≡ text_of deck output ys

-- the same plan, but for the rows of a band
abbrev pub with_rows : Planned → ℤ → Planned
with_rows p rows = record p { deck = record p.deck { band = rows } }

-- Decks that differ in their rows per band alone cover the same triangles.
abbrev pub BandsCoverTheSame : Type 0
BandsCoverTheSame = (p : Planned) (rows : ℤ) (k : ℕ) (xs ys : List Trapezoid) → HasRules p.deck → HasRules (with_rows p rows).deck
    → IsListOf p k xs → IsListOf (with_rows p rows) k ys → (t : Tile) → count_in xs t ≡ count_in ys t
