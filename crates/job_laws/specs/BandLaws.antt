-- Two runs of `fracture` whose decks differ in the height of their bands alone.
use Rattle.std.specs.Prelude.{◌≡◌, ℕ, ℤ, List, slice_get, Some}
use Rattle.std.specs.FinMap.{get}
use Rattle.half_grid.specs.Trapezoids.{count_in}
use Rattle.half_grid.specs.declared.plane.Tile.{Tile}
use Rattle.depot.specs.Content.{held_as}
use Rattle.deck_text.specs.declared.deck.Deck.{Deck}
use Rattle.deck_text.specs.declared.deck.Output.{Output}
use Rattle.job_input.specs.Accepted.{HoldsDeck, HoldsInput}
use Rattle.job_input.specs.declared.reading.Input.{Input}
use Rattle.job_report.specs.declared.status.Status.TheVariants.{Done}
use Rattle.job_words.specs.Words.{IsFracture}
use Rattle.mdp_job.specs.Headline.{IsShotFile, Covers}
use Rattle.mdp_job.specs.Runs.{Run}

-- the deck with bands of so many rows
abbrev pub with_band : Deck → ℤ → Deck
with_band deck band = record deck { band = band }

-- each run made a file of the output, and both are shot files of the area that the first run's deck denotes: each tile is in
-- as many shots of the one as of the other
pub record DenoteOneArea (r s : Run) (input : Input) (output : Output) : Type 0 where
  pub bytes : List ℕ
  pub other : List ℕ
  pub made : get r.after.made output.file ≡ Some bytes
  pub made_other : get s.after.made output.file ≡ Some other
  pub file : IsShotFile input output bytes
  pub other_file : IsShotFile input output other
  pub same : (t : Tile) → count_in file.shots t ≡ count_in other_file.shots t

-- so it is for each output of the deck
pub record AreOfOneArea (r s : Run) (layout deck : List ℕ) (d : Deck) : Type 0 where
  pub input : Input
  pub holds : HoldsInput r.before layout deck input
  pub each : (k : ℕ) (output : Output) → slice_get d.outputs k ≡ Some output → DenoteOneArea r s input output

-- Both runs are those of commands `fracture` that are done. What each reads is a deck, the second one with other bands, and
-- the same bytes of a layout.
abbrev pub BandsKeepAreas : Type 0
BandsKeepAreas =
    (r s : Run) (words more : List (List ℕ)) (layout deck other_layout other_deck : List ℕ) (d : Deck) (band : ℤ)
    → IsFracture words layout deck → IsFracture more other_layout other_deck → Covers r words Done → Covers s more Done
    → HoldsDeck r.before layout deck d → HoldsDeck s.before other_layout other_deck (with_band d band)
    → held_as r.before layout ≡ held_as s.before other_layout → AreOfOneArea r s layout deck d
