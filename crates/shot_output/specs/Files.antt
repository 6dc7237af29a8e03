-- What is written for the outputs of a deck.
--
-- Each output has a file of its own, which holds the one text of the shot list of the output's area: in half units, so
-- twice the deck's unit, with the output's layer and datatype.
use Rattle.std.specs.Prelude.{ℕ, suc, ◌≡◌, ◌≢◌, ◌⊎◌, ◌*◌, ◌<◌, ◌≤◌, Bool, IsTrue, List, length, take, slice_get, Some}
use Rattle.std.specs.FinMap.{get}
use Rattle.half_grid.specs.Trapezoids.{Trapezoid}
use Rattle.half_grid.specs.declared.plane.Tile.{Tile}
use Rattle.depot.specs.Content.{Content, with_file, IsPartMade}
use Rattle.oas_lex.specs.ShotText.{shot_text}
use Rattle.deck_text.specs.declared.deck.Output.{Output}
use Rattle.deck_text.specs.declared.deck.Deck.{Deck}
use Rattle.deck_plan.specs.Areas.{IsInOutput}
use Rattle.deck_plan.specs.Plans.{Planned, planned_area}
use Rattle.shot_writer.specs.Writing.{AreSumsAfter, no_sums}
use Rattle.shot_writer.specs.declared.parts.Sums.{Sums}
use Rattle.shot_output.specs.ShotLists.{Rules, IsShotList}

-- the deck's rows per band and limits of a shot
abbrev pub rules_of : Deck → Rules
rules_of deck = record { rows = deck.band; height = deck.limits.height; width = deck.limits.width }

-- the shot list of output k
abbrev pub IsListOf : Planned → ℕ → List Trapezoid → Type 0
IsListOf p k shots = IsShotList (rules_of p.deck) (planned_area p k) shots

-- the one text of these shots for an output
abbrev pub text_of : Deck → Output → List Trapezoid → List ℕ
text_of deck output shots = shot_text (2 * deck.unit) output.pair.layer output.pair.datatype shots

-- the whole text of output k: that of its shot list
abbrev pub IsTextOf : Planned → ℕ → Output → List ℕ → Type 0
IsTextOf p k output text = (shots : List Trapezoid) × IsListOf p k shots × (text ≡ text_of p.deck output shots)

-- ---- one output

-- Output k is written: its file holds the text of its shot list, writes go on to it, and nothing else has changed. The
-- sums are those of these shots.
pub record IsWritten (p : Planned) (k : ℕ) (tells : Bool) (before now : Content) (sums : Sums) : Type 0 where
  pub shots : List Trapezoid
  pub list : IsListOf p k shots
  pub content : (output : Output) → slice_get p.deck.outputs k ≡ Some output → IsTrue tells
      → now ≡ with_file before output.file (text_of p.deck output shots)
  pub summed : AreSumsAfter no_sums shots sums

-- The writing of output k was cut short: its file is as before, or holds a prefix of its text. Nothing else has changed but
-- the name that writes go to.
abbrev pub IsOutputCutShort : Planned → ℕ → Content → Content → Type 0
IsOutputCutShort p k before now =
    (output : Output) → slice_get p.deck.outputs k ≡ Some output → (text : List ℕ) × IsTextOf p k output text × IsPartMade before output.file text now

-- ---- all outputs

-- output k is whole: its file holds the text of its shot list, and the sums are those of these shots
pub record IsWholeOutput (p : Planned) (k : ℕ) (tells : Bool) (now : Content) (sums : Sums) : Type 0 where
  pub shots : List Trapezoid
  pub list : IsListOf p k shots
  pub holds : (output : Output) → slice_get p.deck.outputs k ≡ Some output → IsTrue tells
      → get now.made output.file ≡ Some (text_of p.deck output shots)
  pub summed : AreSumsAfter no_sums shots sums

-- the name is the file of none of the first n outputs
abbrev pub IsNoFileOf : Planned → ℕ → List ℕ → Type 0
IsNoFileOf p n name = (i : ℕ) (output : Output) → i < n → slice_get p.deck.outputs i ≡ Some output → output.file ≢ name

-- but for the files of the first n outputs and the name that writes go to nothing has changed
pub record OnlyFilesOf (p : Planned) (n : ℕ) (before now : Content) : Type 0 where
  pub others : (name : List ℕ) → IsNoFileOf p n name → get now.made name ≡ get before.made name
  pub rest : now ≡ record before { made = now.made; current = now.current }

-- the first n outputs are written, with these sums
pub record AreWritten (p : Planned) (n : ℕ) (tells : Bool) (before now : Content) (sums : List Sums) : Type 0 where
  pub each : (k : ℕ) → k < n → (of : Sums) × (slice_get sums k ≡ Some of) × IsWholeOutput p k tells now of
  pub count : length sums ≡ n
  pub rest : IsTrue tells → OnlyFilesOf p n before now

-- the file of output k is as before, or holds a prefix of its text
abbrev pub IsPartOf : Planned → ℕ → Content → Content → Type 0
IsPartOf p k before now =
    (output : Output) → slice_get p.deck.outputs k ≡ Some output → (get now.made output.file ≡ get before.made output.file)
    ⊎ ((text : List ℕ) × (n : ℕ) × IsTextOf p k output text × (n ≤ length text) × (get now.made output.file ≡ Some (take n text)))

-- The writing of the outputs was cut short at some output: those before it are whole, its file is as before or holds a
-- prefix of its text, and after it nothing has changed.
pub record AreCutShort (p : Planned) (tells : Bool) (before now : Content) : Type 0 where
  pub k : ℕ
  pub inside : k ≤ length p.deck.outputs
  pub whole : (i : ℕ) → i < k → (sums : Sums) × IsWholeOutput p i tells now sums
  pub part : IsTrue tells → k < length p.deck.outputs → IsPartOf p k before now
  pub rest : IsTrue tells → OnlyFilesOf p (suc k) before now
