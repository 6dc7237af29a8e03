-- The headline, on the program's call `run`: what `fracture` and `check` promise.
use Rattle.std.specs.Prelude.{◌≡◌, ◌≢◌, ◌↔◌, ℕ, ◌*◌, ◌≤◌, List, length, slice_get, Some}
use Rattle.std.specs.List.{All}
use Rattle.std.specs.FinMap.{get}
use Rattle.half_grid.specs.Trapezoids.{Trapezoid, IsShot, FitsLimits, CoversExactly}
use Rattle.depot.specs.Content.{Content, held_as}
use Rattle.oas_lex.specs.ShotText.{shot_text}
use Rattle.deck_text.specs.declared.deck.Output.{Output}
use Rattle.job_input.specs.Accepted.{HoldsInput}
use Rattle.job_input.specs.declared.reading.Input.{Input}
use Rattle.job_words.specs.Words.{IsFracture, IsCheck}
use Rattle.mdp_job.specs.Runs.{Run, ReadRose, WriteRose}
use Rattle.mdp_job.specs.Denoted.{area_of, ChangesOnly}
use Rattle.job_report.specs.declared.status.Status.{Status}
use Rattle.job_report.specs.declared.status.Status.TheVariants as answers

-- The bytes are the one text of a list of legal shots within the deck's limits. Each tile, of all there are, is in exactly
-- one of them where it is in the area that the deck denotes of the layout, and in none otherwise.
pub record IsShotFile (input : Input) (output : Output) (bytes : List ℕ) : Type 0 where
  pub shots : List Trapezoid
  pub text : bytes ≡ shot_text (2 * input.deck.unit) output.pair.layer output.pair.datatype shots
  pub legal : All IsShot shots
  pub within : All (FitsLimits input.deck.limits.height input.deck.limits.width) shots
  pub cover : CoversExactly shots (area_of input output)

-- each output has such a file in what was made, and all other names are as before
pub record AreCovered (before now : Content) (input : Input) : Type 0 where
  pub each : (k : ℕ) (output : Output) → slice_get input.deck.outputs k ≡ Some output
      → (bytes : List ℕ) × (get now.made output.file ≡ Some bytes) × IsShotFile input output bytes
  pub others : ChangesOnly before now input.deck (length input.deck.outputs)

-- each output has such a file, of at most 268,435,456 bytes, in what can be read, whoever made it
abbrev pub AreExact : Content → Input → Type 0
AreExact c input = (k : ℕ) (output : Output) → slice_get input.deck.outputs k ≡ Some output
    → (bytes : List ℕ) × (held_as c output.file ≡ Some bytes) × (length bytes ≤ 268435456) × IsShotFile input output bytes

-- after `fracture` is done, deck and layout are accepted, and the outputs' files cover what the deck denotes
abbrev pub Covers : Run → List (List ℕ) → Status → Type 0
Covers r words result = (layout deck : List ℕ) → IsFracture words layout deck → result ≡ answers.Done
    → (input : Input) × HoldsInput r.before layout deck input × AreCovered r.before r.after input

-- after `check` is done, deck and layout are accepted, and the outputs' files are exact
abbrev pub Certifies : Run → List (List ℕ) → Status → Type 0
Certifies r words result = (layout deck : List ℕ) → IsCheck words layout deck → result ≡ answers.Done
    → (input : Input) × HoldsInput r.before layout deck input × AreExact r.before input

-- without a counted fault or want of memory, `fracture` is done exactly where deck and layout are accepted
abbrev pub Accepts : Run → List (List ℕ) → Status → Type 0
Accepts r words result = (layout deck : List ℕ) → IsFracture words layout deck
    → (ReadRose r → ⊥) → (WriteRose r → ⊥) → result ≢ answers.NoMemory
    → (result ≡ answers.Done) ↔ ((input : Input) × HoldsInput r.before layout deck input)
