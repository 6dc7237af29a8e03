-- What the program owes for `density SIZE LAYOUT DECK`: the windows of each output with their counts, which are said and no
-- file is made.
use Rattle.std.specs.Prelude.{◌≡◌, ◌⊎◌, ℕ, ℤ, List, [], length, slice_get, Option, Some}
use Rattle.depot.specs.Content.{Content, with_left, with_said, IsPartSaid}
use Rattle.density_report.specs.Tables.{Table, HasTrueNumbers}
use Rattle.density_report.specs.Texts.{tables_text}
use Rattle.density_report.specs.Saying.{AreTables}
use Rattle.job_input.specs.declared.reading.Input.{Input}
use Rattle.mdp_job.specs.Runs.{Run, WriteRose}
use Rattle.mdp_job.specs.Denoted.{plan_of}
use Rattle.mdp_job.specs.Parts.{IsAnswerBy}
use Rattle.job_report.specs.declared.status.Status.{Status}
use Rattle.job_report.specs.declared.status.Status.TheVariants as answers
use Rattle.deck_plan.specs.Plans.{planned_area}

-- The text is that of the table of each output's area, in the order of the deck. Each number in a table is that of the
-- area's triangles in its window, they add up to the number of the area's triangles, and no window has more than the one
-- that is named for having the most.
pub record IsDensityText (size : ℤ) (input : Input) (text : List ℕ) : Type 0 where
  pub tables : List Table
  pub are : AreTables (plan_of input) size (length input.deck.outputs) tables
  pub numbers : (k : ℕ) (table : Table) → slice_get tables k ≡ Some table → HasTrueNumbers (planned_area (plan_of input) k) size table
  pub is : text ≡ tables_text size input.deck.outputs tables

-- the tables were said, and nothing else has changed
abbrev pub AreTablesSaid : Content → Content → ℤ → Input → Type 0
AreTablesSaid before now size input = (text : List ℕ) × IsDensityText size input text × (now ≡ with_said before text)

-- nothing has changed, or a prefix of such a text was said
abbrev pub AreTablesCutShort : Content → Content → ℤ → Input → Type 0
AreTablesCutShort before now size input = (now ≡ before) ⊎ ((text : List ℕ) × IsDensityText size input text × IsPartSaid before text now)

-- what holds where the counting of an accepted input's windows gives the answer
abbrev pub AreCounted : Content → Content → (write_rose : Type 0) → ℤ → Input → Status → Type 0
AreCounted before now write_rose size input answers.Done = AreTablesSaid before now size input
AreCounted before now write_rose size input answers.Words = ⊥
AreCounted before now write_rose size input (answers.Deck fault) = ⊥
AreCounted before now write_rose size input (answers.Layout fault) = ⊥
AreCounted before now write_rose size input answers.ReadFault = ⊥
AreCounted before now write_rose size input answers.WriteFault = write_rose × AreTablesCutShort before now size input
AreCounted before now write_rose size input answers.NoMemory = AreTablesCutShort before now size input
AreCounted before now write_rose size input (answers.No place fault) = ⊥

-- the same, from the content before deck and layout were read
abbrev pub IsCounted : Run → ℤ → Input → Status → Type 0
IsCounted r size input result = AreCounted (with_left r.before []) r.after (WriteRose r) size input result

-- what holds where the command with these names gives the answer, with the name that its line may need
abbrev pub IsDensityAnswer : Run → ℤ → (layout deck : List ℕ) → Status → Option (List ℕ) → Type 0
IsDensityAnswer r size layout deck result top = IsAnswerBy (IsCounted r size) r layout deck result top
