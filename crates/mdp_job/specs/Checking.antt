-- The table of answers for `check LAYOUT DECK`, from the answers of the reading and of the judging of files.
use Rattle.std.specs.Prelude.{◌≡◌, ◌⊎◌, ℕ, List, length, Option, Some}
use Rattle.depot.specs.Content.{Content, ChangesLeftOnly, with_left, with_said, IsPartSaid}
use Rattle.geo_stream.specs.declared.refusal.Refusal.{Refusal}
use Rattle.geo_stream.specs.declared.refusal.Refusal.TheVariants.{Fault, NoMemory}
use Rattle.deck_text.specs.declared.deck.Output.{Output}
use Rattle.shot_writer.specs.declared.parts.Sums.{Sums}
use Rattle.job_input.specs.declared.reading.Input.{Input}
use Rattle.file_check.specs.Files.{AreExactFiles, IsFirstFileFault}
use Rattle.file_check.specs.declared.faults.CheckFault.{CheckFault as OutputFault}
use Rattle.file_check.specs.declared.faults.CheckBad.{CheckBad}
use Rattle.file_check.specs.declared.faults.CheckBad.TheVariants as bads
use Rattle.mdp_job.specs.Runs.{Run, ReadRose, WriteRose, RefusedRose}
use Rattle.mdp_job.specs.Denoted.{plan_of}
use Rattle.mdp_job.specs.Faults.{fault_of}
use Rattle.job_report.specs.declared.faults.CheckFault.{CheckFault}
use Rattle.mdp_job.specs.Certificates.{IsFileAt, exact_report}
use Rattle.mdp_job.specs.Parts.{IsAnswerBy}
use Rattle.job_report.specs.declared.status.Status.{Status}
use Rattle.job_report.specs.declared.status.Status.TheVariants as answers

-- the answer to files that aren't all exact
abbrev pub checked_status : Refusal CheckBad → Status
checked_status (Fault (bads.Refused place fault)) = answers.No place (fault_of fault)
checked_status (Fault bads.ReadFault) = answers.ReadFault
checked_status NoMemory = answers.NoMemory

-- all files are exact, with these sums
abbrev pub AreAllExact : Content → Input → List Sums → Type 0
AreAllExact c input sums = AreExactFiles (plan_of input) c (length input.deck.outputs) sums

-- all files are exact, and a prefix of the report was said
pub record IsHalfReported (before now : Content) (input : Input) : Type 0 where
  pub sums : List Sums
  pub exact : AreAllExact before input sums
  pub part : IsPartSaid (with_left before now.left) (exact_report input sums) now

-- all files are exact, and the report was said
pub record IsAllReported (before now : Content) (input : Input) : Type 0 where
  pub sums : List Sums
  pub exact : AreAllExact before input sums
  pub said : now ≡ with_said (with_left before now.left) (exact_report input sums)

-- what holds where the judging of the files of an accepted input's outputs gives the answer
abbrev pub IsChecked : Run → Input → Status → Type 0
IsChecked r input answers.Done = IsAllReported r.before r.after input
IsChecked r input answers.Words = ⊥
IsChecked r input (answers.Deck fault) = ⊥
IsChecked r input (answers.Layout fault) = ⊥
IsChecked r input answers.ReadFault = IsFirstFileFault (plan_of input) r.before (ReadRose r) bads.ReadFault × ChangesLeftOnly r.before r.after
IsChecked r input answers.WriteFault = WriteRose r × IsHalfReported r.before r.after input
IsChecked r input answers.NoMemory = ChangesLeftOnly r.before r.after ⊎ (RefusedRose r × IsHalfReported r.before r.after input)
IsChecked r input (answers.No place fault) =
    (of : OutputFault) × (fault ≡ fault_of of) × IsFirstFileFault (plan_of input) r.before (ReadRose r) (bads.Refused place of)
    × ChangesLeftOnly r.before r.after

-- what holds where the command with these names gives the answer, with the name that its line may need
abbrev pub IsCheckAnswer : Run → (layout deck : List ℕ) → Status → Option (List ℕ) → Type 0
IsCheckAnswer r layout deck result top = IsAnswerBy (IsChecked r) r layout deck result top

-- where a file is refused, the outputs that its line may need are told
abbrev pub HasOutputs : Content → (layout deck : List ℕ) → Status → Option (List Output) → Type 0
HasOutputs c layout deck result outputs =
    (place : ℕ) (fault : CheckFault) → result ≡ answers.No place fault
    → (file : List ℕ) × (at : IsFileAt c layout deck place file) × (outputs ≡ Some at.input.deck.outputs)
