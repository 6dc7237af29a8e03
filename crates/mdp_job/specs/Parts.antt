-- The table of answers, part by part: what the reading of deck and layout tells, and what the writing of the outputs of an
-- accepted input owes.
use Rattle.std.specs.Prelude.{◌≡◌, ◌⊎◌, ℕ, Bool, List, [], length, Option, None, Some, Ok, Err, ⊤}
use Rattle.depot.specs.Content.{Content, IsNotThere, IsLongerThan, ChangesLeftOnly, with_left, with_said, IsPartSaid}
use Rattle.depot.specs.Counts.{Counts, Rose}
use Rattle.depot.specs.declared.outside.DepotBad.{DepotBad}
use Rattle.depot.specs.declared.outside.DepotBad.TheVariants as depot
use Rattle.depot.specs.declared.whole.Refused.{Refused}
use Rattle.depot.specs.declared.whole.Refused.TheVariants as reading
use Rattle.geo_stream.specs.declared.refusal.Refusal.{Refusal}
use Rattle.geo_stream.specs.declared.refusal.Refusal.TheVariants.{Fault, NoMemory}
use Rattle.gds_reader.specs.declared.refusing.GdsBad.{GdsBad}
use Rattle.oas_reader.specs.declared.refusing.OasBad.{OasBad}
use Rattle.cell_tree.specs.declared.faults.TreeBad.{TreeBad}
use Rattle.deck_text.specs.declared.refusal.DeckBad.{DeckBad}
use Rattle.shot_writer.specs.declared.parts.Sums.{Sums}
use Rattle.shot_output.specs.Files.{AreWritten, AreCutShort}
use Rattle.job_input.specs.Accepted.{HoldsInput}
use Rattle.job_input.specs.Refused.{HoldsDeckFault, IsLongLayout, HoldsGdsFault, HoldsOasFault, HoldsTreeFault, IsWanting}
use Rattle.job_input.specs.Clauses.{Answer, IsReadExactlyWhere, ComesByKind}
use Rattle.job_input.specs.declared.reading.Input.{Input}
use Rattle.job_input.specs.declared.refusing.InputBad.{InputBad}
use Rattle.job_input.specs.declared.refusing.InputBad.TheVariants as bads
use Rattle.job_input.specs.declared.refusing.DeckFault.TheVariants as deck_faults
use Rattle.job_input.specs.declared.refusing.LayoutFault.TheVariants as layout_faults
use Rattle.mdp_job.specs.Runs.{Run, ReadRose, WriteRose, RefusedRose, IsEndedSo}
use Rattle.mdp_job.specs.Denoted.{plan_of}
use Rattle.mdp_job.specs.Outputs.{report_on}
use Rattle.job_report.specs.declared.status.Status.{Status}
use Rattle.job_report.specs.declared.status.Status.TheVariants as answers
use Rattle.job_report.specs.declared.faults.CheckFault.{CheckFault}
use Rattle.job_report.specs.declared.faults.CheckFault.TheVariants as check_faults
use Rattle.mdp_job.specs.FileFaults.{for_fault, may, never}
use Rattle.job_words.specs.Words.{Command, Fracture, Check, Shots, Pack, Unpack, Split, Density, Generate}

-- the answer to a file that wasn't read
abbrev pub refused_status : Refused → Status → Status
refused_status reading.Fault long = answers.ReadFault
refused_status reading.TooLong long = long
refused_status reading.NoMemory long = answers.NoMemory

-- the answer to a refused write
abbrev pub fault_status : DepotBad → Status
fault_status depot.Failed = answers.WriteFault
fault_status depot.NoMemory = answers.NoMemory

-- the answer to a refused input, and the name that its line may need
abbrev pub status_of : Refusal InputBad → Status
status_of (Fault (bads.Deck fault)) = answers.Deck fault
status_of (Fault (bads.Layout fault top)) = answers.Layout fault
status_of (Fault bads.ReadFault) = answers.ReadFault
status_of NoMemory = answers.NoMemory

abbrev pub top_of : Refusal InputBad → Option (List ℕ)
top_of (Fault (bads.Deck fault)) = None
top_of (Fault (bads.Layout fault top)) = Some top
top_of (Fault bads.ReadFault) = None
top_of NoMemory = None

-- what holds where saying a text gives the answer
abbrev pub IsSaidSo : Content → Content → (write_rose refused_rose : Type 0) → List ℕ → Status → Type 0
IsSaidSo before now write_rose refused_rose text result =
    IsEndedSo write_rose refused_rose (now ≡ with_said before text) (IsPartSaid before text now) result

-- ---- reading

-- what the reading of deck and layout tells of its answer
pub record IsInputTold (before : Content) (read_rose refused_rose : Type 0) (layout deck : List ℕ) (a : Answer) : Type 0 where
  pub given : (input : Input) → IsReadExactlyWhere read_rose a (Ok input) (HoldsInput before layout deck input)
  pub deck_long : IsReadExactlyWhere read_rose a (Err (Fault (bads.Deck deck_faults.Long))) (IsLongerThan 65536 before deck)
  pub deck_bad : (bad : DeckBad) → IsReadExactlyWhere read_rose a (Err (Fault (bads.Deck (deck_faults.Bad bad)))) (HoldsDeckFault before layout deck bad)
  pub layout_long : (top : List ℕ)
      → IsReadExactlyWhere read_rose a (Err (Fault (bads.Layout layout_faults.Long top))) (IsLongLayout before layout deck top)
  pub layout_gds : (bad : GdsBad) (top : List ℕ)
      → IsReadExactlyWhere read_rose a (Err (Fault (bads.Layout (layout_faults.Gds bad) top))) (HoldsGdsFault before layout deck bad top)
  pub layout_oas : (bad : OasBad) (top : List ℕ)
      → IsReadExactlyWhere read_rose a (Err (Fault (bads.Layout (layout_faults.Oas bad) top))) (HoldsOasFault before layout deck bad top)
  pub layout_tree : (bad : TreeBad) (top : List ℕ) → ComesByKind read_rose a bad top (HoldsTreeFault before layout deck bad top)
  pub read_fault : a ≡ Err (Fault bads.ReadFault) → read_rose ⊎ IsWanting before layout deck
  pub missing : IsWanting before layout deck → (a ≡ Err (Fault bads.ReadFault)) ⊎ (a ≡ Err NoMemory)
  pub missing_deck : IsNotThere before deck → (a ≡ Err (Fault bads.ReadFault)) ⊎ ((a ≡ Err NoMemory) × refused_rose)

-- ---- writing

-- all outputs are written, with these sums
abbrev pub IsAllWritten : Bool → Content → Content → Input → List Sums → Type 0
IsAllWritten tells before now input sums = AreWritten (plan_of input) (length input.deck.outputs) tells before now sums

-- all outputs are written, and the report is said
pub record IsDone (tells : Bool) (before now : Content) (input : Input) : Type 0 where
  pub sums : List Sums
  pub whole : Content
  pub written : IsAllWritten tells before whole input sums
  pub said : now ≡ with_said whole (report_on input sums)

-- all outputs are written, and a prefix of the report is said
pub record IsUnsaid (tells : Bool) (before now : Content) (input : Input) : Type 0 where
  pub sums : List Sums
  pub whole : Content
  pub written : IsAllWritten tells before whole input sums
  pub said : IsPartSaid whole (report_on input sums) now

-- What holds where the writing of the outputs of an accepted input gives the answer: where it was cut short, either the
-- outputs or the report were.
abbrev pub IsMade : Bool → Content → Content → (write_rose refused_rose : Type 0) → Input → Status → Type 0
IsMade tells before now write_rose refused_rose input result =
    ((result ≡ answers.Done) × IsDone tells before now input)
    ⊎ ((result ≡ answers.WriteFault) × write_rose × (AreCutShort (plan_of input) tells before now ⊎ IsUnsaid tells before now input))
    ⊎ ((result ≡ answers.NoMemory) × ((now ≡ before) ⊎ AreCutShort (plan_of input) tells before now ⊎ (refused_rose × IsUnsaid tells before now input)))

-- ---- `fracture` and `check`

-- what follows of the answer of the reading, where `made` says what holds where what is done with an accepted input gives
-- the answer
abbrev pub IsOutcomeBy : (Input → Status → Type 0) → Run → Answer → Status → Option (List ℕ) → Type 0
IsOutcomeBy made r (Ok input) result top = made input result × (top ≡ None)
IsOutcomeBy made r (Err bad) result top = (result ≡ status_of bad) × (top ≡ top_of bad) × ChangesLeftOnly r.before r.after

-- what holds where a command with these names gives the answer, with the name that its line may need
pub record IsAnswerBy (made : Input → Status → Type 0) (r : Run) (layout deck : List ℕ) (result : Status) (top : Option (List ℕ)) : Type 0 where
  pub a : Answer
  pub told : IsInputTold r.before (ReadRose r) (RefusedRose r) layout deck a
  pub outcome : IsOutcomeBy made r a result top

-- what holds where `fracture` with an accepted input gives the answer
abbrev pub IsFractured : Bool → Run → Input → Status → Type 0
IsFractured tells r input result = IsMade tells (with_left r.before []) r.after (WriteRose r) (RefusedRose r) input result

abbrev pub IsAnswer : Bool → Run → (layout deck : List ℕ) → Status → Option (List ℕ) → Type 0
IsAnswer tells r layout deck result top = IsAnswerBy (IsFractured tells r) r layout deck result top

-- ---- what holds over every depot

-- the answer may come of writing and saying alone: no input is refused
abbrev pub IsOfWriting : Status → Type 0
IsOfWriting answers.Done = ⊤
IsOfWriting answers.Words = ⊥
IsOfWriting (answers.Deck fault) = ⊥
IsOfWriting (answers.Layout fault) = ⊥
IsOfWriting answers.ReadFault = ⊥
IsOfWriting answers.WriteFault = ⊤
IsOfWriting answers.NoMemory = ⊤
IsOfWriting (answers.No place fault) = ⊥

-- the answer may come of a deck and a layout that are read, where this says which files may be refused
abbrev pub IsOfInput : (ℕ → CheckFault → Type 0) → Status → Type 0
IsOfInput of_file answers.Done = ⊤
IsOfInput of_file answers.Words = ⊥
IsOfInput of_file (answers.Deck fault) = ⊤
IsOfInput of_file (answers.Layout fault) = ⊤
IsOfInput of_file answers.ReadFault = ⊤
IsOfInput of_file answers.WriteFault = ⊤
IsOfInput of_file answers.NoMemory = ⊤
IsOfInput of_file (answers.No place fault) = of_file place fault

-- the answer may come of a shot file that is read, where this says which faults it may have
abbrev pub IsOfFile : (CheckFault → Type 0) → Status → Type 0
IsOfFile of_fault answers.Done = ⊤
IsOfFile of_fault answers.Words = ⊥
IsOfFile of_fault (answers.Deck fault) = ⊥
IsOfFile of_fault (answers.Layout fault) = ⊥
IsOfFile of_fault answers.ReadFault = ⊤
IsOfFile of_fault answers.WriteFault = ⊤
IsOfFile of_fault answers.NoMemory = ⊤
IsOfFile of_fault (answers.No place fault) = (place ≡ 0) × of_fault fault

-- no file is refused by `fracture` and `density`
abbrev pub refuses_none : ℕ → CheckFault → Type 0
refuses_none place fault = ⊥

-- those of `check`
abbrev pub refuses_output : ℕ → CheckFault → Type 0
refuses_output place check_faults.Long = ⊤
refuses_output place (check_faults.Bad bad) = ⊤
refuses_output place check_faults.Head = ⊤
refuses_output place (check_faults.Miscovered t count wanted) = ⊤
refuses_output place (check_faults.TooLarge shot) = ⊤
refuses_output place (check_faults.Pack bad) = ⊥
refuses_output place (check_faults.Wide k) = ⊥
refuses_output place (check_faults.Stripes value) = ⊥

-- those of `shots` and of `pack`
abbrev pub refuses_shots : CheckFault → Type 0
refuses_shots fault = for_fault ⊤ may never never never fault

-- those of `unpack`
abbrev pub refuses_packed : CheckFault → Type 0
refuses_packed fault = for_fault ⊤ never may never never fault

-- those of `split`
abbrev pub refuses_fields : CheckFault → Type 0
refuses_fields fault = for_fault ⊤ may never may may fault

-- the answer may come for the command
abbrev pub IsOf : Command → Status → Type 0
IsOf (Fracture layout deck) result = IsOfInput refuses_none result
IsOf (Check layout deck) result = IsOfInput refuses_output result
IsOf (Shots file) result = IsOfFile refuses_shots result
IsOf (Pack file out) result = IsOfFile refuses_shots result
IsOf (Unpack file out) result = IsOfFile refuses_packed result
IsOf (Split size file out) result = IsOfFile refuses_fields result
IsOf (Density size layout deck) result = IsOfInput refuses_none result
IsOf (Generate n file) result = IsOfWriting result

-- What was counted where the command gives the answer, up to the line of a refusal. Nothing, but for a fault of reading
-- and of writing; and nothing or a want of memory for want of memory.
abbrev pub CountsFor : Counts → Counts → Status → Type 0
CountsFor old new answers.Done = new ≡ old
CountsFor old new answers.Words = new ≡ old
CountsFor old new (answers.Deck fault) = new ≡ old
CountsFor old new (answers.Layout fault) = new ≡ old
CountsFor old new answers.ReadFault = ⊤
CountsFor old new answers.WriteFault = new.read_faults ≡ old.read_faults
CountsFor old new answers.NoMemory = Rose old.refused new.refused ⊎ (new ≡ old)
CountsFor old new (answers.No place fault) = new ≡ old
