-- The rows of the table of answers, from the answer to the words.
use Rattle.std.proofs.Common.{◌≡◌, ◌≢◌, ◌⊎◌, ◌↔◌, inl, inr, ℕ, pos, Bool, List, Option, None, refl, sym, ap, subst, ◌∙◌}
use Rattle.depot.specs.Content.{Content, IsNotThere}
use Rattle.depot.specs.Counts.{Counts, NeverFall}
use Rattle.depot.proofs.ForCallers.{Rose-earlier}
use Rattle.deck_text.specs.declared.deck.Output.{Output}
use Rattle.job_input.specs.Accepted.{HoldsInput}
use Rattle.job_input.specs.declared.reading.Input.{Input}
use Rattle.file_check.specs.declared.faults.CheckFault.{CheckFault as OutputFault}
use Rattle.job_words.specs.Words.{Command, Fracture, Check, Shots, Pack, Unpack, Split, Density, Generate, AreWordsOf, IsNoCommand, IsFracture, IsCheck}
use Rattle.job_words.specs.Lines.{file_word}
use Rattle.job_words.proofs.ForCallers.{one_command}
use Rattle.mdp_job.specs.Runs.{Run, run_of, ReadRose, WriteRose, RefusedRose}
use Rattle.mdp_job.specs.Parts.{IsFractured, IsOf}
use Rattle.mdp_job.specs.Checking.{IsChecked, HasOutputs}
use Rattle.mdp_job.specs.FileAnswers.{FileCommand, IsFileAnswer}
use Rattle.mdp_job.specs.Densities.{IsCounted}
use Rattle.mdp_job.specs.Table.{listing_command, packing_command, unpacking_command, splitting_command, IsAnswerOf, IsAnswerTo, NamesFile}
use Rattle.job_report.specs.Endings.{name_of, file_of, file_at, file_or}
use Rattle.mdp_job.specs.Certificates.{IsFileAt}
use Rattle.mdp_job.specs.Clauses.{IsInputOf, IsAccepted, IsUnreadableBy, IsUnreadable, IsUnreadableAtOnceBy, ReadFaults, WriteFaults, DeckLong}
use Rattle.mdp_job.specs.Clauses.{DeckBroken, LayoutLong, GdsBroken, OasBroken, TreeBroken, FileRefused, ReadsFile, ShotsLong, ShotsBad}
use Rattle.mdp_job.specs.Clauses.{PackedBad, SplitWide, SplitStripes, Acceptance, Refusals, IsTopOf, IsRefusedFileName, Belongs}
use Rattle.job_report.specs.declared.faults.CheckFault.TheVariants as faults
use Rattle.job_report.specs.declared.status.Status.{Status}
use Rattle.job_report.specs.declared.status.Status.TheVariants as answers
use Rattle.mdp_job.proofs.Made.{fracture_later}
use Rattle.mdp_job.proofs.CheckRows as checks
use Rattle.mdp_job.proofs.FileRows as files
use Rattle.mdp_job.proofs.OneThing.{listing_one, packing_one, unpacking_one}
use Rattle.mdp_job.proofs.FieldLooks.{splitting_one}
use Rattle.mdp_job.proofs.DensityRows as densities
use Rattle.mdp_job.proofs.Rows as rows

-- ---- the counts at the end

file_later : (command : FileCommand) (b m : Content) (o p q : Counts) (file : List ℕ) (s : Status) → NeverFall p q
    → IsFileAnswer command (run_of b m o p) file s → IsFileAnswer command (run_of b m o q) file s
file_later command b m o p q file s later (inl (d, h, made)) = inl (
  d,
  h,
  files.ended_later _ _ _ _ _ _ s
      (λ rose. Rose-earlier o.write_faults p.write_faults q.write_faults rose later.write_faults)
      (λ rose. Rose-earlier o.refused p.refused q.refused rose later.refused) made,
)
file_later command b m o p q file s later (inr (inl x)) = inr (inl x)
file_later command b m o p q file s later (inr (inr (inl (is, inl rose, rest)))) =
    inr (inr (inl (is, inl (Rose-earlier o.read_faults p.read_faults q.read_faults rose later.read_faults), rest)))
file_later command b m o p q file s later (inr (inr (inl (is, inr missing, rest)))) = inr (inr (inl (is, inr missing, rest)))
file_later command b m o p q file s later (inr (inr (inr (is, why, rest)))) =
    inr (inr (inr (is, λ none. Rose-earlier o.refused p.refused q.refused (why none) later.refused, rest)))

answer_later : (tells : Bool) (b m : Content) (o p q : Counts) (command : Command) (s : Status) (top : Option (List ℕ))
    → NeverFall p q → IsAnswerOf tells (run_of b m o p) command s top → IsAnswerOf tells (run_of b m o q) command s top
answer_later tells b m o p q (Fracture layout deck) s top later a = fracture_later tells b m o p q layout deck s top later a
answer_later tells b m o p q (Check layout deck) s top later a = checks.check_later b m o p q layout deck s top later a
answer_later tells b m o p q (Shots file) s top later a = file_later listing_command b m o p q file s later a
answer_later tells b m o p q (Pack file out) s top later a = file_later (packing_command out) b m o p q file s later a
answer_later tells b m o p q (Unpack file out) s top later a = file_later (unpacking_command out) b m o p q file s later a
answer_later tells b m o p q (Split size file out) s top later a = file_later (splitting_command (pos size) out) b m o p q file s later a
answer_later tells b m o p q (Density size layout deck) s top later a = densities.density_later b m o p q (pos size) layout deck s top later a
answer_later tells b m o p q (Generate n file) s top later a =
    files.ended_later _ _ _ _ _ _ s
    (λ rose. Rose-earlier o.write_faults p.write_faults q.write_faults rose later.write_faults)
    (λ rose. Rose-earlier o.refused p.refused q.refused rose later.refused) a

-- the table holds of the counts at the end too
pub table_later : (tells : Bool) (b m : Content) (o p q : Counts) (words : List (List ℕ)) (s : Status)
    (top : Option (List ℕ)) → NeverFall p q → IsAnswerTo tells (run_of b m o p) words s top → IsAnswerTo tells (run_of b m o q) words s top
table_later tells b m o p q words s top later (inl (command, is, a)) = inl (command, is, answer_later tells b m o p q command s top later a)
table_later tells b m o p q words s top later (inr none) = inr none

-- ---- the rows

words_are : (s t : Status) → s ≡ answers.Words → s ≡ t → answers.Words ≡ t
words_are s t e f = sym e ∙ f

words_done : answers.Words ≡ answers.Done → ⊥
words_done e = cc

words_read : answers.Words ≡ answers.ReadFault → ⊥
words_read e = cc

words_write : answers.Words ≡ answers.WriteFault → ⊥
words_write e = cc

module _ (tells : Bool) (r : Run) (words : List (List ℕ)) (s : Status) (top : Option (List ℕ)) where
  -- the answer of the command that the words are
  pub answer_for : IsAnswerTo tells r words s top → (command : Command) → AreWordsOf words command → IsAnswerOf tells r command s top
  answer_for (inl (d, is, answer)) command w = subst (λ (x : Command). IsAnswerOf tells r x s top) (one_command words d command is w) answer
  answer_for (inr (none, e, rest)) command w = absurd (none command w)

  -- ---- refused decks and layouts

  pub deck_long : IsAnswerTo tells r words s top → DeckLong r words s
  deck_long t layout deck (inl is) =
      rows.deck_long (IsFractured tells r) r layout deck s top (rows.fractured_keeps tells r) (answer_for t (Fracture layout deck) is)
  deck_long t layout deck (inr (inl is)) = rows.deck_long (IsChecked r) r layout deck s top (checks.checked_keeps r) (answer_for t (Check layout deck) is)
  deck_long t layout deck (inr (inr (size, is))) =
      rows.deck_long (IsCounted r (pos size)) r layout deck s top (densities.counted_keeps r (pos size)) (answer_for t (Density size layout deck) is)

  pub deck_bad : IsAnswerTo tells r words s top → DeckBroken r words s
  deck_bad t layout deck (inl is) =
      rows.deck_bad (IsFractured tells r) r layout deck s top (rows.fractured_keeps tells r) (answer_for t (Fracture layout deck) is)
  deck_bad t layout deck (inr (inl is)) = rows.deck_bad (IsChecked r) r layout deck s top (checks.checked_keeps r) (answer_for t (Check layout deck) is)
  deck_bad t layout deck (inr (inr (size, is))) =
      rows.deck_bad (IsCounted r (pos size)) r layout deck s top (densities.counted_keeps r (pos size)) (answer_for t (Density size layout deck) is)

  pub layout_long : IsAnswerTo tells r words s top → LayoutLong r words s
  layout_long t layout deck (inl is) =
      rows.layout_long (IsFractured tells r) r layout deck s top (rows.fractured_keeps tells r) (answer_for t (Fracture layout deck) is)
  layout_long t layout deck (inr (inl is)) = rows.layout_long (IsChecked r) r layout deck s top (checks.checked_keeps r) (answer_for t (Check layout deck) is)
  layout_long t layout deck (inr (inr (size, is))) =
      rows.layout_long (IsCounted r (pos size)) r layout deck s top (densities.counted_keeps r (pos size)) (answer_for t (Density size layout deck) is)

  pub layout_gds : IsAnswerTo tells r words s top → GdsBroken r words s
  layout_gds t layout deck (inl is) =
      rows.layout_gds (IsFractured tells r) r layout deck s top (rows.fractured_keeps tells r) (answer_for t (Fracture layout deck) is)
  layout_gds t layout deck (inr (inl is)) = rows.layout_gds (IsChecked r) r layout deck s top (checks.checked_keeps r) (answer_for t (Check layout deck) is)
  layout_gds t layout deck (inr (inr (size, is))) =
      rows.layout_gds (IsCounted r (pos size)) r layout deck s top (densities.counted_keeps r (pos size)) (answer_for t (Density size layout deck) is)

  pub layout_oas : IsAnswerTo tells r words s top → OasBroken r words s
  layout_oas t layout deck (inl is) =
      rows.layout_oas (IsFractured tells r) r layout deck s top (rows.fractured_keeps tells r) (answer_for t (Fracture layout deck) is)
  layout_oas t layout deck (inr (inl is)) = rows.layout_oas (IsChecked r) r layout deck s top (checks.checked_keeps r) (answer_for t (Check layout deck) is)
  layout_oas t layout deck (inr (inr (size, is))) =
      rows.layout_oas (IsCounted r (pos size)) r layout deck s top (densities.counted_keeps r (pos size)) (answer_for t (Density size layout deck) is)

  pub layout_tree : IsAnswerTo tells r words s top → TreeBroken r words s
  layout_tree t layout deck (inl is) =
      rows.layout_tree (IsFractured tells r) r layout deck s top (rows.fractured_keeps tells r) (answer_for t (Fracture layout deck) is)
  layout_tree t layout deck (inr (inl is)) = rows.layout_tree (IsChecked r) r layout deck s top (checks.checked_keeps r) (answer_for t (Check layout deck) is)
  layout_tree t layout deck (inr (inr (size, is))) =
      rows.layout_tree (IsCounted r (pos size)) r layout deck s top (densities.counted_keeps r (pos size)) (answer_for t (Density size layout deck) is)

  -- ---- refused shot files

  pub file_refused : IsAnswerTo tells r words s top → (place : ℕ) (fault : OutputFault) → FileRefused r words s place fault
  file_refused t place fault layout deck is = checks.file_refused r layout deck s top (answer_for t (Check layout deck) is) place fault

  pub shots_long : IsAnswerTo tells r words s top → ShotsLong r words s
  shots_long t file (inl (inl is)) = files.fault_row listing_command listing_one r file s (answer_for t (Shots file) is) faults.Long
  shots_long t file (inl (inr (inl (out, is)))) = files.fault_row (packing_command out) (packing_one out) r file s (answer_for t (Pack file out) is) faults.Long
  shots_long t file (inl (inr (inr (size, out, is)))) =
      files.fault_row (splitting_command (pos size) out) (splitting_one (pos size) out) r file s (answer_for t (Split size file out) is) faults.Long
  shots_long t file (inr (out, is)) = files.fault_row (unpacking_command out) (unpacking_one out) r file s (answer_for t (Unpack file out) is) faults.Long

  pub shots_bad : IsAnswerTo tells r words s top → ShotsBad r words s
  shots_bad t file (inl is) bad = files.fault_row listing_command listing_one r file s (answer_for t (Shots file) is) (faults.Bad bad)
  shots_bad t file (inr (inl (out, is))) bad =
      files.fault_row (packing_command out) (packing_one out) r file s (answer_for t (Pack file out) is) (faults.Bad bad)
  shots_bad t file (inr (inr (size, out, is))) bad =
      files.fault_row (splitting_command (pos size) out) (splitting_one (pos size) out) r file s (answer_for t (Split size file out) is) (faults.Bad bad)

  pub split_wide : IsAnswerTo tells r words s top → SplitWide r words s
  split_wide t size file out is k =
      files.fault_row (splitting_command (pos size) out) (splitting_one (pos size) out) r file s (answer_for t (Split size file out) is) (faults.Wide k)

  pub split_stripes : IsAnswerTo tells r words s top → SplitStripes r words s
  split_stripes t size file out is value =
      files.fault_row (splitting_command (pos size) out) (splitting_one (pos size) out) r file s (answer_for t (Split size file out) is) (faults.Stripes value)

  pub packed_bad : IsAnswerTo tells r words s top → PackedBad r words s
  packed_bad t file out is bad = files.fault_row (unpacking_command out) (unpacking_one out) r file s (answer_for t (Unpack file out) is) (faults.Pack bad)

  -- ---- acceptance

  input_done : (command : Command) → IsAnswerOf tells r command s top → s ≡ answers.Done → IsInputOf r.before command
  input_done (Fracture layout deck) a e = let given = rows.done_given (IsFractured tells r) r layout deck s top a e in (given.input, given.holds)
  input_done (Check layout deck) a e = checks.certified r layout deck s top a e
  input_done (Shots file) a e = let x = files.done_is listing_command r file s a e in (x.0, x.1)
  input_done (Pack file out) a e = let x = files.done_is (packing_command out) r file s a e in (x.0, x.1)
  input_done (Unpack file out) a e = let x = files.done_is (unpacking_command out) r file s a e in (x.0, x.1)
  input_done (Split size file out) a e = let x = files.done_is (splitting_command (pos size) out) r file s a e in (x.0, x.1)
  input_done (Density size layout deck) a e = let given = rows.done_given (IsCounted r (pos size)) r layout deck s top a e in (given.input, given.holds)
  input_done (Generate n file) a e = tt

  input_where : (command : Command) → IsAnswerOf tells r command s top → (ReadRose r → ⊥) → (WriteRose r → ⊥)
      → s ≢ answers.NoMemory → IsInputOf r.before command → s ≡ answers.Done
  input_where (Fracture layout deck) a reads writes memory (input, holds) = rows.done_where tells r layout deck s top a reads writes memory input holds
  input_where (Check layout deck) a reads writes memory (input, holds, exact) = checks.exact_where r layout deck s top a reads writes memory input holds exact
  input_where (Shots file) a reads writes memory (d, h) = files.done_where listing_command listing_one r file s a reads writes memory d h
  input_where (Pack file out) a reads writes memory (d, h) = files.done_where (packing_command out) (packing_one out) r file s a reads writes memory d h
  input_where (Unpack file out) a reads writes memory (d, h) = files.done_where (unpacking_command out) (unpacking_one out) r file s a reads writes memory d h
  input_where (Split size file out) a reads writes memory (d, h) =
      files.done_where (splitting_command (pos size) out) (splitting_one (pos size) out) r file s a reads writes memory d h
  input_where (Density size layout deck) a reads writes memory (input, holds) =
      densities.density_where r (pos size) layout deck s top a reads writes memory input holds
  input_where (Generate n file) a reads writes memory x = files.ended_where _ _ _ _ s a writes memory

  accepted_by : IsAnswerTo tells r words s top → s ≡ answers.Done → IsAccepted words r.before
  accepted_by (inl (command, is, a)) e = (command, is, input_done command a e)
  accepted_by (inr (none, e, rest)) f = absurd (words_done (words_are s answers.Done e f))

  done_where : IsAnswerTo tells r words s top → (ReadRose r → ⊥) → (WriteRose r → ⊥) → s ≢ answers.NoMemory → IsAccepted words r.before → s ≡ answers.Done
  done_where t reads writes memory (command, is, x) = input_where command (answer_for t command is) reads writes memory x

  fracture_done : IsAnswerTo tells r words s top → (layout deck : List ℕ) → IsFracture words layout deck → s
      ≡ answers.Done → (input : Input) × HoldsInput r.before layout deck input
  fracture_done t layout deck is e = input_done (Fracture layout deck) (answer_for t (Fracture layout deck) is) e

  fracture_where : IsAnswerTo tells r words s top → (layout deck : List ℕ) → IsFracture words layout deck
      → (ReadRose r → ⊥) → (WriteRose r → ⊥) → s ≢ answers.NoMemory
      → (input : Input) × HoldsInput r.before layout deck input → s ≡ answers.Done
  fracture_where t layout deck is reads writes memory x = input_where (Fracture layout deck) (answer_for t (Fracture layout deck) is) reads writes memory x

  pub accepts : IsAnswerTo tells r words s top → Acceptance r words s
  accepts t = record {
    fracture = λ layout deck is reads writes memory. (fracture_done t layout deck is, fracture_where t layout deck is reads writes memory);
    all = λ reads writes memory. (accepted_by t, done_where t reads writes memory);
  }

  -- ---- faults

  cause_by : (command : Command) → IsAnswerOf tells r command s top → s ≡ answers.ReadFault → ReadRose r ⊎ IsUnreadableBy r.before command
  cause_by (Fracture layout deck) a e = rows.fracture_cause tells r layout deck s top a e
  cause_by (Check layout deck) a e = checks.check_cause r layout deck s top a e
  cause_by (Shots file) a e = files.read_cause listing_command r file s a e
  cause_by (Pack file out) a e = files.read_cause (packing_command out) r file s a e
  cause_by (Unpack file out) a e = files.read_cause (unpacking_command out) r file s a e
  cause_by (Split size file out) a e = files.read_cause (splitting_command (pos size) out) r file s a e
  cause_by (Density size layout deck) a e = densities.density_cause r (pos size) layout deck s top a e
  cause_by (Generate n file) a e = absurd (files.ended_read _ _ _ _ s a e)

  read_cause : IsAnswerTo tells r words s top → s ≡ answers.ReadFault → ReadRose r ⊎ IsUnreadable words r.before
  read_cause (inl (command, is, a)) e =
      elim (cause_by command a e) [
        | inl rose ↦ inl rose
        | inr why ↦ inr (command, is, why)
      ]
  read_cause (inr (none, e, rest)) f = absurd (words_read (words_are s answers.ReadFault e f))

  at_least : (s ≡ answers.ReadFault) ⊎ ((s ≡ answers.NoMemory) × RefusedRose r) → (s ≡ answers.ReadFault) ⊎ (s ≡ answers.NoMemory)
  at_least (inl e) = inl e
  at_least (inr x) = inr x.0

  missing_file : (command : FileCommand) (file : List ℕ) → files.IsOneThing command → IsFileAnswer command r file s
      → IsNotThere r.before file → (s ≡ answers.ReadFault) ⊎ (s ≡ answers.NoMemory)
  missing_file command file one a missing = at_least (files.missing_due command one r file s a missing)

  due_by : (command : Command) → IsAnswerOf tells r command s top → IsUnreadableBy r.before command → (s ≡ answers.ReadFault) ⊎ (s ≡ answers.NoMemory)
  due_by (Fracture layout deck) a want = rows.missing_due (IsFractured tells r) r layout deck s top a want
  due_by (Check layout deck) a (inl want) = rows.missing_due (IsChecked r) r layout deck s top a want
  due_by (Check layout deck) a (inr none) = checks.no_file_due r layout deck s top a none
  due_by (Shots file) a missing = missing_file listing_command file listing_one a missing
  due_by (Pack file out) a missing = missing_file (packing_command out) file (packing_one out) a missing
  due_by (Unpack file out) a missing = missing_file (unpacking_command out) file (unpacking_one out) a missing
  due_by (Split size file out) a missing = missing_file (splitting_command (pos size) out) file (splitting_one (pos size) out) a missing
  due_by (Density size layout deck) a want = rows.missing_due (IsCounted r (pos size)) r layout deck s top a want
  due_by (Generate n file) a missing = absurd missing

  at_once_by : (command : Command) → IsAnswerOf tells r command s top → IsUnreadableAtOnceBy r.before command
      → (s ≡ answers.ReadFault) ⊎ ((s ≡ answers.NoMemory) × RefusedRose r)
  at_once_by (Fracture layout deck) a missing = rows.first_due (IsFractured tells r) r layout deck s top a missing
  at_once_by (Check layout deck) a missing = rows.first_due (IsChecked r) r layout deck s top a missing
  at_once_by (Shots file) a missing = files.missing_due listing_command listing_one r file s a missing
  at_once_by (Pack file out) a missing = files.missing_due (packing_command out) (packing_one out) r file s a missing
  at_once_by (Unpack file out) a missing = files.missing_due (unpacking_command out) (unpacking_one out) r file s a missing
  at_once_by (Split size file out) a missing = files.missing_due (splitting_command (pos size) out) (splitting_one (pos size) out) r file s a missing
  at_once_by (Density size layout deck) a missing = rows.first_due (IsCounted r (pos size)) r layout deck s top a missing
  at_once_by (Generate n file) a missing = absurd missing

  pub read_faults : IsAnswerTo tells r words s top → ReadFaults r words s
  read_faults t = record {
    cause = read_cause t;
    due = λ (command, is, why). due_by command (answer_for t command is) why;
    at_once = λ (command, is, why). at_once_by command (answer_for t command is) why;
  }

  made_write : (layout deck : List ℕ) → rows.Given (IsFractured tells r) r layout deck s → s ≡ answers.WriteFault → WriteRose r
  made_write layout deck given e =
      elim given.is [
        | inl x ↦ absurd (files.write_done (sym e ∙ x.0))
        | inr (inl x) ↦ x.1
        | inr (inr x) ↦ absurd (files.memory_write (sym x.0 ∙ e))
      ]

  write_by : (command : Command) → IsAnswerOf tells r command s top → s ≡ answers.WriteFault → WriteRose r × IsInputOf r.before command
  write_by (Fracture layout deck) a e =
      let given = rows.write_given (IsFractured tells r) r layout deck s top a e in
      (made_write layout deck given e, (given.input, given.holds))
  write_by (Check layout deck) a e = let x = checks.check_write r layout deck s top a e in (x.0, (x.1, x.2, x.3))
  write_by (Shots file) a e = let x = files.write_is listing_command r file s a e in (x.0, (x.1, x.2))
  write_by (Pack file out) a e = let x = files.write_is (packing_command out) r file s a e in (x.0, (x.1, x.2))
  write_by (Unpack file out) a e = let x = files.write_is (unpacking_command out) r file s a e in (x.0, (x.1, x.2))
  write_by (Split size file out) a e = let x = files.write_is (splitting_command (pos size) out) r file s a e in (x.0, (x.1, x.2))
  write_by (Density size layout deck) a e = let x = densities.density_write r (pos size) layout deck s top a e in (x.0, (x.1, x.2))
  write_by (Generate n file) a e = (files.ended_write _ _ _ _ s a e, tt)

  pub write_faults : IsAnswerTo tells r words s top → WriteFaults r words s
  write_faults (inl (command, is, a)) e = let x = write_by command a e in (x.0, (command, is, x.1))
  write_faults (inr (none, e, rest)) f = absurd (words_write (words_are s answers.WriteFault e f))

  pub refuses : IsAnswerTo tells r words s top → Refusals r words s
  refuses t = record {
    deck_long = deck_long t;
    deck_bad = deck_bad t;
    layout_long = layout_long t;
    layout_gds = layout_gds t;
    layout_oas = layout_oas t;
    layout_tree = layout_tree t;
    file_long = λ place. file_refused t place _;
    file_bad = λ place bad. file_refused t place _;
    file_head = λ place. file_refused t place _;
    file_too_large = λ place shot. file_refused t place _;
    file_miscovered = λ place tile count wanted. file_refused t place _;
    shots_long = shots_long t;
    shots_bad = shots_bad t;
    packed_bad = packed_bad t;
    split_wide = split_wide t;
    split_stripes = split_stripes t;
    read_fault = read_faults t;
    write_fault = write_faults t;
  }

  -- ---- the name that a line may give

  pub top_of : IsAnswerTo tells r words s top → IsTopOf r words s (name_of top)
  top_of t layout deck fault (inl is) e =
      let named = rows.top_named (IsFractured tells r) r layout deck s top (rows.fractured_keeps tells r) (answer_for t (Fracture layout deck) is) fault e in
      (named.2, named.3, ap name_of named.1 ∙ named.4)
  top_of t layout deck fault (inr (inl is)) e =
      let named = rows.top_named (IsChecked r) r layout deck s top (checks.checked_keeps r) (answer_for t (Check layout deck) is) fault e in
      (named.2, named.3, ap name_of named.1 ∙ named.4)
  top_of t layout deck fault (inr (inr (size, is))) e =
      let named = rows.top_named (IsCounted r (pos size)) r layout deck s top (densities.counted_keeps r (pos size))
      (answer_for t (Density size layout deck) is) fault e in
      (named.2, named.3, ap name_of named.1 ∙ named.4)

-- ---- what is said after the command changes nothing of this

pub accepts_after : (b m a : Content) (o q : Counts) (words : List (List ℕ)) (s : Status)
    → Acceptance (run_of b m o q) words s → Acceptance (run_of b a o q) words s
accepts_after b m a o q words s h = record { fracture = h.fracture; all = h.all }

pub refuses_after : (b m a : Content) (o q : Counts) (words : List (List ℕ)) (s : Status)
    → Refusals (run_of b m o q) words s → Refusals (run_of b a o q) words s
refuses_after b m a o q words s h = record {
  deck_long = h.deck_long;
  deck_bad = h.deck_bad;
  layout_long = h.layout_long;
  layout_gds = h.layout_gds;
  layout_oas = h.layout_oas;
  layout_tree = h.layout_tree;
  file_long = h.file_long;
  file_bad = h.file_bad;
  file_head = h.file_head;
  file_too_large = h.file_too_large;
  file_miscovered = h.file_miscovered;
  shots_long = h.shots_long;
  shots_bad = h.shots_bad;
  packed_bad = h.packed_bad;
  split_wide = h.split_wide;
  split_stripes = h.split_stripes;
  read_fault = record { cause = h.read_fault.cause; due = h.read_fault.due; at_once = h.read_fault.at_once };
  write_fault = h.write_fault;
}

-- ---- the answer, from that of the command that was done

-- of a command whose ending is plain
pub answered_by : (tells : Bool) (r : Run) (words : List (List ℕ)) (command : Command) (s t : Status)
    (top other : Option (List ℕ)) → AreWordsOf words command → t ≡ s → other ≡ top
    → IsAnswerOf tells r command s top → IsAnswerTo tells r words t other
answered_by tells r words command s t top other is e f answer =
    inl (
      command,
      is,
      subst (λ (x : Option (List ℕ)). IsAnswerOf tells r command t x) (sym f)
          (subst (λ (x : Status). IsAnswerOf tells r command x top) (sym e) answer),
    )

-- no command answers that the words are none
never_words : (command : Command) → IsOf command answers.Words → ⊥
never_words (Fracture layout deck) of = of
never_words (Check layout deck) of = of
never_words (Shots file) of = of
never_words (Pack file out) of = of
never_words (Unpack file out) of = of
never_words (Split size file out) of = of
never_words (Density size layout deck) of = of
never_words (Generate n file) of = of

pub words_by : (words : List (List ℕ)) (command : Command) (s : Status) → AreWordsOf words command → IsOf command s → (s ≡ answers.Words) ↔ IsNoCommand words
words_by words command s is of = (λ e. absurd (never_words command (subst (IsOf command) e of)), λ none. absurd (none command is))

-- ---- the shot file that a line is about

check_names : (words : List (List ℕ)) (l d m e : List ℕ) → IsCheck words l d → IsCheck words m e → (l ≡ m) × (d ≡ e)
check_names words l d m e h k =
    let same = one_command words (Check l d) (Check m e) h k in
    (ap first same, ap second same)
  where
    first : Command → List ℕ
    first (Check a b) = a
    first (Fracture a b) = a
    first (Shots a) = a
    first (Pack a b) = a
    first (Unpack a b) = a
    first (Split n a b) = a
    first (Density n a b) = a
    first (Generate n a) = a

    second : Command → List ℕ
    second (Check a b) = b
    second (Fracture a b) = b
    second (Shots a) = a
    second (Pack a b) = b
    second (Unpack a b) = b
    second (Split n a b) = b
    second (Density n a b) = b
    second (Generate n a) = a

-- the outputs of `check` are told
pub check_names_file : (before : Content) (words : List (List ℕ)) (layout deck : List ℕ) (s : Status)
    (outputs : Option (List Output)) → IsCheck words layout deck → HasOutputs before layout deck s outputs → NamesFile before words s outputs
check_names_file before words layout deck s outputs is h = record {
  check = λ l d other.
      let same = check_names words layout deck l d is other in
      subst (λ (x : List ℕ). HasOutputs before x d s outputs) same.0 (subst (λ (y : List ℕ). HasOutputs before layout y s outputs) same.1 h);
  others = λ none. absurd (none layout deck is);
}

-- no other command tells outputs
pub no_names_file : (before : Content) (words : List (List ℕ)) (command : Command) (s : Status) (outputs : Option (List Output)) → AreWordsOf words command
    → ((l d : List ℕ) → command ≡ Check l d → ⊥) → outputs ≡ None → NamesFile before words s outputs
no_names_file before words command s outputs is other none = record {
  check = λ l d check. absurd (other l d (one_command words command (Check l d) is check));
  others = λ never. none;
}

-- a command on a shot file is no check
no_check : (words : List (List ℕ)) (name : List ℕ) → ReadsFile words name → (layout deck : List ℕ) → IsCheck words layout deck → ⊥
no_check words name (inl (inl is)) l d k = let e = one_command words (Shots name) (Check l d) is k in let no : ⊥ = cc in no
no_check words name (inl (inr (inl (out, is)))) l d k = let e = one_command words (Pack name out) (Check l d) is k in let no : ⊥ = cc in no
no_check words name (inl (inr (inr (size, out, is)))) l d k = let e = one_command words (Split size name out) (Check l d) is k in let no : ⊥ = cc in no
no_check words name (inr (out, is)) l d k = let e = one_command words (Unpack name out) (Check l d) is k in let no : ⊥ = cc in no

-- FILE is the word that the line names
word_is : (words : List (List ℕ)) (name : List ℕ) → ReadsFile words name → file_word words ≡ name
word_is words name (inl (inl is)) = ap file_word is
word_is words name (inl (inr (inl (out, is)))) = ap file_word is.are
word_is words name (inl (inr (inr (size, out, is)))) = ap file_word is.are
word_is words name (inr (out, is)) = ap file_word is.are

pub file_named : (before now : Content) (o p : Counts) (words : List (List ℕ)) (s : Status)
    (outputs : Option (List Output)) → NamesFile before words s outputs → IsRefusedFileName (run_of before now o p) words s (file_of (file_word words) outputs s)
file_named before now o p words s outputs h = record {
  check = λ layout deck is place fault e.
      let x = h.check layout deck is place fault e in
      let line : file_of (file_word words) outputs s ≡ x.0 = ap (file_of (file_word words) outputs) e
      ∙ ap (λ (os : Option (List Output)). file_at (file_word words) os place) x.2
      ∙ ap (file_or (file_word words)) x.1.at ∙ sym x.1.file_is in
      subst (IsFileAt before layout deck place) (sym line) x.1;
  read = λ name is. file_by before words s outputs (h.others (no_check words name is)) ∙ word_is words name is;
}
  where
    file_by : (before : Content) (words : List (List ℕ)) (s : Status) (outputs : Option (List Output)) → outputs ≡ None
        → file_of (file_word words) outputs s ≡ file_word words
    file_by before words answers.Done outputs e = refl
    file_by before words answers.Words outputs e = refl
    file_by before words (answers.Deck fault) outputs e = refl
    file_by before words (answers.Layout fault) outputs e = refl
    file_by before words answers.ReadFault outputs e = refl
    file_by before words answers.WriteFault outputs e = refl
    file_by before words answers.NoMemory outputs e = refl
    file_by before words (answers.No place fault) outputs e = ap (λ (os : Option (List Output)). file_at (file_word words) os place) e
