-- What was said where a command wasn't done: a prefix of its text, and a prefix of the answer's line.
use Rattle.std.proofs.Common.{◌≡◌, ◌≢◌, ◌⊎◌, inl, inr, ℕ, pos, Bool, List, [], ◌++◌, length, take, Option, refl, sym, ap, subst, ◌∙◌, append_assoc}
use Rattle.std.specs.Prelude.{IsTrue}
use Rattle.std.proofs.lemmas.List.{append-nil}
use Rattle.std.proofs.Math.Seq.{take-length}
use Rattle.depot.specs.Content.{Content, with_left, with_file, with_said}
use Rattle.depot.specs.Counts.{Counts, NeverFall, Rose}
use Rattle.depot.proofs.ForCallers.{Rose-later, Rose-earlier}
use Rattle.layout_gen.specs.Generated.{generated}
use Rattle.job_input.specs.Accepted.{HoldsInput}
use Rattle.job_input.specs.declared.reading.Input.{Input}
use Rattle.job_words.specs.Words.{Command, Fracture, Check, Shots, Pack, Unpack, Split, Density, Generate, AreWordsOf}
use Rattle.job_words.specs.Words.{IsFracture, IsCheck, IsDensity, IsSplit as IsSplitting}
use Rattle.mdp_job.specs.Runs.{run_of}
use Rattle.mdp_job.specs.Outputs.{report_on, AreSummed}
use Rattle.mdp_job.specs.Certificates.{exact_report}
use Rattle.mdp_job.specs.ShotFiles.{ShotData, listed, packed_of, packed_said, plain_of, unpacked_said}
use Rattle.mdp_job.specs.Splitting.{HoldsFields}
use Rattle.mdp_job.specs.FieldAnswers.{IsHalfSplit}
use Rattle.mdp_job.specs.Densities.{IsCounted, IsDensityAnswer, AreTablesCutShort}
use Rattle.mdp_job.specs.Filing.{IsHalfFiled}
use Rattle.mdp_job.specs.Generating.{generated_line}
use Rattle.job_report.specs.Endings.{line_of, name_of}
use Rattle.mdp_job.specs.Parts.{IsUnsaid, IsMade, IsFractured, IsAnswer, CountsFor}
use Rattle.mdp_job.specs.Checking.{IsHalfReported, IsChecked, IsCheckAnswer}
use Rattle.mdp_job.specs.FileAnswers.{FileCommand, IsFileAnswer}
use Rattle.mdp_job.specs.Table.{listing_command, packing_command, unpacking_command, splitting_command, IsAnswerOf, IsAnswerTo}
use Rattle.mdp_job.specs.Clauses.{IsTextBy, MayBreakOff, MaySay, IsWriteTold, SaysLine, Speech}
use Rattle.job_report.specs.declared.status.Status.{Status}
use Rattle.job_report.specs.declared.status.Status.TheVariants as answers
use Rattle.mdp_job.proofs.Rows.{left_or_made}
use Rattle.mdp_job.proofs.Exactness.{all_exact, all_summed as exact_summed}
use Rattle.mdp_job.proofs.FileRows.{left_or_half}
use Rattle.mdp_job.proofs.StripeFiles.{cut_said as stripes_cut_said, made_said, all_quiet}
use Rattle.mdp_job.proofs.DensityRows.{NotCounted, not_counted}
use Rattle.mdp_job.proofs.Table.{top_of}
use Rattle.mdp_job.proofs.Written.{all_summed, covered_then, cut_said, written_said}
use Rattle.mdp_job.proofs.Ends.{Ends, input_rules, unsaid, made_quiet, left_said, part_made_said}
use Rattle.mdp_job.proofs.Finals.{reports, lists, tabulates}
use Rattle.mdp_job.proofs.PackFiles.{packed_shots}

module _ (b m a : Content) (o p q : Counts) (words : List (List ℕ)) (s : Status) where
  record Middle : Type 0 where
    text : List ℕ
    may : MaySay (run_of b a o q) words s text
    of_text : ℕ
    said : m.said ≡ b.said ++ take of_text text

  silent : m.said ≡ b.said → Middle
  silent e = record { text = []; may = inl refl; of_text = 0; said = e ∙ sym (append-nil b.said) }

  -- a part of a text of the command was said
  spoken : (command : Command) → AreWordsOf words command → MayBreakOff (run_of b a o q) command s → (text : List ℕ)
      → IsTextBy (run_of b a o q) command text → (n : ℕ) → m.said ≡ b.said ++ take n text → Middle
  spoken command is may text by n e = record { text = text; may = inr (command, is, may, by); of_text = n; said = e }

  -- how saying may have ended early, of commands that take no memory for it
  abbrev Broken : Type 0
  Broken = (s ≡ answers.WriteFault) ⊎ ((s ≡ answers.NoMemory) × Rose o.refused q.refused)

  broken_later : NeverFall p q → (s ≡ answers.WriteFault) ⊎ ((s ≡ answers.NoMemory) × Rose o.refused p.refused) → Broken
  broken_later later (inl e) = inl e
  broken_later later (inr (e, rose)) = inr (e, Rose-earlier o.refused p.refused q.refused rose later.refused)

  -- ---- `fracture`

  unsaid_middle : (tells : Bool) (layout deck : List ℕ) (input : Input) (x : List ℕ) → IsTrue tells → Broken
      → IsFracture words layout deck → HoldsInput b layout deck input
      → IsUnsaid tells (with_left b []) m input → a ≡ with_said m x → Middle
  unsaid_middle tells layout deck input x told which is holds w e =
      let legal = input_rules b layout deck input holds in
      let said = report_on input w.sums in
      let front = take w.said.0 said in
      let whole : a ≡ with_said w.whole (front ++ x) =
      e ∙ ap (λ (c : Content). with_said c x) w.said.2 ∙ ap (λ (t : List ℕ). record w.whole { said = t }) (append_assoc w.whole.said front x) in
      spoken (Fracture layout deck) is which said (
        input,
        holds,
        covered_then tells input b w.whole a w.sums (front ++ x) told legal w.written whole,
        w.sums,
        subst (λ files. AreSummed files input w.sums) (sym (ap (λ (c : Content). c.made) whole))
            (all_summed tells input (with_left b []) w.whole w.sums told legal w.written),
        refl,
      )
      w.said.0 (ap (λ (c : Content). c.said) w.said.2 ∙ ap (λ t. t ++ front) (written_said tells input b w.whole w.sums told w.written))

  made_middle : (tells : Bool) (layout deck : List ℕ) (input : Input) (x : List ℕ) → IsTrue tells → NeverFall p q
      → s ≢ answers.Done → IsFracture words layout deck
      → HoldsInput b layout deck input → a ≡ with_said m x
      → IsMade tells (with_left b []) m (Rose o.write_faults p.write_faults) (Rose o.refused p.refused) input s → Middle
  made_middle tells layout deck input x told later n is holds e (inl (f, done)) = absurd (n f)
  made_middle tells layout deck input x told later n is holds e (inr (inl (f, rose, inl cut))) = silent (cut_said tells input b m told cut)
  made_middle tells layout deck input x told later n is holds e (inr (inl (f, rose, inr unsaid))) =
      unsaid_middle tells layout deck input x told (inl f) is holds unsaid e
  made_middle tells layout deck input x told later n is holds e (inr (inr (f, inl same))) = silent (ap (λ (c : Content). c.said) same)
  made_middle tells layout deck input x told later n is holds e (inr (inr (f, inr (inl cut)))) = silent (cut_said tells input b m told cut)
  made_middle tells layout deck input x told later n is holds e (inr (inr (f, inr (inr (rose, unsaid))))) =
      unsaid_middle tells layout deck input x told (inr (f, Rose-earlier o.refused p.refused q.refused rose later.refused)) is holds unsaid e

  fracture_middle : (tells : Bool) (top : Option (List ℕ)) (layout deck : List ℕ) (x : List ℕ) → IsTrue tells
      → NeverFall p q → s ≢ answers.Done → IsFracture words layout deck
      → a ≡ with_said m x → IsAnswer tells (run_of b m o p) layout deck s top → Middle
  fracture_middle tells top layout deck x told later n is e answer =
      elim (left_or_made (IsFractured tells (run_of b m o p)) (run_of b m o p) layout deck s top answer) [
        | inl rest ↦ silent (left_said b m rest)
        | inr given ↦ made_middle tells layout deck given.input x told later n is given.holds e given.is
      ]

  -- ---- `check`

  half_reported : (layout deck : List ℕ) (input : Input) → Broken → IsCheck words layout deck
      → HoldsInput b layout deck input → IsHalfReported b m input → Middle
  half_reported layout deck input which is holds h =
      let (n, few, e) = h.part in
      spoken (Check layout deck) is which (exact_report input h.sums)
      (input, holds, all_exact input b h.sums h.exact, h.sums, exact_summed input b h.sums h.exact, refl)
      n (ap (λ (c : Content). c.said) e)

  -- ---- commands on a shot file

  -- what was said of a half that is a file or a part of it, and of its line
  filed_middle : (command : Command) → AreWordsOf words command → MayBreakOff (run_of b a o q) command s → (c : Content) (out bytes line x : List ℕ)
      → c.said ≡ b.said → a ≡ with_said m x → (unsaid b a ≡ with_file c out bytes → IsTextBy (run_of b a o q) command line)
      → IsHalfFiled c m out bytes line → Middle
  filed_middle command is may c out bytes line x same e by (inl part) = silent (part_made_said c m out bytes part ∙ same)
  filed_middle command is may c out bytes line x same e by (inr (n, few, f)) =
      spoken command is may line (by (made_quiet b (with_file c out bytes) m a (take n line) x same f e)) n
      (ap (λ (d : Content). d.said) f ∙ ap (λ t. t ++ take n line) same)

  file_middle : (of : FileCommand) (file : List ℕ) → NeverFall p q → s ≢ answers.Done → IsFileAnswer of (run_of b m o p) file s
      → ((d : ShotData) → Broken → of.holds b file d → of.half (with_left b []) m d → Middle) → Middle
  file_middle of file later n answer then =
      elim (left_or_half of (run_of b m o p) file s answer n) [
        | inl rest ↦ silent (left_said b m rest)
        | inr (which, d, holds, half) ↦ then d (broken_later later which) holds half
      ]

-- a part of the lines of stripes was said, and then something more
split_middle : (b m a : Content) (o p q : Counts) (words : List (List ℕ)) (s : Status) (size : ℕ) (file out : List ℕ)
    (d : ShotData) (x : List ℕ) → a ≡ with_said m x
    → IsSplitting words size file out → (s ≡ answers.WriteFault) ⊎ ((s ≡ answers.NoMemory) × Rose o.refused q.refused) → HoldsFields (pos size) b file d
    → IsHalfSplit (with_left b []) m (pos size) out d → Middle b m a o p q words s
split_middle b m a o p q words s size file out d x e is which holds (inl cut) =
    silent b m a o p q words s (stripes_cut_said (with_left b []) m (pos size) out d cut)
split_middle b m a o p q words s size file out d x e is which holds (inr (c, text, all, (n, few, f))) =
    spoken b m a o p q words s (Split size file out) is which text
    (d, holds, all_quiet b c m a (pos size) out d text (take n text) x all f e)
    n (ap (λ (k : Content). k.said) f ∙ ap (λ t. t ++ take n text) (made_said (with_left b []) c (pos size) out d text all))

-- a part of the tables was said
tables_middle : (b m a : Content) (o p q : Counts) (words : List (List ℕ)) (s : Status) (size : ℕ) (layout deck : List ℕ) (input : Input)
    → IsDensity words size layout deck → (s ≡ answers.WriteFault) ⊎ (s ≡ answers.NoMemory) → HoldsInput b layout deck input
    → AreTablesCutShort (with_left b []) m (pos size) input → Middle b m a o p q words s
tables_middle b m a o p q words s size layout deck input is which holds (inl same) = silent b m a o p q words s (ap (λ (c : Content). c.said) same)
tables_middle b m a o p q words s size layout deck input is which holds (inr (text, tables, (n, few, e))) =
    spoken b m a o p q words s (Density size layout deck) is which text (input, holds, tables) n (ap (λ (c : Content). c.said) e)

counted_middle : (b m a : Content) (o p q : Counts) (words : List (List ℕ)) (s : Status) (size : ℕ) (layout deck : List ℕ) (input : Input)
    → IsDensity words size layout deck → HoldsInput b layout deck input → NotCounted (run_of b m o p) (pos size) input s → Middle b m a o p q words s
counted_middle b m a o p q words s size layout deck input is holds cut = tables_middle b m a o p q words s size layout deck input is cut.which holds cut.cut

density_middle : (b m a : Content) (o p q : Counts) (words : List (List ℕ)) (s : Status) (top : Option (List ℕ))
    (size : ℕ) (layout deck : List ℕ) (x : List ℕ) → a ≡ with_said m x
    → s ≢ answers.Done → IsDensity words size layout deck → IsDensityAnswer (run_of b m o p) (pos size) layout deck s top → Middle b m a o p q words s
density_middle b m a o p q words s top size layout deck x e n is answer =
    elim (left_or_made (IsCounted (run_of b m o p) (pos size)) (run_of b m o p) layout deck s top answer) [
      | inl rest ↦ silent b m a o p q words s (left_said b m rest)
      | inr given ↦ counted_middle b m a o p q words s size layout deck given.input is given.holds
          (not_counted (run_of b m o p) (pos size) given.input s given.is n)
    ]

checked_middle : (b m a : Content) (o p q : Counts) (words : List (List ℕ)) (s : Status) (layout deck : List ℕ)
    (input : Input) → NeverFall p q → s ≢ answers.Done → IsCheck words layout deck
    → HoldsInput b layout deck input → IsChecked (run_of b m o p) input s → Middle b m a o p q words s
checked_middle b m a o p q words answers.Done layout deck input later n is holds x = absurd (n refl)
checked_middle b m a o p q words answers.Words layout deck input later n is holds x = absurd x
checked_middle b m a o p q words (answers.Deck fault) layout deck input later n is holds x = absurd x
checked_middle b m a o p q words (answers.Layout fault) layout deck input later n is holds x = absurd x
checked_middle b m a o p q words answers.ReadFault layout deck input later n is holds (x, rest) =
    silent b m a o p q words answers.ReadFault (left_said b m rest)
checked_middle b m a o p q words answers.WriteFault layout deck input later n is holds (rose, x) =
    half_reported b m a o p q words answers.WriteFault layout deck input (inl refl) is holds x
checked_middle b m a o p q words answers.NoMemory layout deck input later n is holds (inl rest) = silent b m a o p q words answers.NoMemory (left_said b m rest)
checked_middle b m a o p q words answers.NoMemory layout deck input later n is holds (inr (rose, x)) =
    half_reported b m a o p q words answers.NoMemory layout deck input (inr (refl, Rose-earlier o.refused p.refused q.refused rose later.refused)) is holds x
checked_middle b m a o p q words (answers.No place fault) layout deck input later n is holds (of, x, y, rest) =
    silent b m a o p q words (answers.No place fault) (left_said b m rest)

check_middle : (b m a : Content) (o p q : Counts) (words : List (List ℕ)) (s : Status) (top : Option (List ℕ))
    (layout deck : List ℕ) → NeverFall p q → s ≢ answers.Done → IsCheck words layout deck
    → IsCheckAnswer (run_of b m o p) layout deck s top → Middle b m a o p q words s
check_middle b m a o p q words s top layout deck later n is answer =
    elim (left_or_made (IsChecked (run_of b m o p)) (run_of b m o p) layout deck s top answer) [
      | inl rest ↦ silent b m a o p q words s (left_said b m rest)
      | inr given ↦ checked_middle b m a o p q words s layout deck given.input later n is given.holds given.is
    ]

-- a fault of writing that was counted before the line is told
writes_told : (b a : Content) (o p q : Counts) (s : Status) → CountsFor o p s → q ≡ p → IsWriteTold (run_of b a o q) s
writes_told b a o p q answers.Done c same w r = inl (ap (λ (x : Counts). x.write_faults) (same ∙ c))
writes_told b a o p q answers.Words c same w r = inl (ap (λ (x : Counts). x.write_faults) (same ∙ c))
writes_told b a o p q (answers.Deck fault) c same w r = inl (ap (λ (x : Counts). x.write_faults) (same ∙ c))
writes_told b a o p q (answers.Layout fault) c same w r = inl (ap (λ (x : Counts). x.write_faults) (same ∙ c))
writes_told b a o p q answers.ReadFault c same w r = absurd (r refl)
writes_told b a o p q answers.WriteFault c same w r = absurd (w refl)
writes_told b a o p q answers.NoMemory (inl rose) same w r = inr (refl, subst (λ (x : Counts). Rose o.refused x.refused) (sym same) rose)
writes_told b a o p q answers.NoMemory (inr c) same w r = inl (ap (λ (x : Counts). x.write_faults) (same ∙ c))
writes_told b a o p q (answers.No place fault) c same w r = inl (ap (λ (x : Counts). x.write_faults) (same ∙ c))

module _ (tells : Bool) (b m a : Content) (o p q : Counts) (words : List (List ℕ)) (s : Status) (top : Option (List ℕ)) where
  answer_middle : (x : List ℕ) → IsTrue tells → NeverFall p q → a ≡ with_said m x → s ≢ answers.Done → (command : Command) → AreWordsOf words command
      → IsAnswerOf tells (run_of b m o p) command s top → Middle b m a o p q words s
  answer_middle x told later e n (Fracture layout deck) is answer = fracture_middle b m a o p q words s tells top layout deck x told later n is e answer
  answer_middle x told later e n (Check layout deck) is answer = check_middle b m a o p q words s top layout deck later n is answer
  answer_middle x told later e n (Shots file) is answer =
      file_middle b m a o p q words s listing_command file later n answer
      (λ d which holds half.
      spoken b m a o p q words s (Shots file) is which (listed d) (d, holds, refl) half.0 (ap (λ (c : Content). c.said) half.2))
  answer_middle x told later e n (Pack file out) is answer =
      file_middle b m a o p q words s (packing_command out) file later n answer
      (λ d which holds half. filed_middle b m a o p q words s (Pack file out) is which (with_left b []) out (packed_of d)
      (packed_said d) x refl e (λ whole. (d, holds, packed_shots d, whole, refl)) half)
  answer_middle x told later e n (Unpack file out) is answer =
      file_middle b m a o p q words s (unpacking_command out) file later n answer
      (λ d which holds half. filed_middle b m a o p q words s (Unpack file out) is which (with_left b []) out (plain_of d)
      (unpacked_said d) x refl e (λ whole. (d, holds, whole, refl)) half)
  answer_middle x told later e n (Split size file out) is answer =
      file_middle b m a o p q words s (splitting_command (pos size) out) file later n answer
      (λ d which holds half. split_middle b m a o p q words s size file out d x e is which holds half)
  answer_middle x told later e n (Density size layout deck) is answer = density_middle b m a o p q words s top size layout deck x e n is answer
  answer_middle x told later e n (Generate k file) is (inl y) = absurd (n y.0)
  answer_middle x told later e n (Generate k file) is (inr (inl (f, rose, half))) =
      filed_middle b m a o p q words s (Generate k file) is (inl f) b file (generated k) (generated_line k) x refl e (λ whole. (whole, refl)) half
  answer_middle x told later e n (Generate k file) is (inr (inr (f, rose, half))) =
      filed_middle b m a o p q words s (Generate k file) is (inr (f, Rose-earlier o.refused p.refused q.refused rose later.refused)) b file
      (generated k) (generated_line k) x refl e (λ whole. (whole, refl)) half

  middle : (x : List ℕ) → IsTrue tells → NeverFall p q → a ≡ with_said m x
      → IsAnswerTo tells (run_of b m o p) words s top → s ≢ answers.Done → Middle b m a o p q words s
  middle x told later e (inl (command, is, answer)) n = answer_middle x told later e n command is answer
  middle x told later e (inr (none, f, same)) n = silent b m a o p q words s (ap (λ (c : Content). c.said) same)

  says_by : (h : Ends tells b m a o p q words s top) → Middle b m a o p q words s
      → ((a ≡ with_said m (line_of h.file (name_of top) s)) × (q ≡ p)) ⊎ Rose p.write_faults q.write_faults
      ⊎ Rose p.refused q.refused → SaysLine (run_of b a o q) words s
  says_by h k (inl (e, same)) =
      let line = line_of h.file (name_of top) s in
      record {
        text = k.text;
        may = k.may;
        top = name_of top;
        named = top_of tells (run_of b m o p) words s top h.table;
        file = h.file;
        of_file = h.of_file;
        of_text = k.of_text;
        of_line = length line;
        said = ap (λ (c : Content). c.said) e ∙ (ap (λ t. t ++ line) k.said ∙ ap (λ t. (b.said ++ take k.of_text k.text) ++ t) (sym (take-length line)));
        whole = inl (take-length line, writes_told b a o p q s h.counts same);
      }
  says_by h k (inr rose) =
      let line = line_of h.file (name_of top) s in
      record {
        text = k.text;
        may = k.may;
        top = name_of top;
        named = top_of tells (run_of b m o p) words s top h.table;
        file = h.file;
        of_file = h.of_file;
        of_text = k.of_text;
        of_line = h.part.0;
        said = ap (λ (c : Content). c.said) h.part.2 ∙ ap (λ t. t ++ take h.part.0 line) k.said;
        whole = inr (elim rose [
          | inl write ↦ inl (Rose-later o.write_faults p.write_faults q.write_faults h.earlier.write_faults write)
          | inr wanting ↦ inr (Rose-later o.refused p.refused q.refused h.earlier.refused wanting)
        ]);
      }

  pub speaks : (h : Ends tells b m a o p q words s top) → Speech (run_of b a o q) words s
  speaks h = record {
    report = reports tells b m a o p q words s top h;
    listed = lists tells b m a o p q words s top h;
    densities = tabulates tells b m a o p q words s top h;
    line = λ n. says_by h (middle (take h.part.0 (line_of h.file (name_of top) s)) h.told h.later h.part.2 h.table n) h.whole;
  }
