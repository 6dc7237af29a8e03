-- What refusals, checks, listings and faults leave.
use Rattle.std.proofs.Common.{◌≡◌, ◌≢◌, ◌⊎◌, inl, inr, ℕ, ℤ, pos, Bool, List, [], ◌++◌, take, Option, refl, sym, ap, subst, ◌∙◌, append_assoc}
use Rattle.std.specs.Prelude.{IsTrue}
use Rattle.depot.specs.Content.{Content, ChangesLeftOnly, with_left, with_said, IsPartMade}
use Rattle.depot.specs.Counts.{Counts, NeverFall, Rose}
use Rattle.depot.proofs.ForCallers.{Rose-earlier}
use Rattle.layout_gen.specs.Generated.{generated}
use Rattle.shot_output.specs.Files.{AreCutShort}
use Rattle.job_input.specs.Accepted.{HoldsInput}
use Rattle.job_input.specs.declared.reading.Input.{Input}
use Rattle.job_words.specs.Words.{Command, Fracture, Check, Shots, Pack, Unpack, Split, Density, Generate}
use Rattle.mdp_job.specs.Runs.{run_of, IsEndedSo}
use Rattle.mdp_job.specs.Denoted.{plan_of}
use Rattle.mdp_job.specs.Outputs.{report_on, AreSpoiled}
use Rattle.mdp_job.specs.Certificates.{exact_report}
use Rattle.mdp_job.specs.ShotFiles.{ShotData, HoldsShots, listed, packed_of, packed_said, plain_of, unpacked_said}
use Rattle.mdp_job.specs.Splitting.{IsPartSplit}
use Rattle.mdp_job.specs.Densities.{AreTablesCutShort, IsCounted, IsDensityAnswer}
use Rattle.mdp_job.specs.Filing.{IsHalfFiled}
use Rattle.mdp_job.specs.Generating.{generated_line, IsGeneratedSo}
use Rattle.job_report.specs.Endings.{line_of, name_of}
use Rattle.mdp_job.specs.Parts.{IsUnsaid, IsMade, IsFractured, IsAnswer}
use Rattle.mdp_job.specs.Checking.{IsChecked, IsCheckAnswer}
use Rattle.mdp_job.specs.FileAnswers.{FileCommand, IsFileAnswer}
use Rattle.mdp_job.specs.Table.{listing_command, packing_command, unpacking_command, splitting_command, IsAnswerOf, IsAnswerTo}
use Rattle.mdp_job.specs.Clauses.{IsRefusal, IsQuietCommand, IsLeftBy, IsWantTold, Remains}
use Rattle.job_report.specs.declared.status.Status.{Status}
use Rattle.job_report.specs.declared.status.Status.TheVariants as answers
use Rattle.mdp_job.proofs.Rows.{left_or_made, refusal_left}
use Rattle.mdp_job.proofs.FileRows.{left_or_half, memory_done, memory_write}
use Rattle.mdp_job.proofs.Table.{answer_for}
use Rattle.mdp_job.proofs.Contents.{left_only}
use Rattle.mdp_job.proofs.StripeFiles.{half_quiet}
use Rattle.mdp_job.proofs.Written.{cut_spoiled, unsaid_spoiled}
use Rattle.mdp_job.proofs.Ends.{Ends, input_rules, not_done, unsaid, left_then, said_then, part_said_then, reported_then, part_quiet, line_quiet}
use Rattle.mdp_job.proofs.PackFiles.{packed_shots}

-- ---- commands that write nothing

checked_keeps : (b m a : Content) (o p : Counts) (input : Input) (s : Status) (x : List ℕ)
    → IsChecked (run_of b m o p) input s → a ≡ with_said m x → ChangesLeftOnly b (unsaid b a)
checked_keeps b m a o p input answers.Done x w f = reported_then b m a (exact_report input w.sums) x w.said f
checked_keeps b m a o p input answers.Words x w f = absurd w
checked_keeps b m a o p input (answers.Deck fault) x w f = absurd w
checked_keeps b m a o p input (answers.Layout fault) x w f = absurd w
checked_keeps b m a o p input answers.ReadFault x (w, rest) f = left_then b m a x rest f
checked_keeps b m a o p input answers.WriteFault x (rose, w) f = let (n, few, e) = w.part in reported_then b m a (take n (exact_report input w.sums)) x e f
checked_keeps b m a o p input answers.NoMemory x (inl rest) f = left_then b m a x rest f
checked_keeps b m a o p input answers.NoMemory x (inr (rose, w)) f = let (n, few, e) = w.part in reported_then b m a (take n (exact_report input w.sums)) x e f
checked_keeps b m a o p input (answers.No place fault) x (of, w, y, rest) f = left_then b m a x rest f

cut_left : (b m a : Content) (size : ℤ) (input : Input) (x : List ℕ) → AreTablesCutShort (with_left b []) m size input
    → a ≡ with_said m x → ChangesLeftOnly b (unsaid b a)
cut_left b m a size input x (inl same) f = left_then b m a x (left_only b m same) f
cut_left b m a size input x (inr (text, beginning, part)) f = part_said_then b m a text x part f

counted_left : (b m a : Content) (o p : Counts) (size : ℤ) (input : Input) (s : Status) (x : List ℕ)
    → IsCounted (run_of b m o p) size input s → a ≡ with_said m x → ChangesLeftOnly b (unsaid b a)
counted_left b m a o p size input answers.Done x (text, are, done) f = said_then b m a text x done f
counted_left b m a o p size input answers.Words x w f = absurd w
counted_left b m a o p size input (answers.Deck fault) x w f = absurd w
counted_left b m a o p size input (answers.Layout fault) x w f = absurd w
counted_left b m a o p size input answers.ReadFault x w f = absurd w
counted_left b m a o p size input answers.WriteFault x (rose, cut) f = cut_left b m a size input x cut f
counted_left b m a o p size input answers.NoMemory x cut f = cut_left b m a size input x cut f
counted_left b m a o p size input (answers.No place fault) x w f = absurd w

same_left : (b m : Content) → m ≡ b → ChangesLeftOnly b m
same_left b m e = subst (λ (c : Content). ChangesLeftOnly b c) (sym e) refl

nothing_left : (b m : Content) → m ≡ with_left b [] → ChangesLeftOnly b m
nothing_left b m e = subst (λ (c : Content). ChangesLeftOnly b c) (sym e) refl

listing_keeps : (b m a : Content) (o p : Counts) (file : List ℕ) (s : Status) (x : List ℕ)
    → IsFileAnswer listing_command (run_of b m o p) file s → a ≡ with_said m x → ChangesLeftOnly b (unsaid b a)
listing_keeps b m a o p file s x (inl (d, holds, inl (e, done))) f = said_then b m a (listed d) x done f
listing_keeps b m a o p file s x (inl (d, holds, inr (inl (e, rose, half)))) f = part_said_then b m a (listed d) x half f
listing_keeps b m a o p file s x (inl (d, holds, inr (inr (e, rose, half)))) f = part_said_then b m a (listed d) x half f
listing_keeps b m a o p file s x (inr (inl (fault, e, cause, rest))) f = left_then b m a x rest f
listing_keeps b m a o p file s x (inr (inr (inl (e, cause, rest)))) f = left_then b m a x rest f
listing_keeps b m a o p file s x (inr (inr (inr (e, cause, rest)))) f = left_then b m a x rest f

module _ (tells : Bool) (b m a : Content) (o p : Counts) (s : Status) (top : Option (List ℕ)) (x : List ℕ) (f : a ≡ with_said m x) where
  check_keeps : (layout deck : List ℕ) → IsCheckAnswer (run_of b m o p) layout deck s top → ChangesLeftOnly b (unsaid b a)
  check_keeps layout deck answer =
      elim (left_or_made (IsChecked (run_of b m o p)) (run_of b m o p) layout deck s top answer) [
        | inl rest ↦ left_then b m a x rest f
        | inr given ↦ checked_keeps b m a o p given.input s x given.is f
      ]

  density_keeps : (size : ℤ) (layout deck : List ℕ) → IsDensityAnswer (run_of b m o p) size layout deck s top → ChangesLeftOnly b (unsaid b a)
  density_keeps size layout deck answer =
      elim (left_or_made (IsCounted (run_of b m o p) size) (run_of b m o p) layout deck s top answer) [
        | inl rest ↦ left_then b m a x rest f
        | inr given ↦ counted_left b m a o p size given.input s x given.is f
      ]

  quiet_keeps : (command : Command) → IsQuietCommand command → IsAnswerOf tells (run_of b m o p) command s top → ChangesLeftOnly b (unsaid b a)
  quiet_keeps (Fracture layout deck) quiet answer = absurd quiet
  quiet_keeps (Check layout deck) quiet answer = check_keeps layout deck answer
  quiet_keeps (Shots file) quiet answer = listing_keeps b m a o p file s x answer f
  quiet_keeps (Pack file out) quiet answer = absurd quiet
  quiet_keeps (Unpack file out) quiet answer = absurd quiet
  quiet_keeps (Split size file out) quiet answer = absurd quiet
  quiet_keeps (Density size layout deck) quiet answer = density_keeps (pos size) layout deck answer
  quiet_keeps (Generate n file) quiet answer = absurd quiet

  -- ---- refusals

  refusal_kinds : (s : Status) → IsRefusal s → (s ≢ answers.Done) × (s ≢ answers.WriteFault) × (s ≢ answers.NoMemory)
  refusal_kinds s n = (λ e. subst IsRefusal e n, λ e. subst IsRefusal e n, λ e. subst IsRefusal e n)

  ended_refuses : (wr rr done half : Type 0) → IsEndedSo wr rr done half s → IsRefusal s → ⊥
  ended_refuses wr rr done half (inl y) r = (refusal_kinds s r).0 y.0
  ended_refuses wr rr done half (inr (inl y)) r = (refusal_kinds s r).1 y.0
  ended_refuses wr rr done half (inr (inr y)) r = (refusal_kinds s r).2 y.0

  half_refuses : (s ≡ answers.WriteFault) ⊎ ((s ≡ answers.NoMemory) × Rose o.refused p.refused) → IsRefusal s → ⊥
  half_refuses (inl e) r = (refusal_kinds s r).1 e
  half_refuses (inr y) r = (refusal_kinds s r).2 y.0

  file_refuses : (of : FileCommand) (file : List ℕ) → IsFileAnswer of (run_of b m o p) file s → IsRefusal s → ChangesLeftOnly b (unsaid b a)
  file_refuses of file answer r =
      elim (left_or_half of (run_of b m o p) file s answer (refusal_kinds s r).0) [
        | inl rest ↦ left_then b m a x rest f
        | inr (which, d, holds, half) ↦ absurd (half_refuses which r)
      ]

  answer_refuses : (command : Command) → IsAnswerOf tells (run_of b m o p) command s top → IsRefusal s → ChangesLeftOnly b (unsaid b a)
  answer_refuses (Fracture layout deck) answer r =
      let kinds = refusal_kinds s r in
      left_then b m a x (refusal_left tells (run_of b m o p) layout deck s top answer kinds.0 kinds.1 kinds.2) f
  answer_refuses (Check layout deck) answer r = check_keeps layout deck answer
  answer_refuses (Shots file) answer r = listing_keeps b m a o p file s x answer f
  answer_refuses (Pack file out) answer r = file_refuses (packing_command out) file answer r
  answer_refuses (Unpack file out) answer r = file_refuses (unpacking_command out) file answer r
  answer_refuses (Split size file out) answer r = file_refuses (splitting_command (pos size) out) file answer r
  answer_refuses (Density size layout deck) answer r = density_keeps (pos size) layout deck answer
  answer_refuses (Generate n file) answer r = absurd (ended_refuses _ _ _ _ answer r)

  refuses_by : (words : List (List ℕ)) → IsAnswerTo tells (run_of b m o p) words s top → IsRefusal s → ChangesLeftOnly b (unsaid b a)
  refuses_by words (inl (command, is, answer)) r = answer_refuses command answer r
  refuses_by words (inr (none, e, same)) r = left_then b m a x (same_left b m same) f

  -- ---- what faults and want of memory leave

  abbrev Spoiled : List ℕ → List ℕ → Type 0
  Spoiled layout deck = ChangesLeftOnly b (unsaid b a) ⊎ ((input : Input) × HoldsInput b layout deck input × AreSpoiled b a input)

  spoiled_in : (layout deck : List ℕ) (input : Input) → IsTrue tells → HoldsInput b layout deck input
      → AreCutShort (plan_of input) tells (with_left b []) m → Spoiled layout deck
  spoiled_in layout deck input told holds cut = inr (input, holds, cut_spoiled tells input b m a x told (input_rules b layout deck input holds) cut f)

  unsaid_in : (layout deck : List ℕ) (input : Input) → IsTrue tells → HoldsInput b layout deck input
      → IsUnsaid tells (with_left b []) m input → Spoiled layout deck
  unsaid_in layout deck input told holds w =
      let front = take w.said.0 (report_on input w.sums) in
      let whole : a ≡ with_said w.whole (front ++ x) =
      f ∙ ap (λ (c : Content). with_said c x) w.said.2 ∙ ap (λ (t : List ℕ). record w.whole { said = t }) (append_assoc w.whole.said front x) in
      inr (input, holds, unsaid_spoiled tells input b w.whole a w.sums (front ++ x) told (input_rules b layout deck input holds) w.written whole)

  made_leaves : (wr rr : Type 0) (layout deck : List ℕ) (input : Input) → IsTrue tells → s ≢ answers.Done
      → HoldsInput b layout deck input → IsMade tells (with_left b []) m wr rr input s → Spoiled layout deck
  made_leaves wr rr layout deck input told n holds (inl (g, done)) = absurd (n g)
  made_leaves wr rr layout deck input told n holds (inr (inl (g, rose, inl cut))) = spoiled_in layout deck input told holds cut
  made_leaves wr rr layout deck input told n holds (inr (inl (g, rose, inr w))) = unsaid_in layout deck input told holds w
  made_leaves wr rr layout deck input told n holds (inr (inr (g, inl same))) = inl (left_then b m a x (nothing_left b m same) f)
  made_leaves wr rr layout deck input told n holds (inr (inr (g, inr (inl cut)))) = spoiled_in layout deck input told holds cut
  made_leaves wr rr layout deck input told n holds (inr (inr (g, inr (inr (rose, w))))) = unsaid_in layout deck input told holds w

  fracture_leaves : (layout deck : List ℕ) → IsTrue tells → s ≢ answers.Done → IsAnswer tells (run_of b m o p) layout deck s top → Spoiled layout deck
  fracture_leaves layout deck told n answer =
      elim (left_or_made (IsFractured tells (run_of b m o p)) (run_of b m o p) layout deck s top answer) [
        | inl rest ↦ inl (left_then b m a x rest f)
        | inr given ↦ made_leaves (Rose o.write_faults p.write_faults) (Rose o.refused p.refused) layout deck given.input told n given.holds given.is
      ]

  half_leaves : (c : Content) (out bytes line : List ℕ) → IsHalfFiled c m out bytes line → IsPartMade c out bytes (unsaid c a)
  half_leaves c out bytes line (inl part) = part_quiet c m a out bytes x part f
  half_leaves c out bytes line (inr part) = line_quiet c m a out bytes line x part f

  file_leaves : (of : FileCommand) (file : List ℕ) (left : ShotData → Type 0) → s ≢ answers.Done → IsFileAnswer of (run_of b m o p) file s
      → ((d : ShotData) → of.half (with_left b []) m d → left d) → ChangesLeftOnly b (unsaid b a) ⊎ ((d : ShotData) × of.holds b file d × left d)
  file_leaves of file left n answer then =
      elim (left_or_half of (run_of b m o p) file s answer n) [
        | inl rest ↦ inl (left_then b m a x rest f)
        | inr (which, d, holds, half) ↦ inr (d, holds, then d half)
      ]

  generated_leaves : (n : ℕ) (file : List ℕ) → s ≢ answers.Done
      → IsGeneratedSo b m (Rose o.write_faults p.write_faults) (Rose o.refused p.refused) n file s → IsPartMade b file (generated n) (unsaid b a)
  generated_leaves n file not (inl y) = absurd (not y.0)
  generated_leaves n file not (inr (inl (g, rose, half))) = half_leaves b file (generated n) (generated_line n) half
  generated_leaves n file not (inr (inr (g, rose, half))) = half_leaves b file (generated n) (generated_line n) half

  packed_leaves : (q : Counts) (file out : List ℕ)
      → ChangesLeftOnly b (unsaid b a) ⊎ ((d : ShotData) × HoldsShots b file d × IsPartMade (with_left b []) out (packed_of d) (unsaid b a))
      → IsLeftBy (run_of b a o q) (Pack file out)
  packed_leaves q file out (inl same) = inl same
  packed_leaves q file out (inr (d, holds, part)) = inr (d, holds, packed_shots d, part)

  answer_leaves : (q : Counts) (command : Command) → IsTrue tells → s ≢ answers.Done
      → IsAnswerOf tells (run_of b m o p) command s top → IsLeftBy (run_of b a o q) command
  answer_leaves q (Fracture layout deck) told n answer = fracture_leaves layout deck told n answer
  answer_leaves q (Check layout deck) told n answer = check_keeps layout deck answer
  answer_leaves q (Shots file) told n answer = listing_keeps b m a o p file s x answer f
  answer_leaves q (Pack file out) told n answer =
      packed_leaves q file out
      (file_leaves (packing_command out) file (λ d. IsPartMade (with_left b []) out (packed_of d) (unsaid b a)) n answer
      (λ d half. half_leaves (with_left b []) out (packed_of d) (packed_said d) half))
  answer_leaves q (Unpack file out) told n answer =
      file_leaves (unpacking_command out) file (λ d. IsPartMade (with_left b []) out (plain_of d) (unsaid b a)) n answer
      (λ d half. half_leaves (with_left b []) out (plain_of d) (unpacked_said d) half)
  answer_leaves q (Split size file out) told n answer =
      file_leaves (splitting_command (pos size) out) file (λ d. IsPartSplit (with_left b []) (unsaid b a) (pos size) out d) n answer
      (λ d half. half_quiet b m a (pos size) out d x half f)
  answer_leaves q (Density size layout deck) told n answer = density_keeps (pos size) layout deck answer
  answer_leaves q (Generate k file) told n answer = generated_leaves k file n answer

-- ---- where memory ran out

generated_wants : (wr rr done half : Type 0) (s : Status) → IsEndedSo wr rr done half s → s ≡ answers.NoMemory → rr
generated_wants wr rr done half s (inl x) e = absurd (memory_done (sym e ∙ x.0))
generated_wants wr rr done half s (inr (inl x)) e = absurd (memory_write (sym e ∙ x.0))
generated_wants wr rr done half s (inr (inr x)) e = x.1

module _ (tells : Bool) (b m a : Content) (o p : Counts) (s : Status) (top : Option (List ℕ)) (x : List ℕ) (f : a ≡ with_said m x) (q : Counts) (later : NeverFall p q) where
  file_wants : (of : FileCommand) (file : List ℕ) → s ≡ answers.NoMemory → IsFileAnswer of (run_of b m o p) file s
      → ChangesLeftOnly b (unsaid b a) ⊎ Rose o.refused q.refused
  file_wants of file e answer =
      elim (left_or_half of (run_of b m o p) file s answer (not_done s (inr e))) [
        | inl rest ↦ inl (left_then b m a x rest f)
        | inr (inl wrote, d, holds, half) ↦ absurd (memory_write (sym e ∙ wrote))
        | inr (inr (want, rose), d, holds, half) ↦ inr (Rose-earlier o.refused p.refused q.refused rose later.refused)
      ]

  wants_told : (command : Command) → s ≡ answers.NoMemory → IsAnswerOf tells (run_of b m o p) command s top → IsWantTold (run_of b a o q) command
  wants_told (Fracture layout deck) e answer = tt
  wants_told (Check layout deck) e answer = check_keeps tells b m a o p s top x f layout deck answer
  wants_told (Shots file) e answer = listing_keeps b m a o p file s x answer f
  wants_told (Pack file out) e answer = file_wants (packing_command out) file e answer
  wants_told (Unpack file out) e answer = file_wants (unpacking_command out) file e answer
  wants_told (Split size file out) e answer = file_wants (splitting_command (pos size) out) file e answer
  wants_told (Density size layout deck) e answer = density_keeps tells b m a o p s top x f (pos size) layout deck answer
  wants_told (Generate n file) e answer = Rose-earlier o.refused p.refused q.refused (generated_wants _ _ _ _ s answer e) later.refused

-- ---- all together

pub leaves : (tells : Bool) (b m a : Content) (o p q : Counts) (words : List (List ℕ)) (s : Status)
    (top : Option (List ℕ)) → Ends tells b m a o p q words s top → Remains (run_of b a o q) words s
leaves tells b m a o p q words s top h =
    let x = take h.part.0 (line_of h.file (name_of top) s) in
    let answer = answer_for tells (run_of b m o p) words s top h.table in
    record {
      refusals = λ r. refuses_by tells b m a o p s top x h.part.2 words h.table r;
      keeps = λ command is quiet. quiet_keeps tells b m a o p s top x h.part.2 command quiet (answer command is);
      spoiled = record {
        left = λ command is which. answer_leaves tells b m a o p s top x h.part.2 q command h.told (not_done s which) (answer command is);
        counted = λ command is e. wants_told tells b m a o p s top x h.part.2 q h.later command e (answer command is);
      };
    }
