-- How the parts of the commands `fracture` and `check` fit together.
use Rattle.std.proofs.Common.{◌≡◌, ◌⊎◌, inl, inr, ℕ, Bool, List, [], take, Option, None, Ok, Err, refl, sym, ap, subst, ◌∙◌}
use Rattle.depot.specs.Content.{Content, ChangesLeftOnly, with_left, with_said, IsPartSaid}
use Rattle.depot.specs.Counts.{Counts, NeverFall, Rose}
use Rattle.depot.specs.declared.outside.DepotBad.{DepotBad}
use Rattle.depot.specs.declared.outside.DepotBad.TheVariants as depot
use Rattle.depot.proofs.ForCallers.{Rose-earlier}
use Rattle.geo_stream.specs.Refusals.{IsForFault}
use Rattle.geo_stream.specs.declared.refusal.Refusal.{Refusal}
use Rattle.geo_stream.specs.declared.refusal.Refusal.TheVariants.{Fault, NoMemory}
use Rattle.deck_plan.specs.Plans.{Planned}
use Rattle.shot_writer.specs.declared.parts.Sums.{Sums}
use Rattle.cell_tree.specs.declared.faults.TreeBad.{TreeBad}
use Rattle.job_input.specs.Clauses.{Answer, IsReadExactlyWhere, ComesByKind}
use Rattle.job_input.specs.declared.reading.Input.{Input}
use Rattle.mdp_job.specs.Runs.{run_of}
use Rattle.mdp_job.specs.Denoted.{plan_of}
use Rattle.mdp_job.specs.Faults.{fault_of}
use Rattle.mdp_job.specs.Outputs.{report_on}
use Rattle.file_check.specs.Files.{IsFirstFileFault, CountsFor as FileCounts}
use Rattle.file_check.specs.declared.faults.CheckBad.{CheckBad}
use Rattle.file_check.specs.declared.faults.CheckBad.TheVariants as checks
use Rattle.file_check.specs.declared.faults.CheckFault.{CheckFault as OutputFault}
use Rattle.file_check.specs.declared.faults.CheckFault.TheVariants as faults
use Rattle.mdp_job.specs.Certificates.{exact_report}
use Rattle.mdp_job.specs.Parts.{fault_status, IsSaidSo, IsInputTold, IsAllWritten, IsMade, IsOutcomeBy, IsAnswerBy, IsFractured, IsAnswer, IsOfInput}
use Rattle.mdp_job.specs.Parts.{refuses_output, CountsFor}
use Rattle.mdp_job.specs.Checking.{checked_status, AreAllExact, IsChecked}
use Rattle.job_report.specs.declared.status.Status.{Status}

-- a text that was cut short
pub said_fault : (b a : Content) (wr rr : Type 0) (text : List ℕ) (bad : DepotBad) (s : Status) → s ≡ fault_status bad
    → IsPartSaid b text a → (bad ≡ depot.Failed → wr) → (bad ≡ depot.NoMemory → rr) → IsSaidSo b a wr rr text s
said_fault b a wr rr text depot.Failed s e part failed wanting = inr (inl (e, failed refl, part))
said_fault b a wr rr text depot.NoMemory s e part failed wanting = inr (inr (e, wanting refl, part))

-- the report on outputs that were written
pub said_made : (tells : Bool) (b m a : Content) (wr wr₁ rr rr₁ : Type 0) (input : Input) (sums : List Sums)
    (s : Status) → (wr₁ → wr) → (rr₁ → rr) → IsAllWritten tells b m input sums
    → IsSaidSo m a wr₁ rr₁ (report_on input sums) s → IsMade tells b a wr rr input s
said_made tells b m a wr wr₁ rr rr₁ input sums s wider more w (inl (e, said)) = inl (e, record { sums = sums; whole = m; written = w; said = said })
said_made tells b m a wr wr₁ rr rr₁ input sums s wider more w (inr (inl (e, rose, part))) =
    inr (inl (e, wider rose, inr (record { sums = sums; whole = m; written = w; said = part })))
said_made tells b m a wr wr₁ rr rr₁ input sums s wider more w (inr (inr (e, rose, part))) =
    inr (inr (e, inr (inr (more rose, record { sums = sums; whole = m; written = w; said = part }))))

pub made_later : (tells : Bool) (b a : Content) (wr wr₁ rr rr₁ : Type 0) (input : Input) (s : Status) → (wr₁ → wr)
    → (rr₁ → rr) → IsMade tells b a wr₁ rr₁ input s → IsMade tells b a wr rr input s
made_later tells b a wr wr₁ rr rr₁ input s wider more (inl done) = inl done
made_later tells b a wr wr₁ rr rr₁ input s wider more (inr (inl (e, rose, cut))) = inr (inl (e, wider rose, cut))
made_later tells b a wr wr₁ rr rr₁ input s wider more (inr (inr (e, inl same))) = inr (inr (e, inl same))
made_later tells b a wr wr₁ rr rr₁ input s wider more (inr (inr (e, inr (inl cut)))) = inr (inr (e, inr (inl cut)))
made_later tells b a wr wr₁ rr rr₁ input s wider more (inr (inr (e, inr (inr (rose, unsaid))))) = inr (inr (e, inr (inr (more rose, unsaid))))

-- ---- what the reading tells, later

comes_later : (rr rr₁ : Type 0) (a answer : Answer) (cause : Type 0) → (rr₁ → rr) → IsReadExactlyWhere rr₁ a answer cause → IsReadExactlyWhere rr a answer cause
comes_later rr rr₁ a answer cause wider h = record {
  only = h.only;
  whenever = λ x. elim (h.whenever x) [
    | inl e ↦ inl e
    | inr (inl e) ↦ inr (inl e)
    | inr (inr (e, rose)) ↦ inr (inr (e, wider rose))
  ];
}

kind_later : (rr rr₁ : Type 0) (a : Answer) (bad : TreeBad) (top : List ℕ) (cause : Type 0) → (rr₁ → rr)
    → ComesByKind rr₁ a bad top cause → ComesByKind rr a bad top cause
kind_later rr rr₁ a bad top cause wider h = record {
  only = h.only;
  whenever = λ x. elim (h.whenever x) [
    | inl e ↦ inl e
    | inr (inl e) ↦ inr (inl e)
    | inr (inr (e, rose)) ↦ inr (inr (e, wider rose))
  ];
}

wider_left : (X Y Z : Type 0) → (X → Y) → X ⊎ Z → Y ⊎ Z
wider_left X Y Z f (inl x) = inl (f x)
wider_left X Y Z f (inr z) = inr z

wider_right : (X Y Z W : Type 0) → (Y → Z) → X ⊎ (W × Y) → X ⊎ (W × Z)
wider_right X Y Z W f (inl x) = inl x
wider_right X Y Z W f (inr (w, y)) = inr (w, f y)

pub told_later : (b : Content) (rr rr₁ fr fr₁ : Type 0) (layout deck : List ℕ) (a : Answer) → (rr₁ → rr) → (fr₁ → fr)
    → IsInputTold b rr₁ fr₁ layout deck a → IsInputTold b rr fr layout deck a
told_later b rr rr₁ fr fr₁ layout deck a wider more t = record {
  given = λ input. comes_later rr rr₁ a _ _ wider (t.given input);
  deck_long = comes_later rr rr₁ a _ _ wider t.deck_long;
  deck_bad = λ bad. comes_later rr rr₁ a _ _ wider (t.deck_bad bad);
  layout_long = λ top. comes_later rr rr₁ a _ _ wider (t.layout_long top);
  layout_gds = λ bad top. comes_later rr rr₁ a _ _ wider (t.layout_gds bad top);
  layout_oas = λ bad top. comes_later rr rr₁ a _ _ wider (t.layout_oas bad top);
  layout_tree = λ bad top. kind_later rr rr₁ a bad top _ wider (t.layout_tree bad top);
  read_fault = λ e. wider_left rr₁ rr _ wider (t.read_fault e);
  missing = t.missing;
  missing_deck = λ e. wider_right _ fr₁ fr _ more (t.missing_deck e);
}

-- ---- the answer, with the counts at the end

fractured_later : (tells : Bool) (b m : Content) (o p q : Counts) (input : Input) (s : Status) → NeverFall p q
    → IsFractured tells (run_of b m o p) input s → IsFractured tells (run_of b m o q) input s
fractured_later tells b m o p q input s later made =
    made_later tells (with_left b []) m _ _ _ _ input s
    (λ rose. Rose-earlier o.write_faults p.write_faults q.write_faults rose later.write_faults)
    (λ rose. Rose-earlier o.refused p.refused q.refused rose later.refused) made

outcome_later : (made made₁ : Input → Status → Type 0) (b m : Content) (o p q : Counts) (a : Answer) (s : Status)
    (top : Option (List ℕ)) → ((input : Input) (t : Status) → made₁ input t → made input t)
    → IsOutcomeBy made₁ (run_of b m o p) a s top → IsOutcomeBy made (run_of b m o q) a s top
outcome_later made made₁ b m o p q (Ok input) s top wider (x, none) = (wider input s x, none)
outcome_later made made₁ b m o p q (Err bad) s top wider h = h

pub answer_later : (made made₁ : Input → Status → Type 0) (b m : Content) (o p q : Counts) (layout deck : List ℕ)
    (s : Status) (top : Option (List ℕ)) → NeverFall p q → ((input : Input) (t : Status) → made₁ input t → made input t)
    → IsAnswerBy made₁ (run_of b m o p) layout deck s top → IsAnswerBy made (run_of b m o q) layout deck s top
answer_later made made₁ b m o p q layout deck s top later wider h = record {
  a = h.a;
  told = told_later b _ _ _ _ layout deck h.a
      (λ rose. Rose-earlier o.read_faults p.read_faults q.read_faults rose later.read_faults)
      (λ rose. Rose-earlier o.refused p.refused q.refused rose later.refused) h.told;
  outcome = outcome_later made made₁ b m o p q h.a s top wider h.outcome;
}

pub fracture_later : (tells : Bool) (b m : Content) (o p q : Counts) (layout deck : List ℕ) (s : Status) (top : Option (List ℕ)) → NeverFall p q
    → IsAnswer tells (run_of b m o p) layout deck s top → IsAnswer tells (run_of b m o q) layout deck s top
fracture_later tells b m o p q layout deck s top later h =
    answer_later (IsFractured tells (run_of b m o q)) (IsFractured tells (run_of b m o p)) b m o p q layout deck s top
    later (λ input t x. fractured_later tells b m o p q input t later x) h

-- ---- the commands

-- an accepted input, with which something was then done
pub given_answers : (made : Input → Status → Type 0) (b a : Content) (o n p : Counts) (layout deck : List ℕ)
    (input : Input) (s : Status) (top : Option (List ℕ))
    → IsInputTold b (Rose o.read_faults n.read_faults) (Rose o.refused n.refused) layout deck (Ok input) → NeverFall n p
    → made input s → top ≡ None → IsAnswerBy made (run_of b a o p) layout deck s top
given_answers made b a o n p layout deck input s top told later x none = record {
  a = Ok input;
  told = told_later b _ _ _ _ layout deck (Ok input)
      (λ rose. Rose-earlier o.read_faults n.read_faults p.read_faults rose later.read_faults)
      (λ rose. Rose-earlier o.refused n.refused p.refused rose later.refused) told;
  outcome = (x, none);
}

-- what `fracture` makes, from the content before the reading
pub fractured_from : (tells : Bool) (b c a : Content) (o n p : Counts) (input : Input) (s : Status) → n ≡ o → c ≡ with_left b []
    → IsMade tells c a (Rose n.write_faults p.write_faults) (Rose n.refused p.refused) input s → IsFractured tells (run_of b a o p) input s
fractured_from tells b c a o n p input s same e made =
    subst (λ (x : Content). IsMade tells x a (Rose o.write_faults p.write_faults) (Rose o.refused p.refused) input s) e
    (subst (λ (x : Counts). IsMade tells c a (Rose x.write_faults p.write_faults) (Rose x.refused p.refused) input s) same made)

-- a fault that is told of a depot that tells
pub fault_told : (X Y Z : Type 0) → X ⊎ (Y × Z) → X ⊎ Z
fault_told X Y Z (inl x) = inl x
fault_told X Y Z (inr (y, z)) = inr z

-- ---- `check`

all_said : (b m a : Content) (text : List ℕ) → ChangesLeftOnly b m → a ≡ with_said m text → a ≡ with_said (with_left b a.left) text
all_said b m a text rest e =
    let left : a.left ≡ m.left = ap (λ (c : Content). c.left) e in
    e ∙ ap (λ (c : Content). with_said c text) rest ∙ ap (λ (l : List ℕ). with_said (with_left b l) text) (sym left)

part_said : (b m a : Content) (text : List ℕ) → ChangesLeftOnly b m → IsPartSaid m text a → IsPartSaid (with_left b a.left) text a
part_said b m a text rest (n, few, e) = (n, few, all_said b m a (take n text) rest e)

-- files that are exact, and the report on them
pub said_checked : (b m a : Content) (o n p : Counts) (input : Input) (sums : List Sums) (s : Status) → n ≡ o → ChangesLeftOnly b m → AreAllExact b input sums
    → IsSaidSo m a (Rose n.write_faults p.write_faults) (Rose n.refused p.refused) (exact_report input sums) s → IsChecked (run_of b a o p) input s
said_checked b m a o n p input sums s same rest exact (inl (e, said)) =
    subst (λ (t : Status). IsChecked (run_of b a o p) input t) (sym e)
    (record { sums = sums; exact = exact; said = all_said b m a (exact_report input sums) rest said })
said_checked b m a o n p input sums s same rest exact (inr (inl (e, rose, part))) =
    subst (λ (t : Status). IsChecked (run_of b a o p) input t) (sym e) (
      subst (λ (x : Counts). Rose x.write_faults p.write_faults) same rose,
      record
          { sums = sums; exact = exact; part = part_said b m a (exact_report input sums) rest part },
    )
said_checked b m a o n p input sums s same rest exact (inr (inr (e, rose, part))) =
    subst (λ (t : Status). IsChecked (run_of b a o p) input t) (sym e)
    (inr (
      subst (λ (x : Counts). Rose x.refused p.refused) same rose,
      record
          { sums = sums; exact = exact; part = part_said b m a (exact_report input sums) rest part },
    ))

-- what is told of the first file that isn't exact, of the same plan
pub first_told : (told : Type 0) (p q : Planned) (b : Content) (rr : Type 0) (bad : Refusal CheckBad) → p ≡ q → told
    → IsForFault (λ fault. told → IsFirstFileFault p b rr fault) bad → IsForFault (IsFirstFileFault q b rr) bad
first_told told p q b rr (Fault fault) same is h = subst (λ (x : Planned). IsFirstFileFault x b rr fault) same (h is)
first_told told p q b rr NoMemory same is h = tt

-- what the first file that isn't exact owes
pub refused_checked : (b a : Content) (o p : Counts) (input : Input) (bad : Refusal CheckBad) → ChangesLeftOnly b a
    → IsForFault (IsFirstFileFault (plan_of input) b (Rose o.read_faults p.read_faults)) bad → IsChecked (run_of b a o p) input (checked_status bad)
refused_checked b a o p input (Fault (checks.Refused place fault)) rest h = (fault, refl, h, rest)
refused_checked b a o p input (Fault checks.ReadFault) rest h = (h, rest)
refused_checked b a o p input NoMemory rest h = inl rest

checked_output : (place : ℕ) (fault : OutputFault) → refuses_output place (fault_of fault)
checked_output place faults.Long = tt
checked_output place (faults.Bad bad) = tt
checked_output place faults.Head = tt
checked_output place (faults.Miscovered t count wanted) = tt
checked_output place (faults.TooLarge shot) = tt

pub checked_kind : (bad : Refusal CheckBad) → IsOfInput refuses_output (checked_status bad)
checked_kind (Fault (checks.Refused place fault)) = checked_output place fault
checked_kind (Fault checks.ReadFault) = tt
checked_kind NoMemory = tt

pub checked_counts : (o n : Counts) (bad : Refusal CheckBad) → FileCounts o n bad → CountsFor o n (checked_status bad)
checked_counts o n (Fault (checks.Refused place fault)) h = h
checked_counts o n (Fault checks.ReadFault) h = h
checked_counts o n NoMemory h = h
