-- The rows of the table of answers that speak of `check`, from its answer.
use Rattle.std.proofs.Common.{◌≡◌, ◌≢◌, ◌⊎◌, inl, inr, ℕ, List, length, Option, Some, refl, sym, ap, subst, ◌∙◌, arith}
use Rattle.depot.specs.Content.{Content, ChangesLeftOnly, with_left, with_said, IsPartSaid}
use Rattle.depot.specs.Counts.{Counts, NeverFall}
use Rattle.depot.proofs.ForCallers.{Rose-earlier}
use Rattle.deck_text.specs.declared.deck.Output.{Output}
use Rattle.shot_writer.specs.declared.parts.Sums.{Sums}
use Rattle.job_input.specs.Accepted.{HoldsInput}
use Rattle.job_input.specs.Refused.{IsWanting}
use Rattle.job_input.specs.declared.reading.Input.{Input}
use Rattle.file_check.specs.declared.faults.CheckFault.{CheckFault as OutputFault}
use Rattle.file_check.specs.declared.faults.CheckFault.TheVariants as faults
use Rattle.file_check.specs.Files.{IsFirstFileFault}
use Rattle.file_check.specs.declared.faults.CheckBad.TheVariants as bads
use Rattle.file_check.proofs.ForCallers.{Class, Missing, class_of, same_class, fault_class, AllClasses, IsFirstAt, no_first, one_first, all_classes}
use Rattle.file_check.proofs.ForCallers.{files_before, first_before, refused_file, fault_first, MissingFile, missing_file, missing_first}
use Rattle.mdp_job.specs.Runs.{Run, run_of, ReadRose, WriteRose, ComesExactlyWhere}
use Rattle.mdp_job.specs.Denoted.{plan_of}
use Rattle.mdp_job.specs.Faults.{fault_of}
use Rattle.mdp_job.specs.Headline.{AreExact}
use Rattle.mdp_job.specs.Certificates.{IsOutputRefusedAt, HasNoFile, exact_report}
use Rattle.mdp_job.specs.Checking.{AreAllExact, IsHalfReported, IsAllReported, IsChecked, IsCheckAnswer, HasOutputs}
use Rattle.job_report.specs.declared.faults.CheckFault.{CheckFault}
use Rattle.job_report.specs.declared.faults.CheckFault.TheVariants as all
use Rattle.job_report.specs.declared.status.Status.{Status}
use Rattle.job_report.specs.declared.status.Status.TheVariants as answers
use Rattle.mdp_job.proofs.Rows.{KeepsInput, done_given, write_given, no_given, read_cause, input_due}
use Rattle.mdp_job.proofs.Made.{answer_later}
use Rattle.mdp_job.proofs.Exactness.{before_exact, all_exact, classes_before, classes_all}

pub checked_keeps : (r : Run) → KeepsInput (IsChecked r)
checked_keeps r = record { deck = λ input fault x. x; layout = λ input fault x. x }

-- ---- the faults of outputs, among all

-- the fault of an output's file that this is, if it is one
output_fault : OutputFault → CheckFault → OutputFault
output_fault other all.Long = faults.Long
output_fault other (all.Bad bad) = faults.Bad bad
output_fault other all.Head = faults.Head
output_fault other (all.Miscovered t count wanted) = faults.Miscovered t count wanted
output_fault other (all.TooLarge shot) = faults.TooLarge shot
output_fault other (all.Pack bad) = other
output_fault other (all.Wide k) = other
output_fault other (all.Stripes value) = other

back : (other fault : OutputFault) → output_fault other (fault_of fault) ≡ fault
unfolding output_fault
back other faults.Long = refl
back other (faults.Bad bad) = refl
back other faults.Head = refl
back other (faults.Miscovered t count wanted) = refl
back other (faults.TooLarge shot) = refl

same_of : (fault other : OutputFault) → fault_of fault ≡ fault_of other → fault ≡ other
same_of fault other e = sym (back fault fault) ∙ ap (output_fault fault) e ∙ back fault other

-- ---- later, and from the content before the reading

half_before : (before now after : Content) (input : Input) → ChangesLeftOnly before now → IsHalfReported now after input → IsHalfReported before after input
half_before before now after input e h = record {
  sums = h.sums;
  exact = files_before (plan_of input) (length input.deck.outputs) before now h.sums e h.exact;
  part = subst (λ (c : Content). IsPartSaid (with_left c after.left) (exact_report input h.sums) after) e h.part;
}

all_before : (before now after : Content) (input : Input) → ChangesLeftOnly before now → IsAllReported now after input → IsAllReported before after input
all_before before now after input e h = record {
  sums = h.sums;
  exact = files_before (plan_of input) (length input.deck.outputs) before now h.sums e h.exact;
  said = subst (λ (c : Content). after ≡ with_said (with_left c after.left) (exact_report input h.sums)) e h.said;
}

left_before : (before now after : Content) → ChangesLeftOnly before now → ChangesLeftOnly now after → ChangesLeftOnly before after
left_before before now after e h = h ∙ ap (λ (c : Content). with_left c after.left) e

pub checked_before : (before now after : Content) (o p q : Counts) (input : Input) (s : Status)
    → ChangesLeftOnly before now → NeverFall p q → IsChecked (run_of now after o p) input s → IsChecked (run_of before after o q) input s
checked_before before now after o p q input answers.Done e later x = all_before before now after input e x
checked_before before now after o p q input answers.Words e later x = x
checked_before before now after o p q input (answers.Deck fault) e later x = x
checked_before before now after o p q input (answers.Layout fault) e later x = x
checked_before before now after o p q input answers.ReadFault e later (x, rest) = (
  first_before (plan_of input) before now _ _ bads.ReadFault e
      (λ rose. Rose-earlier o.read_faults p.read_faults q.read_faults rose later.read_faults) x,
  left_before before now after e rest,
)
checked_before before now after o p q input answers.WriteFault e later (rose, x) =
    (Rose-earlier o.write_faults p.write_faults q.write_faults rose later.write_faults, half_before before now after input e x)
checked_before before now after o p q input answers.NoMemory e later (inl rest) = inl (left_before before now after e rest)
checked_before before now after o p q input answers.NoMemory e later (inr (rose, x)) =
    inr (Rose-earlier o.refused p.refused q.refused rose later.refused, half_before before now after input e x)
checked_before before now after o p q input (answers.No place fault) e later (of, is, x, rest) = (
  of,
  is,
  first_before (plan_of input) before now _ _ (bads.Refused place of) e
      (λ rose. Rose-earlier o.read_faults p.read_faults q.read_faults rose later.read_faults) x,
  left_before before now after e rest,
)

pub check_later : (b m : Content) (o p q : Counts) (layout deck : List ℕ) (s : Status) (top : Option (List ℕ)) → NeverFall p q
    → IsCheckAnswer (run_of b m o p) layout deck s top → IsCheckAnswer (run_of b m o q) layout deck s top
check_later b m o p q layout deck s top later h =
    answer_later (IsChecked (run_of b m o q)) (IsChecked (run_of b m o p)) b m o p q layout deck s top later
    (λ input t x. checked_before b b m o p q input t refl later x) h

-- from the content before the reading
pub checked_from : (before now after : Content) (o n p : Counts) (input : Input) (s : Status) → n ≡ o
    → ChangesLeftOnly before now → IsChecked (run_of now after n p) input s → IsChecked (run_of before after o p) input s
checked_from before now after o n p input s same e x =
    subst (λ (c : Counts). IsChecked (run_of before after c p) input s) same
    (checked_before before now after n p p input s e (record { read_faults = omega (arith); write_faults = omega (arith); refused = omega (arith) }) x)

-- the outputs that the line of a refused file needs
pub outputs_told : (r : Run) (layout deck : List ℕ) (input : Input) (s : Status) (outputs : Option (List Output))
    → HoldsInput r.before layout deck input → IsChecked r input s → outputs ≡ Some input.deck.outputs
    → HasOutputs r.before layout deck s outputs
outputs_told r layout deck input s outputs holds x e place fault is =
    let refused : IsChecked r input (answers.No place fault) = subst (λ (t : Status). IsChecked r input t) is x in
    let f = refused_file (plan_of input) r.before (ReadRose r) place refused.0 refused.2 in
    (f.output.file, record { input = input; holds = holds; output = f.output; at = f.at; file_is = refl }, e)

-- ---- the first file that isn't exact

class_there : (fault : OutputFault) → Missing ≡ class_of fault → ⊥
class_there faults.Long e = cc
class_there (faults.Bad bad) e = cc
class_there faults.Head e = cc
class_there (faults.Miscovered t count wanted) e = cc
class_there (faults.TooLarge shot) e = cc

refused_first : (c : Content) (layout deck : List ℕ) (place : ℕ) (fault : OutputFault)
    (h : IsOutputRefusedAt c layout deck place fault) → IsFirstAt (plan_of h.input) c place (class_of fault)
refused_first c layout deck place fault h =
    let class = fault_class (plan_of h.input) place h.output c fault h.fault_is in
    record { before = classes_before h.input c layout deck place h.holds h.before; output = h.output; at = h.at; class = class.0; not_exact = class.1 }

nothing_first : (c : Content) (layout deck : List ℕ) (h : HasNoFile c layout deck) → IsFirstAt (plan_of h.input) c h.place Missing
nothing_first c layout deck h = record {
  before = classes_before h.input c layout deck h.place h.holds h.before;
  output = h.output;
  at = h.at;
  class = h.missing;
  not_exact = λ e. let no : ⊥ = cc in no;
}

module _ (r : Run) (input : Input) where
  -- all files are exact, so none is the first that isn't
  none_first : (place : ℕ) (x : Class) (sums : List Sums) → AreAllExact r.before input sums → IsFirstAt (plan_of input) r.before place x → ⊥
  none_first place x sums all first =
      no_first (plan_of input) r.before place x (all_classes (plan_of input) r.before (length input.deck.outputs) sums all) first

  missing_refused : (place : ℕ) (fault : OutputFault) → MissingFile (plan_of input) r.before → IsFirstAt (plan_of input) r.before place (class_of fault) → ⊥
  missing_refused place fault m first =
      class_there fault (one_first (plan_of input) r.before m.place place Missing (class_of fault) (missing_first (plan_of input) r.before m) first).1

  pub fault_due : (s : Status) (place : ℕ) (fault : OutputFault) → IsChecked r input s → IsFirstAt (plan_of input) r.before place (class_of fault)
      → (s ≡ answers.No place (fault_of fault)) ⊎ (s ≡ answers.NoMemory) ⊎ ((s ≡ answers.ReadFault) × ReadRose r)
  fault_due answers.Done place fault x first = absurd (none_first place (class_of fault) x.sums x.exact first)
  fault_due answers.Words place fault x first = absurd x
  fault_due (answers.Deck other) place fault x first = absurd x
  fault_due (answers.Layout other) place fault x first = absurd x
  fault_due answers.ReadFault place fault (x, rest) first =
      elim (missing_file (plan_of input) r.before (ReadRose r) x) [
        | inl rose ↦ inr (inr (refl, rose))
        | inr m ↦ absurd (missing_refused place fault m first)
      ]
  fault_due answers.WriteFault place fault (rose, x) first = absurd (none_first place (class_of fault) x.sums x.exact first)
  fault_due answers.NoMemory place fault x first = inr (inl refl)
  fault_due (answers.No other bad) place fault (of, is, x, rest) first =
      let one = one_first (plan_of input) r.before other place (class_of of) (class_of fault)
      (fault_first (plan_of input) r.before (ReadRose r) other of x) first in
      let same : of ≡ fault = same_class of fault one.1 in
      inl (ap (λ (k : ℕ). answers.No k bad) one.0 ∙ ap (answers.No place) (is ∙ ap fault_of same))

  pub nothing_due : (s : Status) (place : ℕ) → IsChecked r input s → IsFirstAt (plan_of input) r.before place Missing
      → (s ≡ answers.ReadFault) ⊎ (s ≡ answers.NoMemory)
  nothing_due answers.Done place x first = absurd (none_first place Missing x.sums x.exact first)
  nothing_due answers.Words place x first = absurd x
  nothing_due (answers.Deck other) place x first = absurd x
  nothing_due (answers.Layout other) place x first = absurd x
  nothing_due answers.ReadFault place x first = inl refl
  nothing_due answers.WriteFault place (rose, x) first = absurd (none_first place Missing x.sums x.exact first)
  nothing_due answers.NoMemory place x first = inr refl
  nothing_due (answers.No other bad) place (of, is, x, rest) first =
      let one = one_first (plan_of input) r.before place other Missing (class_of of) first (fault_first (plan_of input) r.before (ReadRose r) other of x) in
      absurd (class_there of one.1)

  pub exact_due : (s : Status) → IsChecked r input s → AllClasses (plan_of input) r.before (length input.deck.outputs)
      → (ReadRose r → ⊥) → (WriteRose r → ⊥) → s ≢ answers.NoMemory → s ≡ answers.Done
  exact_due answers.Done x all reads writes memory = refl
  exact_due answers.Words x all reads writes memory = absurd x
  exact_due (answers.Deck other) x all reads writes memory = absurd x
  exact_due (answers.Layout other) x all reads writes memory = absurd x
  exact_due answers.ReadFault (x, rest) all reads writes memory =
      elim (missing_file (plan_of input) r.before (ReadRose r) x) [
        | inl rose ↦ absurd (reads rose)
        | inr m ↦ absurd (no_first (plan_of input) r.before m.place Missing all (missing_first (plan_of input) r.before m))
      ]
  exact_due answers.WriteFault (rose, x) all reads writes memory = absurd (writes rose)
  exact_due answers.NoMemory x all reads writes memory = absurd (memory refl)
  exact_due (answers.No place fault) (of, is, x, rest) all reads writes memory =
      absurd (no_first (plan_of input) r.before place (class_of of) all (fault_first (plan_of input) r.before (ReadRose r) place of x))

-- ---- the rows

module _ (r : Run) (layout deck : List ℕ) (s : Status) (top : Option (List ℕ)) (h : IsCheckAnswer r layout deck s top) where
  refused_only : (place : ℕ) (fault : OutputFault) → s ≡ answers.No place (fault_of fault) → IsOutputRefusedAt r.before layout deck place fault
  refused_only place fault e =
      let given = no_given (IsChecked r) r layout deck s top place (fault_of fault) h e in
      let x : IsChecked r given.input (answers.No place (fault_of fault)) = subst (λ (t : Status). IsChecked r given.input t) e given.is in
      let same : x.0 ≡ fault = same_of x.0 fault (sym x.1) in
      let first = subst (λ (f : OutputFault). IsFirstFileFault (plan_of given.input) r.before (ReadRose r) (bads.Refused place f)) same x.2 in
      let f = refused_file (plan_of given.input) r.before (ReadRose r) place fault first in
      record {
        input = given.input;
        holds = given.holds;
        before = before_exact given.input r.before place f.sums f.before;
        output = f.output;
        at = f.at;
        fault_is = f.fault_is;
      }

  pub file_refused : (place : ℕ) (fault : OutputFault)
      → ComesExactlyWhere (ReadRose r) s (answers.No place (fault_of fault)) (IsOutputRefusedAt r.before layout deck place fault)
  file_refused place fault = record {
    only = refused_only place fault;
    whenever = λ cause. elim (input_due (IsChecked r) r layout deck s top h cause.input cause.holds) [
      | inl x ↦ fault_due r cause.input s place fault x (refused_first r.before layout deck place fault cause)
      | inr rest ↦ inr rest
    ];
  }

  -- all files are exact, with these sums
  pub record Exactly : Type 0 where
    pub input : Input
    pub holds : HoldsInput r.before layout deck input
    pub reported : IsAllReported r.before r.after input

  pub done_exactly : s ≡ answers.Done → Exactly
  done_exactly e =
      let given = done_given (IsChecked r) r layout deck s top h e in
      record { input = given.input; holds = given.holds; reported = subst (λ (t : Status). IsChecked r given.input t) e given.is }

  pub certified : s ≡ answers.Done → (input : Input) × HoldsInput r.before layout deck input × AreExact r.before input
  certified e = let x = done_exactly e in (x.input, x.holds, all_exact x.input r.before x.reported.sums x.reported.exact)

  pub exact_where : (ReadRose r → ⊥) → (WriteRose r → ⊥) → s ≢ answers.NoMemory → (input : Input)
      → HoldsInput r.before layout deck input → AreExact r.before input → s ≡ answers.Done
  exact_where reads writes memory input holds exact =
      elim (input_due (IsChecked r) r layout deck s top h input holds) [
        | inl x ↦ exact_due r input s x (classes_all input r.before layout deck holds exact) reads writes memory
        | inr (inl e) ↦ absurd (memory e)
        | inr (inr (e, rose)) ↦ absurd (reads rose)
      ]

  pub check_cause : s ≡ answers.ReadFault → ReadRose r ⊎ IsWanting r.before layout deck ⊎ HasNoFile r.before layout deck
  check_cause e =
      elim (read_cause (IsChecked r) r layout deck s top h e) [
        | inl rose ↦ inl rose
        | inr (inl want) ↦ inr (inl want)
        | inr (inr (input, holds, x)) ↦ elim (missing_file (plan_of input) r.before (ReadRose r) x.0) [
          | inl rose ↦ inl rose
          | inr m ↦ inr (inr (record {
            input = input;
            holds = holds;
            place = m.place;
            before = before_exact input r.before m.place m.sums m.before;
            output = m.output;
            at = m.at;
            missing = m.missing;
          }))
        ]
      ]

  pub no_file_due : HasNoFile r.before layout deck → (s ≡ answers.ReadFault) ⊎ (s ≡ answers.NoMemory)
  no_file_due none =
      elim (input_due (IsChecked r) r layout deck s top h none.input none.holds) [
        | inl x ↦ nothing_due r none.input s none.place x (nothing_first r.before layout deck none)
        | inr (inl e) ↦ inr e
        | inr (inr (e, rose)) ↦ inl e
      ]

  pub check_write : s ≡ answers.WriteFault → WriteRose r × (input : Input) × HoldsInput r.before layout deck input × AreExact r.before input
  check_write e =
      let given = write_given (IsChecked r) r layout deck s top h e in
      let x : IsChecked r given.input answers.WriteFault = subst (λ (t : Status). IsChecked r given.input t) e given.is in
      (x.0, given.input, given.holds, all_exact given.input r.before x.1.sums x.1.exact)
