-- From the answer to shots to that to bytes, and from files to more files.
use Rattle.std.proofs.lemmas.Int.{ints, by_lt_z}
use Rattle.std.proofs.Common.{pos, ◌≡◌, ℕ, ◌+◌, ◌<◌, List, [], ◌∷◌, ◌++◌, length, length-append, Option, Some}
use Rattle.std.proofs.Common.{None, Result, Ok, Err, IfOk, IsSomeAnd, slice_get, slice_index_or, refl, sym, ap, ◌∙◌}
use Rattle.std.proofs.Common.{arith}
use Rattle.std.proofs.lemmas.Option.{slice_get_within, get_or_from_slice_get, slice_get-get_or}
use Rattle.std.proofs.lemmas.List.{get_or_push, get_or_append_left}
use mathlib.Core.Logic.{inl, inr}
use Rattle.depot.specs.Content.{Content, ChangesLeftOnly, IsLongerThan, IsNotThere, with_left}
use Rattle.deck_text.specs.declared.deck.Output.{Output}
use Rattle.deck_plan.specs.Plans.{Planned}
use Rattle.shot_reader.specs.declared.reading.ShotFile.{ShotFile}
use Rattle.shot_writer.specs.declared.parts.Sums.{Sums}
use Rattle.file_check.specs.Certificates.{IsCertified}
use Rattle.file_check.specs.Files.{HoldsShotBytes, HasHeadOf, IsTextOf, AreSumsOf, IsExactText, IsExactFile, IsCheckFaultOf}
use Rattle.file_check.specs.Files.{IsFileFault, OfOutput, AreExactFiles, IsFirstFileFault}
use Rattle.file_check.specs.Judgements.{data_of, IsShotsFault, IsBytesFault}
use Rattle.file_check.specs.declared.faults.CheckFault.{CheckFault}
use Rattle.file_check.specs.declared.faults.CheckFault.TheVariants as faults
use Rattle.file_check.specs.declared.faults.CheckBad.{CheckBad}
use Rattle.file_check.specs.declared.faults.CheckBad.TheVariants as answers

pub both_ok : {X E : Type 0} (r : Result X E) (P Q R : X → Type 0) → ((x : X) → P x → Q x → R x) → IfOk r P → IfOk r Q → IfOk r R
both_ok (Ok x) P Q R f p q = f x p q
both_ok (Err e) P Q R f p q = tt

module _ (p : Planned) (k : ℕ) (output : Output) (bytes : List ℕ) (file : ShotFile)
    (text : IsTextOf bytes (data_of file)) (head : HasHeadOf p.deck output (data_of file)) where
  pub bytes_fault : (bad : CheckBad) → IsShotsFault p k file.shots bad → IsBytesFault p k output bytes bad
  bytes_fault (answers.Refused place faults.Long) h = h
  bytes_fault (answers.Refused place (faults.Bad bad)) h = absurd h
  bytes_fault (answers.Refused place faults.Head) h = absurd h
  bytes_fault (answers.Refused place (faults.Miscovered t count wanted)) h = (h.0, record { s = data_of file; text = text; head = head; holds_of = h.1 })
  bytes_fault (answers.Refused place (faults.TooLarge i)) h = (h.0, record { s = data_of file; text = text; head = head; holds_of = h.1 })
  bytes_fault answers.ReadFault h = h

  pub exact_text : (sums : Sums) → AreSumsOf file.shots sums → IsCertified p k file.shots → IsExactText p k output bytes sums
  exact_text sums are certified = record { s = data_of file; text = text; head = head; certified = certified; sums_are = are }

-- of the output of a place something holds
pub of_output : (p : Planned) (k : ℕ) (output : Output) (holds : Output → Type 0) → slice_get p.deck.outputs k ≡ Some output → holds output → OfOutput p k holds
of_output p k output holds at h = rw at h

pub output_weaker : (o : Option Output) (P Q : Output → Type 0) → ((output : Output) → P output → Q output) → IsSomeAnd o P → IsSomeAnd o Q
output_weaker (Some output) P Q f h = f output h
output_weaker None P Q f h = h

-- ---- a depot of which only what is left has changed holds the same

holds_before : (before now : Content) (name bytes : List ℕ) → ChangesLeftOnly before now → HoldsShotBytes now name bytes → HoldsShotBytes before name bytes
holds_before before now name bytes e h = let held = h.held in record { held = rw e at held; short = h.short }

longer_before : (before now : Content) (name : List ℕ) → ChangesLeftOnly before now → IsLongerThan 268435456 now name → IsLongerThan 268435456 before name
longer_before before now name e h = rw e at h

missing_before : (before now : Content) (name : List ℕ) → ChangesLeftOnly before now → IsNotThere now name → IsNotThere before name
missing_before before now name e h = rw e at h

pub exact_before : (p : Planned) (k : ℕ) (before now : Content) (sums : Sums) → ChangesLeftOnly before now
    → OfOutput p k (λ output. IsExactFile p k output now sums) → OfOutput p k (λ output. IsExactFile p k output before sums)
exact_before p k before now sums e h =
    output_weaker (slice_get p.deck.outputs k) (λ output. IsExactFile p k output now sums) (λ output. IsExactFile p k output before sums)
    (λ output file. (file.0, holds_before before now output.file file.0 e file.1, file.2)) h

cause_before : (p : Planned) (k : ℕ) (output : Output) (before now : Content) (fault : CheckFault)
    → ChangesLeftOnly before now → IsCheckFaultOf p k output now fault → IsCheckFaultOf p k output before fault
cause_before p k output before now faults.Long e h = longer_before before now output.file e h
cause_before p k output before now (faults.Bad bad) e h = (h.0, holds_before before now output.file h.0 e h.1, h.2)
cause_before p k output before now faults.Head e h = (h.0, holds_before before now output.file h.0 e h.1, h.2)
cause_before p k output before now (faults.Miscovered t count wanted) e h = (h.0, holds_before before now output.file h.0 e h.1, h.2)
cause_before p k output before now (faults.TooLarge i) e h = (h.0, holds_before before now output.file h.0 e h.1, h.2)

file_before : (p : Planned) (k : ℕ) (output : Output) (before now : Content) (old new : Type 0) (bad : CheckBad)
    → ChangesLeftOnly before now → (old → new) → IsFileFault p k output now old bad
    → IsFileFault p k output before new bad
file_before p k output before now old new (answers.Refused place fault) e f h = (h.0, cause_before p k output before now fault e h.1)
file_before p k output before now old new answers.ReadFault e f h =
    elim h [ inl rose ↦ inl (f rose) | inr missing ↦ inr (missing_before before now output.file e missing) ]

pub fault_before : (p : Planned) (k : ℕ) (before now : Content) (old new : Type 0) (bad : CheckBad) → ChangesLeftOnly before now → (old → new)
    → OfOutput p k (λ output. IsFileFault p k output now old bad) → OfOutput p k (λ output. IsFileFault p k output before new bad)
fault_before p k before now old new bad e f h =
    output_weaker (slice_get p.deck.outputs k) (λ output. IsFileFault p k output now old bad) (λ output. IsFileFault p k output before new bad)
    (λ output. file_before p k output before now old new bad e f) h

pub files_before : (p : Planned) (n : ℕ) (before now : Content) (sums : List Sums) → ChangesLeftOnly before now
    → AreExactFiles p now n sums → AreExactFiles p before n sums
files_before p n before now sums e h = record { count = h.count; each = λ k sum at. exact_before p k before now sum e (h.each k sum at) }

pub first_before : (p : Planned) (before now : Content) (old new : Type 0) (bad : CheckBad)
    → ChangesLeftOnly before now → (old → new) → IsFirstFileFault p now old bad → IsFirstFileFault p before new bad
first_before p before now old new bad e f h = record {
  place = h.place;
  sums = h.sums;
  before = files_before p h.place before now h.sums e h.before;
  fault = fault_before p h.place before now old new bad e f h.fault;
}

pub left_again : (a b c : Content) → ChangesLeftOnly a b → ChangesLeftOnly b c → ChangesLeftOnly a c
left_again a b c e f = f ∙ ap (λ (x : Content). with_left x c.left) e

pub counted : (sums after : List Sums) (sum : Sums) (n : ℕ) → after ≡ sums ++ sum ∷ [] → length sums ≡ n → length after ≡ n + 1
counted sums after sum n pushed count = let lengths = length-append sums (sum ∷ []) in rw pushed (omega (arith, lengths, count))

-- one file more
pub one_file_more : (p : Planned) (c : Content) (n : ℕ) (sums after : List Sums) (sum : Sums)
    → AreExactFiles p c n sums → OfOutput p n (λ output. IsExactFile p n output c sum) → after ≡ sums ++ sum ∷ []
    → AreExactFiles p c (n + 1) after
one_file_more p c n sums after sum h own pushed =
    let lengths = length-append sums (sum ∷ []) in
    let count = h.count in
    rw pushed (record {
      count = omega (arith, lengths, count);
      each = λ k other at. by_place k other at (slice_get_within (sums ++ sum ∷ []) k other at);
    })
  where
    last : (k : ℕ) (other : Sums) → slice_get (sums ++ sum ∷ []) k ≡ Some other → k ≡ n → OfOutput p k (λ output. IsExactFile p k output c other)
    last k other at e =
        let is : sum ≡ other = sym (get_or_push sums sum other k (let count = h.count in omega (arith, count, e)))
        ∙ get_or_from_slice_get (sums ++ sum ∷ []) k other other at in
        rw (e, ← is) own

    earlier : (k : ℕ) (other : Sums) → slice_get (sums ++ sum ∷ []) k ≡ Some other → k < length sums → OfOutput p k (λ output. IsExactFile p k output c other)
    earlier k other at lt =
        let is : slice_index_or sums k other ≡ other = sym (get_or_append_left sums (sum ∷ []) other k lt)
        ∙ get_or_from_slice_get (sums ++ sum ∷ []) k other other at in
        h.each k other (slice_get-get_or sums k other lt ∙ ap Some is)

    by_place : (k : ℕ) (other : Sums) → slice_get (sums ++ sum ∷ []) k ≡ Some other → k < length (sums ++ sum ∷ [])
        → OfOutput p k (λ output. IsExactFile p k output c other)
    by_place k other at within =
        by_lt_z (pos k) (pos n)
        (λ lt. earlier k other at (let count = h.count in omega (arith, ints, lt, count)))
        (λ ge. last k other at (let count = h.count in let lengths = length-append sums (sum ∷ []) in omega (arith, ints, ge, count, lengths, within)))
