-- At each offset a record or a fault stands, and each file has a list of records.
use Rattle.std.proofs.Common.{◌≡◌, ℕ, zero, suc, ◌+◌, ◌-◌, ◌%◌, ◌<◌, ◌≤◌, ◌⊎◌, inl, inr, List, [], ◌∷◌, length, Option, Some, None, refl, sym, ap, arith}
use Rattle.std.proofs.lemmas.Bool.{cases_lt, cases_eq}
use Rattle.std.specs.Prelude.{◌≢◌}
use Rattle.gds_record.specs.declared.kinds.ContentLength.{ContentLength}
use Rattle.gds_record.specs.declared.kinds.ContentLength.TheVariants.{Exactly, AnyEven, Points}
use Rattle.gds_record.specs.declared.kinds.Kind.{Kind}
use Rattle.gds_record.specs.declared.kinds.Kind.TheVariants.{EndLib}
use Rattle.gds_record.specs.declared.records.Record.{Record}
use Rattle.gds_record.specs.declared.records.Framing.{Framing}
use Rattle.gds_record.specs.declared.records.Framing.TheVariants as faults
use Rattle.gds_record.specs.Faults.{IsFaultAt}
use Rattle.gds_record.specs.Framing.{length_at, head_at, IsRecordLength, IsWholeRecord, IsRecordAt}
use Rattle.gds_record.specs.Heads.{head_of, content_of, kind_with_head, IsLengthAllowed}
use Rattle.gds_record.specs.Runs.{AreRecordsEndToEnd, EndsOnlyLast, IsLibraryClosed, RecordsExist}
use Rattle.gds_record.proofs.FramingLemmas.{record_or_fault}
use Rattle.gds_record.proofs.HeadLemmas.{head_of_unique, head_of-kind_with_head, no_kind}

decide_allowed : (content : ContentLength) (n : ℕ) → IsLengthAllowed content n ⊎ ¬ IsLengthAllowed content n
decide_allowed (Exactly wanted) n = cases_eq n wanted
decide_allowed AnyEven n = cases_eq (n % 2) 0
decide_allowed Points n =
    elim (cases_lt n 8) [
      | inl low ↦ inr (λ h. omega (arith, low, h.0))
      | inr enough ↦ elim (cases_eq (n % 8) 0) [ inl whole ↦ inl (enough, whole) | inr not_whole ↦ inr (λ h. not_whole h.1) ]
    ]

-- what stands at an offset
abbrev pub Answer : List ℕ → ℕ → Type 0
Answer bytes at = ((r : Record) × IsRecordAt bytes at r) ⊎ ((f : Framing) × IsFaultAt bytes at f)

with_kind : (bytes : List ℕ) (at : ℕ) → IsWholeRecord bytes at → (found : Option Kind) → kind_with_head (head_at bytes at) ≡ found
    → Answer bytes at
with_kind bytes at whole None none = inr (faults.Kind, record { whole = whole; unknown = no_kind (head_at bytes at) none })
with_kind bytes at whole (Some k) some =
    let head : head_at bytes at ≡ head_of k = sym (head_of-kind_with_head (head_at bytes at) k some) in
    elim (decide_allowed (content_of k) (length_at bytes at - 4)) [
      | inl right ↦
          let r : Record = record { kind = k; first = at + 4; next = at + length_at bytes at } in
          inl (r, record { whole = whole; head = head; content = right; first = refl; next = refl })
      | inr wrong ↦ inr (faults.Size, (k, record { whole = whole; head = head; size = wrong }))
    ]

with_length : (bytes : List ℕ) (at : ℕ) → at + 4 ≤ length bytes → IsRecordLength (length_at bytes at) → Answer bytes at
with_length bytes at begins sized =
    elim (cases_lt (length bytes) (at + length_at bytes at)) [
      | inl cut ↦ inr (faults.Short, inr (record { begins = begins; sized = sized; cut = cut }))
      | inr ends ↦
          let whole : IsWholeRecord bytes at = record { begins = begins; sized = sized; ends = ends } in
          with_kind bytes at whole (kind_with_head (head_at bytes at)) refl
    ]

with_head : (bytes : List ℕ) (at : ℕ) → at + 4 ≤ length bytes → Answer bytes at
with_head bytes at begins =
    elim (cases_lt (length_at bytes at) 4) [
      | inl low ↦ inr (faults.Length, record { begins = begins; bad = inl low })
      | inr least ↦ elim (cases_eq (length_at bytes at % 2) 1) [
        | inl odd ↦ inr (faults.Length, record { begins = begins; bad = inr odd })
        | inr not_odd ↦ with_length bytes at begins (record { least = least; even = omega (arith, not_odd) })
      ]
    ]

-- a record or a fault stands at each offset
pub some_answer : (bytes : List ℕ) (at : ℕ) → Answer bytes at
some_answer bytes at =
    elim (cases_lt (length bytes) (at + 4)) [ inl short ↦ inr (faults.Short, inl short) | inr begins ↦ with_head bytes at begins ]

-- a list of records from an offset on that stops
record ListFrom (bytes : List ℕ) (at : ℕ) : Type 0 where
  items : List Record
  to : ℕ
  run : AreRecordsEndToEnd bytes at items to
  ends : EndsOnlyLast items
  longest : IsLibraryClosed items ⊎ ((r : Record) → ¬ IsRecordAt bytes to r)

ends_cons : (r : Record) (rs : List Record) → r.kind ≢ EndLib → EndsOnlyLast rs → EndsOnlyLast (r ∷ rs)
ends_cons r [] more ends = tt
ends_cons r (s ∷ rs) more ends = (more, ends)

longest_cons : (bytes : List ℕ) (r : Record) (rs : List Record) (to : ℕ) → IsLibraryClosed rs ⊎ ((s : Record) → ¬ IsRecordAt bytes to s)
    → IsLibraryClosed (r ∷ rs) ⊎ ((s : Record) → ¬ IsRecordAt bytes to s)
longest_cons bytes r rs to (inr none) = inr none
longest_cons bytes r [] to (inl closed) = absurd closed
longest_cons bytes r (s ∷ rs) to (inl closed) = inl closed

-- no record stands there
stopped : (bytes : List ℕ) (at : ℕ) → ((r : Record) → ¬ IsRecordAt bytes at r) → ListFrom bytes at
stopped bytes at none = record { items = []; to = at; run = refl; ends = tt; longest = inr none }

-- as many steps as bytes are left are enough
list_from : (steps : ℕ) (bytes : List ℕ) (at : ℕ) → length bytes < at + steps → ListFrom bytes at
list_from zero bytes at past = stopped bytes at (λ r p. omega (arith, p.whole.begins))
list_from (suc steps) bytes at past =
    elim (some_answer bytes at) [
      | inr fault ↦ stopped bytes at (λ r p. record_or_fault bytes at r fault.0 p fault.1)
      | inl found ↦ elim (cases_eq (head_of found.0.kind) (head_of EndLib)) [
        | inl same ↦ record {
          items = found.0 ∷ [];
          to = found.0.next;
          run = (found.1, refl);
          ends = tt;
          longest = inl (head_of_unique found.0.kind EndLib same);
        }
        | inr other ↦
            let rest : ListFrom bytes found.0.next =
            list_from steps bytes found.0.next (omega (arith, found.1.next, found.1.whole.sized.least)) in
            record {
              items = found.0 ∷ rest.items;
              to = rest.to;
              run = (found.1, rest.run);
              ends = ends_cons found.0 rest.items (λ e. other (ap head_of e)) rest.ends;
              longest = longest_cons bytes found.0 rest.items rest.to rest.longest;
            }
      ]
    ]

-- each file has a list of records
pub records_exist : RecordsExist
records_exist bytes =
    let whole : ListFrom bytes 0 = list_from (length bytes + 1) bytes 0 (omega arith) in
    (whole.items, whole.to, record { run = whole.run; ends = whole.ends; longest = whole.longest })
