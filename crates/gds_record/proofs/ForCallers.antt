-- What a crate that reads the records of a file may cite.
use Rattle.std.proofs.Common.{◌≡◌, ℕ, ◌+◌, ◌-◌, ◌^◌, ◌<◌, ◌≤◌, ◌⊎◌, inl, inr, List, [], ◌∷◌, ◌++◌, length, drop, slice_index, refl, sym, ap, subst, ◌∙◌, arith}
use Rattle.std.proofs.lemmas.List.{get_or-drop}
use Rattle.std.specs.Prelude.{◌≢◌}
use Rattle.byteorder.specs.Numbers.{big_from-lt}
use Rattle.gds_record.specs.declared.kinds.Kind.TheVariants.{EndLib}
use Rattle.gds_record.specs.declared.records.Record.{Record}
use Rattle.gds_record.specs.Framing.{IsRecordAt}
use Rattle.gds_record.specs.Heads.{content_of, IsLengthAllowed}
use Rattle.gds_record.specs.Numbers.{number_at}
use Rattle.gds_record.specs.Runs.{AreRecordsEndToEnd, NoRecordEnds, EndsOnlyLast, IsLibraryClosed, IsRecordsOf, RecordsUnique}
pub use Rattle.gds_record.proofs.FramingLemmas.{record_unique, record_or_fault, fault_unique}
pub use Rattle.gds_record.proofs.RealLemmas.{real_value_unique}
pub use Rattle.gds_record.proofs.RecordLists.{Answer, some_answer}

-- ---- a record

-- a record has at least its head
pub record_onward : (bytes : List ℕ) (at : ℕ) (r : Record) → IsRecordAt bytes at r → at + 4 ≤ r.next
record_onward bytes at r p = omega (arith, p.next, p.whole.sized.least)

-- a record lies within the bytes
pub record_within : (bytes : List ℕ) (at : ℕ) (r : Record) → IsRecordAt bytes at r → r.next ≤ length bytes
record_within bytes at r p = omega (arith, p.next, p.whole.ends)

-- the content has the length of the kind
pub content_allowed : (bytes : List ℕ) (at : ℕ) (r : Record) → IsRecordAt bytes at r
    → IsLengthAllowed (content_of r.kind) (r.next - r.first)
content_allowed bytes at r p =
    let size : r.next - r.first ≡ number_at 2 bytes at - 4 = omega (arith, p.first, p.next) in
    subst (IsLengthAllowed (content_of r.kind)) (sym size) p.content

-- bytes give a number below the power of 256
pub number_at-lt : (n : ℕ) (bytes : List ℕ) (at : ℕ) → ((i : ℕ) → slice_index bytes i < 256) → number_at n bytes at < 256 ^ n
unfolding number_at
number_at-lt n bytes at small = big_from-lt 0 n (drop at bytes) (λ i. rw get_or-drop (small (at + i)))

-- ---- a run of records

-- one more record
pub run_push : (bytes : List ℕ) (from : ℕ) (rs : List Record) (at : ℕ) (r : Record) → AreRecordsEndToEnd bytes from rs at → IsRecordAt bytes at r
    → AreRecordsEndToEnd bytes from (rs ++ r ∷ []) r.next
run_push bytes from [] at r run p = (subst (λ start. IsRecordAt bytes start r) (sym run) p, refl)
run_push bytes from (s ∷ rs) at r run p = (run.0, run_push bytes s.next rs at r run.1 p)

-- one more record that doesn't end the library
pub none_ends-push : (rs : List Record) (r : Record) → NoRecordEnds rs → r.kind ≢ EndLib → NoRecordEnds (rs ++ r ∷ [])
none_ends-push [] r none more = (more, tt)
none_ends-push (s ∷ rs) r none more = (none.0, none_ends-push rs r none.1 more)

-- a last record after records that don't end the library
pub ends_only_last-push : (rs : List Record) (r : Record) → NoRecordEnds rs → EndsOnlyLast (rs ++ r ∷ [])
ends_only_last-push [] r none = tt
ends_only_last-push (s ∷ []) r none = (none.0, tt)
ends_only_last-push (s ∷ t ∷ rs) r none = (none.0, ends_only_last-push (t ∷ rs) r none.1)

pub closed_push : (rs : List Record) (r : Record) → r.kind ≡ EndLib → IsLibraryClosed (rs ++ r ∷ [])
closed_push [] r end = end
closed_push (s ∷ []) r end = end
closed_push (s ∷ t ∷ rs) r end = closed_push (t ∷ rs) r end

-- the records of a file whose library ends
pub records_closed : (bytes : List ℕ) (rs : List Record) (at : ℕ) (r : Record) → AreRecordsEndToEnd bytes 0 rs at → NoRecordEnds rs
    → IsRecordAt bytes at r → r.kind ≡ EndLib → IsRecordsOf bytes (rs ++ r ∷ []) r.next
records_closed bytes rs at r run none p end = record {
  run = run_push bytes 0 rs at r run p;
  ends = ends_only_last-push rs r none;
  longest = inl (closed_push rs r end);
}

-- ---- the records of a file

-- two lists of records from one offset on are the same, where each of them stops
same_records : (bytes : List ℕ) (from : ℕ) (rs ss : List Record) (to up : ℕ)
    → AreRecordsEndToEnd bytes from rs to → EndsOnlyLast rs → IsLibraryClosed rs ⊎ ((r : Record) → ¬ IsRecordAt bytes to r)
    → AreRecordsEndToEnd bytes from ss up → EndsOnlyLast ss → IsLibraryClosed ss ⊎ ((r : Record) → ¬ IsRecordAt bytes up r)
    → (rs ≡ ss) × (to ≡ up)
same_records bytes from [] [] to up p ends stop q ends' stop' = (refl, sym p ∙ q)
same_records bytes from [] (s ∷ ss) to up p ends (inl closed) q ends' stop' = absurd closed
same_records bytes from [] (s ∷ ss) to up p ends (inr none) q ends' stop' =
    absurd (none s (subst (λ at. IsRecordAt bytes at s) p q.0))
same_records bytes from (r ∷ rs) [] to up p ends stop q ends' (inl closed) = absurd closed
same_records bytes from (r ∷ rs) [] to up p ends stop q ends' (inr none) =
    absurd (none r (subst (λ at. IsRecordAt bytes at r) q p.0))
same_records bytes from (r ∷ []) (s ∷ []) to up p ends stop q ends' stop' =
    let first : r ≡ s = record_unique bytes from r s p.0 q.0 in
    let next : r.next ≡ s.next = ap (λ t. t.next) first in
    (cc, sym p.1 ∙ next ∙ q.1)
same_records bytes from (r ∷ []) (s ∷ t ∷ ss) to up p ends (inl closed) q ends' stop' =
    let first : r ≡ s = record_unique bytes from r s p.0 q.0 in
    absurd (ends'.0 (subst (λ x. x.kind ≡ EndLib) first closed))
same_records bytes from (r ∷ []) (s ∷ t ∷ ss) to up p ends (inr none) q ends' stop' =
    let first : r ≡ s = record_unique bytes from r s p.0 q.0 in
    let next : s.next ≡ to = sym (ap (λ x. x.next) first) ∙ p.1 in
    absurd (none t (subst (λ at. IsRecordAt bytes at t) next q.1.0))
same_records bytes from (r ∷ t ∷ rs) (s ∷ []) to up p ends stop q ends' (inl closed) =
    let first : s ≡ r = record_unique bytes from s r q.0 p.0 in
    absurd (ends.0 (subst (λ x. x.kind ≡ EndLib) first closed))
same_records bytes from (r ∷ t ∷ rs) (s ∷ []) to up p ends stop q ends' (inr none) =
    let first : s ≡ r = record_unique bytes from s r q.0 p.0 in
    let next : r.next ≡ up = sym (ap (λ x. x.next) first) ∙ q.1 in
    absurd (none t (subst (λ at. IsRecordAt bytes at t) next p.1.0))
same_records bytes from (r ∷ t ∷ rs) (s ∷ u ∷ ss) to up p ends stop q ends' stop' =
    let first : r ≡ s = record_unique bytes from r s p.0 q.0 in
    let rest = same_records bytes s.next (t ∷ rs) (u ∷ ss) to up
    (subst (λ x. AreRecordsEndToEnd bytes x.next (t ∷ rs) to) first p.1) ends.1 stop q.1 ends'.1 stop' in
    let tails : t ∷ rs ≡ u ∷ ss = rest.0 in
    (cc, rest.1)

-- a file has one list of records
pub records_unique : RecordsUnique
records_unique bytes rs ss to up p q = same_records bytes 0 rs ss to up p.run p.ends p.longest q.run q.ends q.longest
