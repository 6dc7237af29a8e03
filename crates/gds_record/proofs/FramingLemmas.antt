-- One record or one fault stands at an offset.
use Rattle.std.proofs.Common.{◌≡◌, ℕ, ◌+◌, ◌-◌, ◌%◌, ◌<◌, ◌≤◌, ◌⊎◌, inl, inr, List, length, Result, Ok, Err, ◌↔◌, refl, sym, ap, subst, ◌∙◌, arith}
use Rattle.gds_record.specs.declared.kinds.Kind.{Kind}
use Rattle.gds_record.specs.declared.kinds.ContentLength.{ContentLength}
use Rattle.gds_record.specs.declared.records.Record.{Record}
use Rattle.gds_record.specs.declared.records.Framing.{Framing}
use Rattle.gds_record.specs.declared.records.Framing.TheVariants as faults
use Rattle.gds_record.specs.Faults.{HasNoHead, HasBadLength, IsCutOff, HasBadContent, IsFaultAt}
use Rattle.gds_record.specs.Framing.{length_at, head_at, IsRecordLength, IsWholeRecord, IsRecordAt}
use Rattle.gds_record.specs.Heads.{head_of, content_of, IsLengthAllowed}
use Rattle.gds_record.proofs.HeadLemmas.{head_of_unique}
use Rattle.std.specs.Prelude.{◌≢◌}

same_record : (j k : Kind) (a b c d : ℕ) → j ≡ k → a ≡ b → c ≡ d
    → (let r : Record = record { kind = j; first = a; next = c } in r) ≡ record { kind = k; first = b; next = d }
same_record j k a b c d kinds firsts nexts = cc

-- at most one record stands at an offset
pub record_unique : (bytes : List ℕ) (at : ℕ) (r s : Record) → IsRecordAt bytes at r → IsRecordAt bytes at s → r ≡ s
record_unique bytes at r s p q =
    same_record r.kind s.kind r.first s.first r.next s.next
    (head_of_unique r.kind s.kind (sym p.head ∙ q.head)) (p.first ∙ sym q.first) (p.next ∙ sym q.next)

short_whole : (bytes : List ℕ) (at : ℕ) → HasNoHead bytes at ⊎ IsCutOff bytes at → IsWholeRecord bytes at → ⊥
short_whole bytes at (inl short) w = let h : length bytes < at + 4 = short in omega (arith, w.begins)
short_whole bytes at (inr cut) w = omega (arith, cut.cut, w.ends)

bad_sized : (bytes : List ℕ) (at : ℕ) → HasBadLength bytes at → IsRecordLength (length_at bytes at) → ⊥
bad_sized bytes at bad sized = elim bad.bad [ inl low ↦ omega (arith, sized.least, low) | inr odd ↦ omega (arith, sized.even, odd) ]

short_bad : (bytes : List ℕ) (at : ℕ) → HasNoHead bytes at ⊎ IsCutOff bytes at → HasBadLength bytes at → ⊥
short_bad bytes at (inl short) bad = let h : length bytes < at + 4 = short in omega (arith, bad.begins)
short_bad bytes at (inr cut) bad = bad_sized bytes at bad cut.sized

-- a content is of the wrong length for the one kind that has the head
wrong_size : (bytes : List ℕ) (at : ℕ) (j k : Kind) → HasBadContent bytes at j → head_at bytes at ≡ head_of k
    → IsLengthAllowed (content_of k) (length_at bytes at - 4) → ⊥
wrong_size bytes at j k bad head right =
    let same : k ≡ j = head_of_unique k j (sym head ∙ bad.head) in
    bad.size (subst (λ kind. IsLengthAllowed (content_of kind) (length_at bytes at - 4)) same right)

-- nothing is wrong where a record stands
pub record_or_fault : (bytes : List ℕ) (at : ℕ) (r : Record) (f : Framing) → IsRecordAt bytes at r → IsFaultAt bytes at f → ⊥
record_or_fault bytes at r faults.Short p q = short_whole bytes at q p.whole
record_or_fault bytes at r faults.Length p q = bad_sized bytes at q p.whole.sized
record_or_fault bytes at r faults.Kind p q = q.unknown r.kind p.head
record_or_fault bytes at r faults.Size p q = wrong_size bytes at q.0 r.kind q.1 p.head p.content

-- one fault stands at an offset: its first cause
pub fault_unique : (bytes : List ℕ) (at : ℕ) (f g : Framing) → IsFaultAt bytes at f → IsFaultAt bytes at g → f ≡ g
fault_unique bytes at faults.Short faults.Short p q = refl
fault_unique bytes at faults.Short faults.Length p q = absurd (short_bad bytes at p q)
fault_unique bytes at faults.Short faults.Kind p q = absurd (short_whole bytes at p q.whole)
fault_unique bytes at faults.Short faults.Size p q = absurd (short_whole bytes at p q.1.whole)
fault_unique bytes at faults.Length faults.Short p q = absurd (short_bad bytes at q p)
fault_unique bytes at faults.Length faults.Length p q = refl
fault_unique bytes at faults.Length faults.Kind p q = absurd (bad_sized bytes at p q.whole.sized)
fault_unique bytes at faults.Length faults.Size p q = absurd (bad_sized bytes at p q.1.whole.sized)
fault_unique bytes at faults.Kind faults.Short p q = absurd (short_whole bytes at q p.whole)
fault_unique bytes at faults.Kind faults.Length p q = absurd (bad_sized bytes at q p.whole.sized)
fault_unique bytes at faults.Kind faults.Kind p q = refl
fault_unique bytes at faults.Kind faults.Size p q = absurd (p.unknown q.0 q.1.head)
fault_unique bytes at faults.Size faults.Short p q = absurd (short_whole bytes at q p.1.whole)
fault_unique bytes at faults.Size faults.Length p q = absurd (bad_sized bytes at q p.1.whole.sized)
fault_unique bytes at faults.Size faults.Kind p q = absurd (q.unknown p.0 p.1.head)
fault_unique bytes at faults.Size faults.Size p q = refl

-- what an answer with a record or with a fault has to show
pub only_record : (bytes : List ℕ) (at : ℕ) (r : Record) → IsRecordAt bytes at r → (s : Record)
    → (let found : Result Record Framing = Ok r in found ≡ Ok s) ↔ IsRecordAt bytes at s
only_record bytes at r p s =
    (λ e. let same : r ≡ s = cc in subst (IsRecordAt bytes at) same p, λ q. ap Ok (record_unique bytes at r s p q))

pub record_no_fault : (bytes : List ℕ) (at : ℕ) (r : Record) → IsRecordAt bytes at r → (f : Framing)
    → (Ok r ≡ Err f) ↔ IsFaultAt bytes at f
record_no_fault bytes at r p f = (λ e. absurd (cc), λ q. absurd (record_or_fault bytes at r f p q))

pub only_fault : (bytes : List ℕ) (at : ℕ) (f : Framing) → IsFaultAt bytes at f → (g : Framing)
    → (let fault : Result Record Framing = Err f in fault ≡ Err g) ↔ IsFaultAt bytes at g
only_fault bytes at f p g =
    (λ e. let same : f ≡ g = cc in subst (IsFaultAt bytes at) same p, λ q. ap Err (fault_unique bytes at f g p q))

pub fault_no_record : (bytes : List ℕ) (at : ℕ) (f : Framing) → IsFaultAt bytes at f → (r : Record)
    → (Err f ≡ Ok r) ↔ IsRecordAt bytes at r
fault_no_record bytes at f p r = (λ e. absurd (cc), λ q. absurd (record_or_fault bytes at r f q p))

-- the tests that show that a whole record stands at the offset
pub whole_record : (bytes : List ℕ) (at n : ℕ) → at ≤ length bytes → 4 ≤ length bytes - at → n ≡ length_at bytes at
    → 4 ≤ n → n % 2 ≢ 1 → n ≤ length bytes - at → IsWholeRecord bytes at
whole_record bytes at n inside head stated least even left =
    record { begins = omega arith; sized = record { least = omega arith; even = omega arith }; ends = omega arith }

-- a content's length may be taken from an equal kind and an equal length
pub allowed_along : (j k : ContentLength) (m n : ℕ) → j ≡ k → m ≡ n → IsLengthAllowed j (m - 4) → IsLengthAllowed k (n - 4)
allowed_along j k m n kinds lengths allowed =
    subst (λ c. IsLengthAllowed c (n - 4)) kinds (subst (λ l. IsLengthAllowed j (l - 4)) lengths allowed)
