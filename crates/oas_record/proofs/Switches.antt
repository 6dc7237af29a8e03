-- The extension byte of a path changes none of the bits of its info byte.
use Rattle.std.proofs.Common.{◌≡◌, ℕ, ◌+◌, ◌*◌, Bool, true, false, nat_eq, Option, Some, None, List, [], ◌∷◌, inl, inr, ap, arith}
use Rattle.oas_record.specs.Records.{number_or}
use Rattle.oas_record.specs.Rows.{Field, Signed, Repetition, HasWhere, NoWhere, HasFields, NoFields, place, is_set, with_extension}
use Rattle.oas_record.specs.declared.faults.RecordBad.{RecordBad}

signed_moved : (b c : Bool) (s t : ℕ) (bytes : List ℕ) (at : ℕ) (f : Field) (next : ℕ) → b ≡ c
    → HasWhere b Signed s bytes at f next → HasWhere c Signed t bytes at f next
signed_moved true true s t bytes at f next e h = h
signed_moved false false s t bytes at f next e h = h
signed_moved true false s t bytes at f next e h = absurd (cc)
signed_moved false true s t bytes at f next e h = absurd (cc)

rep_moved : (b c : Bool) (s t : ℕ) (bytes : List ℕ) (at : ℕ) (f : Field) (next : ℕ) → b ≡ c
    → HasWhere b Repetition s bytes at f next → HasWhere c Repetition t bytes at f next
rep_moved true true s t bytes at f next e h = h
rep_moved false false s t bytes at f next e h = h
rep_moved true false s t bytes at f next e h = absurd (cc)
rep_moved false true s t bytes at f next e h = absurd (cc)

no_signed_moved : (b c : Bool) (s t : ℕ) (bytes : List ℕ) (at : ℕ) (bad : RecordBad) → b ≡ c → NoWhere b Signed s bytes at bad → NoWhere c Signed t bytes at bad
no_signed_moved true true s t bytes at bad e h = h
no_signed_moved false false s t bytes at bad e h = h
no_signed_moved true false s t bytes at bad e h = absurd (cc)
no_signed_moved false true s t bytes at bad e h = absurd (cc)

no_rep_moved : (b c : Bool) (s t : ℕ) (bytes : List ℕ) (at : ℕ) (bad : RecordBad) → b ≡ c
    → NoWhere b Repetition s bytes at bad → NoWhere c Repetition t bytes at bad
no_rep_moved true true s t bytes at bad e h = h
no_rep_moved false false s t bytes at bad e h = h
no_rep_moved true false s t bytes at bad e h = absurd (cc)
no_rep_moved false true s t bytes at bad e h = absurd (cc)

set4 : (info b : ℕ) → is_set 4 info ≡ is_set 4 (info + 256 * b)
set4 info b = ap (λ n. nat_eq n 1) (omega arith)

set3 : (info b : ℕ) → is_set 3 info ≡ is_set 3 (info + 256 * b)
set3 info b = ap (λ n. nat_eq n 1) (omega arith)

set2 : (info b : ℕ) → is_set 2 info ≡ is_set 2 (info + 256 * b)
set2 info b = ap (λ n. nat_eq n 1) (omega arith)

pub place_moved : (e : Option ℕ) (info : ℕ) (bytes : List ℕ) (at : ℕ) (x y r : Field) (next : ℕ) → HasFields place info bytes at (x ∷ y ∷ r ∷ []) next
    → HasFields place (with_extension (number_or e) info) bytes at (x ∷ y ∷ r ∷ []) next
place_moved None info bytes at x y r next h = h
place_moved (Some b) info bytes at x y r next h = (
  h.0,
  signed_moved (is_set 4 info) (is_set 4 (info + 256 * b)) info (info + 256 * b) bytes at x h.0 (set4 info b) h.1,
  (
    h.2.0,
    signed_moved (is_set 3 info) (is_set 3 (info + 256 * b)) info (info + 256 * b) bytes h.0 y h.2.0 (set3 info b) h.2.1,
    (h.2.2.0, rep_moved (is_set 2 info) (is_set 2 (info + 256 * b)) info (info + 256 * b) bytes h.2.0 r h.2.2.0 (set2 info b) h.2.2.1, h.2.2.2),
  ),
)

pub no_place_moved : (e : Option ℕ) (info : ℕ) (bytes : List ℕ) (at : ℕ) (bad : RecordBad) → NoFields place info bytes at bad
    → NoFields place (with_extension (number_or e) info) bytes at bad
no_place_moved None info bytes at bad h = h
no_place_moved (Some b) info bytes at bad (inl h) = inl
    (no_signed_moved (is_set 4 info) (is_set 4 (info + 256 * b)) info (info + 256 * b) bytes at bad (set4 info b) h)
no_place_moved (Some b) info bytes at bad (inr h) = inr (
  h.0,
  h.1,
  signed_moved (is_set 4 info) (is_set 4 (info + 256 * b)) info (info + 256 * b) bytes at h.0 h.1 (set4 info b) h.2,
  elim h.3 [
    | inl y ↦ inl (no_signed_moved (is_set 3 info) (is_set 3 (info + 256 * b)) info (info + 256 * b) bytes h.1 bad (set3 info b) y)
    | inr k ↦ inr (
      k.0,
      k.1,
      signed_moved (is_set 3 info) (is_set 3 (info + 256 * b)) info (info + 256 * b) bytes h.1 k.0 k.1 (set3 info b) k.2,
      elim k.3 [
        | inl r ↦ inl (no_rep_moved (is_set 2 info) (is_set 2 (info + 256 * b)) info (info + 256 * b) bytes k.1 bad (set2 info b) r)
        | inr none ↦ absurd none.3
      ],
    )
  ],
)
