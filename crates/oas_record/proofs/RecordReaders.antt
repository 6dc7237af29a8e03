-- One record stands at a place, with one end, or it fails for one cause.
use Rattle.std.proofs.Common.{◌≡◌, ◌⊎◌, ℕ, ◌+◌, Bool, false, IsTrue, Option, Some, None, List, slice_index, nat_lt}
use Rattle.std.proofs.Common.{if◌then◌else◌, Result, Ok, Err, inl, inr, sym, ap, subst, ◌∙◌, ◌++◌, take, length}
use Rattle.std.proofs.Math.Seq.{take-append_seam}
use Rattle.std.proofs.lemmas.List.{append_cancel_left}
use Rattle.std.specs.Result.{IfOk, IfErr}
use Rattle.oas_lex.proofs.ForCallers.{IsReader, pair_is}
use Rattle.oas_record.specs.Faults.{NoBytes}
use Rattle.oas_record.specs.Records.{id_of, info_of, fields_of, row_at, switch_of, HasInfo, HasBody, HasRecordRow, HasRecord, InfoFails, NoBody, NoRow, NoRecord}
use Rattle.oas_record.specs.Rows.{Field, Info, NoInfo, Below, Square, allows, RecordRow, HasFields, NoFields}
use Rattle.oas_record.specs.declared.faults.RecordBad.{RecordBad}
use Rattle.oas_record.specs.declared.faults.RecordBad.TheVariants as faults
use Rattle.oas_record.specs.declared.records.OasRecord.{OasRecord}
use Rattle.oas_record.proofs.Readers.{weaker, kinded, nothing}
use Rattle.oas_record.proofs.FieldReaders.{fields}
use Rattle.oas_record.proofs.SameRecords.{same_record}

-- the info byte, the fields and their end
abbrev Body : Type 0
Body = (ℕ × List Field) × ℕ

after_info : (row : RecordRow) (bytes : List ℕ) (at : ℕ)
    → IsReader (λ (v : Body). (v.0.0 ≡ slice_index bytes at)
    × (IsTrue (allows row.info (slice_index bytes at)) × HasFields row.parts (slice_index bytes at) bytes
    (at + 1) v.0.1 v.1))
    (λ e. ((allows row.info (slice_index bytes at) ≡ false) × (e ≡ faults.Shape))
    ⊎ (IsTrue (allows row.info (slice_index bytes at)) × NoFields row.parts (slice_index bytes at) bytes
    (at + 1) e))
after_info row bytes at =
    let rest = fields row.parts (slice_index bytes at) bytes (at + 1) in
    record {
      one = λ v w h k.
          let same = rest.one (v.0.1, v.1) (w.0.1, w.1) h.1.1 k.1.1 in
          pair_is v w (pair_is v.0 w.0 (h.0 ∙ sym k.0) (ap (λ (p : List Field × ℕ). p.0) same)) (ap (λ (p : List Field × ℕ). p.1) same);
      apart = λ v e h f. elim f [
        | inl refused ↦ absurd (allowed_not (allows row.info (slice_index bytes at)) h.1.0 refused.0)
        | inr bad ↦ rest.apart (v.0.1, v.1) e h.1.1 bad.1
      ];
      cause = λ e d x y. elim x [
        | inl refused ↦ elim y [
          | inl again ↦ refused.1 ∙ sym again.1
          | inr bad ↦ absurd (allowed_not (allows row.info (slice_index bytes at)) bad.0 refused.0)
        ]
        | inr bad ↦ elim y [
          | inl refused ↦ absurd (allowed_not (allows row.info (slice_index bytes at)) bad.0 refused.0)
          | inr again ↦ rest.cause e d bad.1 again.1
        ]
      ];
    }
  where
    allowed_not : (b : Bool) → IsTrue b → b ≡ false → ⊥
    allowed_not b t f = cc

with_info : (row : RecordRow) (bytes : List ℕ) (at : ℕ) → IsReader (λ (v : Body). HasInfo row bytes at v.0.0 v.0.1 v.1)
    (λ e. NoBytes bytes at 1 e ⊎ InfoFails row bytes at e)
with_info row bytes at =
    weaker _ _ _ _ (kinded bytes at _ _ (after_info row bytes at))
    (λ v h. (
      h.within,
      (
        h.byte,
        (
          subst (λ i. IsTrue (allows row.info i)) h.byte h.allowed,
          subst
              (λ i. HasFields row.parts i bytes (at + 1) v.0.1 v.1) h.byte h.fields_stand,
        ),
      ),
    ))
    (λ e f. elim f [ inl short ↦ inl short | inr bad ↦ inr (bad.within, bad.fails) ])

body : (info : Info) (row : RecordRow) (tables : Bool) (bytes : List ℕ) (at : ℕ)
    → IsReader (λ (v : Body). HasBody info row tables bytes at v.0.0 v.0.1 v.1) (NoBody info row tables bytes at)
body NoInfo row tables bytes at =
    let rest = fields row.parts (switch_of tables) bytes at in
    record {
      one = λ v w h k.
          let same = rest.one (v.0.1, v.1) (w.0.1, w.1) h.1 k.1 in
          pair_is v w (pair_is v.0 w.0 (h.0 ∙ sym k.0) (ap (λ (p : List Field × ℕ). p.0) same)) (ap (λ (p : List Field × ℕ). p.1) same);
      apart = λ v e h f. rest.apart (v.0.1, v.1) e h.1 f;
      cause = rest.cause;
    }
body (Below n) row tables bytes at = with_info row bytes at
body Square row tables bytes at = with_info row bytes at

row : (r : Option RecordRow) (id : ℕ) (tables : Bool) (bytes : List ℕ) (at : ℕ)
    → IsReader (λ (v : Body). HasRecordRow r tables bytes at v.0.0 v.0.1 v.1) (NoRow r id tables bytes at)
row (Some r) id tables bytes at = body r.info r tables bytes at
row None id tables bytes at = nothing (if nat_lt id 35 then faults.Packed else faults.Kind)

pub one_record : (bytes : List ℕ) (at : ℕ) (tables : Bool) → IsReader (λ (v : OasRecord × ℕ). HasRecord bytes at tables v.0 v.1) (NoRecord bytes at tables)
one_record bytes at tables =
    let id = slice_index bytes at in
    let rest = row (row_at id) id tables bytes (at + 1) in
    let whole = kinded bytes at
    (λ (v : OasRecord × ℕ). (id_of v.0 ≡ id) × HasRecordRow (row_at id) tables bytes (at + 1) (info_of v.0)
    (fields_of v.0) v.1) (NoRow (row_at id) id tables bytes (at + 1)) (record {
      one = λ v w h k.
          let same = rest.one ((info_of v.0, fields_of v.0), v.1) ((info_of w.0, fields_of w.0), w.1) h.1 k.1 in
          pair_is v w (same_record v.0 w.0 (h.0 ∙ sym k.0) (ap (λ (p : Body). p.0.0) same) (ap (λ (p : Body). p.0.1) same)) (ap (λ (p : Body). p.1) same);
      apart = λ v e h f. rest.apart ((info_of v.0, fields_of v.0), v.1) e h.1 f;
      cause = rest.cause;
    }) in
    weaker _ _ _ _ whole (λ v h. (h.within, (h.id, h.row))) (λ e f. elim f [ inl short ↦ inl short | inr bad ↦ inr (bad.within, bad.fails) ])

-- ---- what a result says, unless memory ran out

pub read_back : {V : Type 0} (H : V → Type 0) (F : RecordBad → Type 0) → IsReader H F
    → (r : Result V RecordBad) → IfOk r H → IfErr r F → (v : V) → H v → r ≡ Ok v
read_back H F s (Ok w) p q v h = ap Ok (s.one w v p h)
read_back H F s (Err e) p f v h = absurd (s.apart v e h f)

pub refused_back : {V : Type 0} (H : V → Type 0) (F : RecordBad → Type 0) → IsReader H F
    → (r : Result V RecordBad) → IfOk r H → IfErr r F → (e : RecordBad) → F e → r ≡ Err e
refused_back H F s (Ok w) p q e f = absurd (s.apart w e p f)
refused_back H F s (Err d) p g e f = ap Err (s.cause d e g f)

-- ---- no record begins another

pub none_begins : (a b after rest : List ℕ) (tables : Bool) (r s : OasRecord) → a ++ after ≡ b ++ rest
    → HasRecord (a ++ after) 0 tables r (length a) → HasRecord (b ++ rest) 0 tables s (length b) → (r ≡ s) × (a ≡ b) × (after ≡ rest)
none_begins a b after rest tables r s e h k =
    let there = subst (λ bytes. HasRecord bytes 0 tables s (length b)) (sym e) k in
    let same = (one_record (a ++ after) 0 tables).one (r, length a) (s, length b) h there in
    let size : length a ≡ length b = ap (λ p. p.1) same in
    let first : a ≡ b = sym (take-append_seam a after) ∙ (ap (take (length a)) e ∙ (ap (λ n. take n (b ++ rest)) size ∙ take-append_seam b rest)) in
    (ap (λ p. p.0) same, first, append_cancel_left a after rest (e ∙ ap (λ l. l ++ rest) (sym first)))
