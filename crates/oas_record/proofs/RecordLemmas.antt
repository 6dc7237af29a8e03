-- A record whose id is read.
use Rattle.std.proofs.Common.{◌≡◌, ◌<◌, ◌≤◌, ◌+◌, ℕ, Bool, false, Some, None, List, [], ◌∷◌, length, map}
use Rattle.std.proofs.Common.{slice_index, nat_lt, if◌then◌else◌, arith, inl, inr, subst, sym, ◌∙◌}
use Rattle.oas_record.specs.Rows.{rows, NoFields, when, Zero, Tables, with_switch}
use Rattle.std.proofs.lemmas.List.{get_or_past}
use Rattle.std.proofs.lemmas.Bool.Decides.{nat_tests}
use Rattle.oas_record.specs.Parts.{IsOf, NotOf}
use Rattle.oas_record.specs.Records.{HasRecord, NoRecord, HasRecordRow, NoRow, row_at, info_of, fields_of, switch_of}
use Rattle.oas_record.specs.declared.faults.RecordBad.{RecordBad}
use Rattle.oas_record.specs.declared.faults.RecordBad.TheVariants as faults
use Rattle.oas_record.specs.declared.records.OasRecord.{OasRecord}

pub record_there : (bytes : List ℕ) (at id : ℕ) (tables : Bool) (r : OasRecord) (next : ℕ) → at < length bytes → id ≡ slice_index bytes at
    → IsOf id tables bytes (at + 1) r next → HasRecord bytes at tables r next
record_there bytes at id tables r next within is h = record {
  within = within;
  id = h.id_is ∙ is;
  row = subst (λ k. HasRecordRow (row_at k) tables bytes (at + 1) (info_of r) (fields_of r) next) is h.row;
}

pub record_missing : (bytes : List ℕ) (at id : ℕ) (tables : Bool) (bad : RecordBad) → at < length bytes → id ≡ slice_index bytes at
    → NotOf id tables bytes (at + 1) bad → NoRecord bytes at tables bad
record_missing bytes at id tables bad within is h =
    inr (record { within = within; fails = subst (λ k. NoRow (row_at k) k tables bytes (at + 1) bad) is h })

-- START holds its own switch
pub start_any : (tables : Bool) (bytes : List ℕ) (at : ℕ) (bad : RecordBad) → NotOf 1 false bytes at bad → NotOf 1 tables bytes at bad
start_any tables bytes at bad h = elim h [
  | inl text ↦ inl text
  | inr h ↦ inr (
    h.0,
    h.1,
    h.2,
    elim h.3 [
      | inl real ↦ inl real
      | inr h ↦ inr (
        h.0,
        h.1,
        h.2,
        elim h.3 [
          | inl number ↦ inl number
          | inr h ↦ inr (
            h.0,
            h.1,
            h.2,
            subst (λ f. NoFields (when Zero Tables ∷ []) (with_switch f (switch_of tables)) bytes h.1 bad) (sym h.2.2)
                (subst (λ f. NoFields (when Zero Tables ∷ []) (with_switch f 0) bytes h.1 bad) h.2.2 h.3),
          )
        ],
      )
    ],
  )
]

-- an id above 34 is no record's
kind_far : (id : ℕ) → 35 ≤ id → faults.Kind ≡ (if nat_lt id 35 then faults.Packed else faults.Kind)
kind_far id h = grind (arith, nat_tests)

pub far_id : (id : ℕ) (tables : Bool) (bytes : List ℕ) (at : ℕ) → 35 ≤ id → NotOf id tables bytes at faults.Kind
far_id id tables bytes at h =
    let none : row_at id ≡ None = get_or_past (map Some rows) id None (omega arith) in
    subst (λ r. NoRow r id tables bytes at faults.Kind) (sym none) (kind_far id h)
