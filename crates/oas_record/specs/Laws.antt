-- What the bytes of a record keep: a place holds one record or one fault, and no record begins another.
use Rattle.std.specs.Prelude.{ℕ, ◌≡◌, Bool, List, ◌++◌, length}
use Rattle.oas_record.specs.Records.{HasRecord, NoRecord}
use Rattle.oas_record.specs.declared.faults.RecordBad.{RecordBad}
use Rattle.oas_record.specs.declared.records.OasRecord.{OasRecord}

-- Bytes hold at most one record at a place, and it ends at one place.
abbrev pub OneRecord : Type 0
OneRecord = (bytes : List ℕ) (at : ℕ) (tables : Bool) (r s : OasRecord) (next last : ℕ) →
    HasRecord bytes at tables r next → HasRecord bytes at tables s last → (r ≡ s) × (next ≡ last)

-- Where a record stands nothing is wrong,
abbrev pub RecordOrFault : Type 0
RecordOrFault = (bytes : List ℕ) (at : ℕ) (tables : Bool) (r : OasRecord) (next : ℕ) (bad : RecordBad) →
    HasRecord bytes at tables r next → NoRecord bytes at tables bad → ⊥

-- and else one thing at most is.
abbrev pub OneFault : Type 0
OneFault = (bytes : List ℕ) (at : ℕ) (tables : Bool) (bad worse : RecordBad) →
    NoRecord bytes at tables bad → NoRecord bytes at tables worse → bad ≡ worse

-- No record begins another, whatever follows the two.
abbrev pub NoneBegins : Type 0
NoneBegins = (a b after rest : List ℕ) (tables : Bool) (r s : OasRecord) → a ++ after ≡ b ++ rest →
    HasRecord (a ++ after) 0 tables r (length a) → HasRecord (b ++ rest) 0 tables s (length b) →
    (r ≡ s) × (a ≡ b) × (after ≡ rest)
