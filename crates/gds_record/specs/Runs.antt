-- The records of a file: the longest list of whole records that are laid end to end from offset 0 up to the first end
-- of library. A file is framed where this list ends with the end of library and only zero bytes follow.
use Rattle.std.specs.Prelude.{◌≡◌, ◌≢◌, ◌≤◌, ◌<◌, ◌⊎◌, ⊤, ℕ, List, [], ◌∷◌, length, slice_index}
use Rattle.gds_record.specs.declared.records.Record.{Record}
use Rattle.gds_record.specs.declared.kinds.Kind.TheVariants.{EndLib}
use Rattle.gds_record.specs.Framing.{IsRecordAt}

-- these records are laid end to end from one offset up to another
abbrev pub AreRecordsEndToEnd : List ℕ → ℕ → List Record → ℕ → Type 0
AreRecordsEndToEnd bytes from [] to = from ≡ to
AreRecordsEndToEnd bytes from (r ∷ rs) to = IsRecordAt bytes from r × AreRecordsEndToEnd bytes r.next rs to

-- no record ends the library
abbrev pub NoRecordEnds : List Record → Type 0
NoRecordEnds [] = ⊤
NoRecordEnds (r ∷ rs) = (r.kind ≢ EndLib) × NoRecordEnds rs

-- no record but the last ends the library
abbrev pub EndsOnlyLast : List Record → Type 0
EndsOnlyLast [] = ⊤
EndsOnlyLast (r ∷ []) = ⊤
EndsOnlyLast (r ∷ s ∷ rs) = (r.kind ≢ EndLib) × EndsOnlyLast (s ∷ rs)

-- the last record ends the library
abbrev pub IsLibraryClosed : List Record → Type 0
IsLibraryClosed [] = ⊥
IsLibraryClosed (r ∷ []) = r.kind ≡ EndLib
IsLibraryClosed (r ∷ s ∷ rs) = IsLibraryClosed (s ∷ rs)

-- these are the records of the file, and the last one ends at this offset
pub record IsRecordsOf (bytes : List ℕ) (rs : List Record) (to : ℕ) : Type 0 where
  pub run : AreRecordsEndToEnd bytes 0 rs to
  pub ends : EndsOnlyLast rs
  pub longest : IsLibraryClosed rs ⊎ ((r : Record) → ¬ IsRecordAt bytes to r)

-- these are the records of a framed file
pub record IsFramed (bytes : List ℕ) (rs : List Record) : Type 0 where
  pub to : ℕ
  pub records : IsRecordsOf bytes rs to
  pub closed : IsLibraryClosed rs
  pub blank : (k : ℕ) → to ≤ k → k < length bytes → slice_index bytes k ≡ 0

-- each file has a list of records
abbrev pub RecordsExist : Type 0
RecordsExist = (bytes : List ℕ) → (rs : List Record) × (to : ℕ) × IsRecordsOf bytes rs to

-- a file has one list of records, and it ends at one offset
abbrev pub RecordsUnique : Type 0
RecordsUnique =
    (bytes : List ℕ) (rs ss : List Record) (to up : ℕ) → IsRecordsOf bytes rs to → IsRecordsOf bytes ss up
    → (rs ≡ ss) × (to ≡ up)
