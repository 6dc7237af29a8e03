-- Bytes are an OASIS layout, or they have a first fault.
use Rattle.std.specs.Prelude.{◌⊎◌, ◌<◌, ◌≤◌, ℕ, Bool, List, length}
use Rattle.layout_model.specs.declared.cells.Layout.{Layout}
use Rattle.layout_model.specs.declared.pair.Pair.{Pair}
use Rattle.oas_record.specs.Records.{HasRecord, NoRecord}
use Rattle.oas_record.specs.declared.faults.RecordBad.{RecordBad}
use Rattle.oas_record.specs.declared.records.OasRecord.{OasRecord}
use Rattle.oas_reader.specs.Reading.{IsOasisLayoutOf, IsFirstOasisFault}
use Rattle.oas_reader.specs.declared.refusing.OasBad.{OasBad}

-- the bytes hold no layout, of this unit and with the shapes on these pairs
abbrev pub HoldNoLayout : List ℕ → ℕ → List Pair → Type 0
HoldNoLayout bytes unit wanted = (layout : Layout) → IsOasisLayoutOf bytes unit wanted layout → ⊥

abbrev pub HaveNoFault : List ℕ → ℕ → List Pair → Type 0
HaveNoFault bytes unit wanted = (bad : OasBad) → IsFirstOasisFault bytes unit wanted bad → ⊥

-- bytes that hold no layout have a first fault: they don't hold no layout and have no first fault
abbrev pub OthersHaveFault : List ℕ → Type 0
OthersHaveFault bytes = (unit : ℕ) (wanted : List Pair) → HoldNoLayout bytes unit wanted → HaveNoFault bytes unit wanted → ⊥

-- ---- the places of a file

-- a record stands at the place
pub record HasSomeRecord (bytes : List ℕ) (at : ℕ) (tables : Bool) : Type 0 where
  pub r : OasRecord
  pub next : ℕ
  pub stands : HasRecord bytes at tables r next
  pub onward : at < next
  pub within : next ≤ length bytes

-- or none does, for some cause
abbrev pub HasRecordOrNone : List ℕ → ℕ → Bool → Type 0
HasRecordOrNone bytes at tables = HasSomeRecord bytes at tables ⊎ ((cause : RecordBad) × NoRecord bytes at tables cause)
