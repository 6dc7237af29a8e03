-- What the whole file gives, by what the program keeps of the records.
use Rattle.std.specs.Prelude.{◌≡◌, ◌⊎◌, ◌≤◌, ℕ, pos, nat_eq, Bool, true, if◌then◌else◌, List, Some, None, length, take}
use Rattle.geo_stream.specs.declared.refusal.Refusal.{Refusal}
use Rattle.geo_stream.specs.declared.refusal.Refusal.TheVariants.{Fault}
use Rattle.layout_model.specs.declared.cells.Layout.{Layout}
use Rattle.layout_model.specs.declared.pair.Pair.{Pair}
use Rattle.oas_lex.specs.Reals.{IsWholeOasisReal}
use Rattle.oas_record.specs.declared.faults.RecordBad.{RecordBad}
use Rattle.oas_record.specs.declared.records.OasRecord.{OasRecord}
use Rattle.oas_fields.specs.Values.{AreFields}
use Rattle.oas_fields.specs.declared.fields.Fields.{Fields}
use Rattle.oas_fields.specs.declared.variables.Variable.{Variable}
use Rattle.oas_reader.specs.Items.{Item, records_in, magic, AreItemsEndToEnd, NoItemEnds}
use Rattle.oas_reader.specs.Meaning.{layout_of}
use Rattle.oas_reader.specs.Names.{conflict_of, first_unknown, first_twins}
use Rattle.oas_reader.specs.Readers.{IsReaderOf, IsReaderWithin}
use Rattle.oas_reader.specs.Reading.{IsTail, AreItemsAllowed}
use Rattle.oas_reader.specs.Rules.{KeepsOasisRules, IsLowestBrokenByItem}
use Rattle.oas_reader.specs.Undefined.{undefined_of}
use Rattle.layout_model.specs.Pairs.{AreSamePairs}
use Rattle.oas_reader.specs.declared.bodies.Body.{Body}
use Rattle.oas_reader.specs.declared.bodies.Body.TheVariants as bodies
use Rattle.oas_reader.specs.declared.reading.Reader.{Reader}
use Rattle.oas_reader.specs.declared.refusing.OasBad.{OasBad}
use Rattle.oas_reader.specs.declared.refusing.OasBad.TheVariants as faults

-- ---- START and END

abbrev pub KeepsFile : List ℕ → ℕ → Body → ℕ → ℕ → Type 0
KeepsFile bytes unit (bodies.Start version real offset_flag) at next = IsWholeOasisReal real (pos unit)
KeepsFile bytes unit (bodies.End scheme) at next = IsTail bytes at next
KeepsFile bytes unit _ at next = Unit {0}

abbrev pub BreaksFile : List ℕ → ℕ → Body → ℕ → ℕ → OasBad → Type 0
BreaksFile bytes unit (bodies.Start version real offset_flag) at next bad =
    (IsWholeOasisReal real (pos unit) → ⊥) × (bad ≡ faults.Unit at)
BreaksFile bytes unit (bodies.End scheme) at next bad = (IsTail bytes at next → ⊥) × (bad ≡ faults.Tail at)
BreaksFile bytes unit _ at next bad = ⊥

-- END holds the table offsets after a START that says so
abbrev pub tables_by : Body → Bool → Bool
tables_by (bodies.Start version real offset_flag) tables = if nat_eq offset_flag 1 then true else tables
tables_by _ tables = tables

-- ---- bytes that are no record

abbrev pub lexical_refusal : RecordBad → ℕ → Refusal OasBad
lexical_refusal bad at = Fault (faults.Lexical at bad)

-- ---- one record

-- the fields stand after some records
pub record HaveRecords (fields : Fields) : Type 0 where
  pub past : List OasRecord
  pub values : AreFields past fields

-- the record's values and names are allowed
pub record IsBodyKept (bytes : List ℕ) (wanted : List Pair) (past : List Item) (r : OasRecord) : Type 0 where
  pub defined : undefined_of (records_in past) r ≡ None
  pub rules : KeepsOasisRules bytes wanted (records_in past) r
  pub names : conflict_of bytes past r ≡ None

-- a value that isn't there, the lowest rule that is broken, or a conflict with an earlier record
abbrev pub IsBadBody : List ℕ → List Pair → List Item → ℕ → OasRecord → OasBad → Type 0
IsBadBody bytes wanted past at r bad =
    ((variable : Variable) × (undefined_of (records_in past) r ≡ Some variable) × (bad ≡ faults.Undefined at variable))
    ⊎ ((rule : ℕ) × (undefined_of (records_in past) r ≡ None) × IsLowestBrokenByItem bytes wanted (records_in past) r rule
    × (bad ≡ faults.Value at rule))
    ⊎ ((first : ℕ) × (undefined_of (records_in past) r ≡ None) × KeepsOasisRules bytes wanted (records_in past) r
    × (conflict_of bytes past r ≡ Some first) × (bad ≡ faults.Names first at))

-- ---- the records so far

-- the records up to this offset have been taken
pub record IsStanding (bytes : List ℕ) (unit : ℕ) (sorted : List Pair) (at : ℕ) (reader : Reader) : Type 0 where
  pub past : List Item
  pub begins : take 13 bytes ≡ magic
  pub run : AreItemsEndToEnd bytes past at
  pub goes_on : NoItemEnds past
  pub few : length past ≤ at
  pub least : at ≤ length bytes
  pub within : IsReaderWithin bytes reader
  pub allowed : (wanted : List Pair) → AreSamePairs wanted sorted → AreItemsAllowed bytes unit wanted past at
  pub reader_is : (wanted : List Pair) → AreSamePairs wanted sorted → IsReaderOf bytes wanted past reader

-- ---- after END

-- the names are known and distinct, and this is the layout
pub record IsLayoutBehind (bytes : List ℕ) (wanted : List Pair) (all : List Item) (layout : Layout) : Type 0 where
  pub known : first_unknown bytes (records_in all) all ≡ None
  pub distinct : first_twins bytes (records_in all) all ≡ None
  pub layout_is : layout ≡ layout_of bytes wanted (records_in all)
