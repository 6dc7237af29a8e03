-- What bytes hold: a layout, or a first fault. The first record that is refused decides. At one record the framing comes
-- first, then the order, then the value rules, the lowest first, and then the unit or the name.
use Rattle.std.specs.Prelude.{◌≡◌, ◌≢◌, ◌⊎◌, ◌<◌, ◌≤◌, ◌+◌, ◌-◌, ℕ, List, [], ◌∷◌, ◌++◌, length, map, reverse, slice_index}
use Rattle.layout_model.specs.declared.pair.Pair.{Pair}
use Rattle.layout_model.specs.declared.cells.Layout.{Layout}
use Rattle.gds_record.specs.Faults.{IsFaultAt}
use Rattle.gds_record.specs.Framing.{IsRecordAt}
use Rattle.gds_record.specs.Numbers.{number_at}
use Rattle.gds_record.specs.Reals.{AgreesWithUnit}
use Rattle.gds_record.specs.Runs.{AreRecordsEndToEnd, NoRecordEnds, IsFramed}
use Rattle.gds_record.specs.declared.kinds.Kind.{Kind}
use Rattle.gds_record.specs.declared.kinds.Kind.TheVariants.{StrName, Units, EndLib}
use Rattle.gds_record.specs.declared.records.Framing.{Framing}
use Rattle.gds_record.specs.declared.records.Framing.TheVariants as framing
use Rattle.gds_record.specs.declared.records.Record.{Record}
use Rattle.gds_reader.specs.declared.refusing.GdsBad.{GdsBad}
use Rattle.gds_reader.specs.declared.refusing.GdsBad.TheVariants as faults
use Rattle.gds_reader.specs.Grammar.{IsStreamOrder, IsBeginning}
use Rattle.gds_reader.specs.Values.{KeepsGdsiiRules, IsLowestBrokenByRecord, name_in}
use Rattle.gds_reader.specs.Meaning.{layout_of}

abbrev pub kinds_of : List Record → List Kind
kinds_of records = map (λ r. r.kind) records

-- ---- one record, after its past

-- the database unit in metres, the second real of UNITS
abbrev pub unit_in : List ℕ → Record → ℕ
unit_in bytes r = number_at 8 bytes (r.first + 8)

-- the STRNAME record that the list names too
abbrev pub IsSameName : List ℕ → Record → Record → Type 0
IsSameName bytes r earlier = (earlier.kind ≡ StrName) × (name_in bytes earlier ≡ name_in bytes r)

-- one of the records is a STRNAME with the name of this one
abbrev pub IsNamedBefore : List ℕ → List Record → Record → Type 0
IsNamedBefore bytes [] r = ⊥
IsNamedBefore bytes (earlier ∷ past) r = IsSameName bytes r earlier ⊎ IsNamedBefore bytes past r

-- the record is allowed after its past, its order aside
pub record IsRecordAllowed (bytes : List ℕ) (unit : ℕ) (wanted : List Pair) (past : List Record) (r : Record) : Type 0 where
  pub rules : KeepsGdsiiRules bytes wanted past r
  pub unit_agrees : r.kind ≡ Units → AgreesWithUnit (unit_in bytes r) unit
  pub new_name : r.kind ≡ StrName → ¬ IsNamedBefore bytes past r

-- each record is, the last one first
abbrev pub AreRecordsAllowed : List ℕ → ℕ → List Pair → List Record → Type 0
AreRecordsAllowed bytes unit wanted [] = Unit {0}
AreRecordsAllowed bytes unit wanted (r ∷ past) = IsRecordAllowed bytes unit wanted past r × AreRecordsAllowed bytes unit wanted past

-- ---- a layout

-- the bytes hold this layout
pub record IsGdsiiLayoutOf (bytes : List ℕ) (unit : ℕ) (wanted : List Pair) (layout : Layout) : Type 0 where
  pub records : List Record
  pub framed : IsFramed bytes records
  pub order : IsStreamOrder (kinds_of records)
  pub allowed : AreRecordsAllowed bytes unit wanted (reverse records)
  pub layout_is : layout ≡ layout_of bytes wanted (reverse records)

-- ---- a fault

-- the records before this offset, the last one first, are whole and allowed, and don't end the library
pub record AreRecordsReadUpTo (bytes : List ℕ) (unit : ℕ) (wanted : List Pair) (past : List Record) (at : ℕ) : Type 0 where
  pub run : AreRecordsEndToEnd bytes 0 (reverse past) at
  pub goes_on : NoRecordEnds (reverse past)
  pub order : IsBeginning (kinds_of (reverse past))
  pub allowed : AreRecordsAllowed bytes unit wanted past

abbrev pub framing_fault : Framing → ℕ → GdsBad
framing_fault framing.Short at = faults.Short at
framing_fault framing.Length at = faults.Length at
framing_fault framing.Kind at = faults.Kind at
framing_fault framing.Size at = faults.Size at

-- no record stands at the offset
abbrev pub IsFramingFault : List ℕ → ℕ → GdsBad → Type 0
IsFramingFault bytes at bad = (fault : Framing) × IsFaultAt bytes at fault × (bad ≡ framing_fault fault at)

-- the record at the offset isn't allowed after those before it
pub record IsGdsiiOrderFault (bytes : List ℕ) (past : List Record) (at : ℕ) (bad : GdsBad) : Type 0 where
  pub r : Record
  pub stands : IsRecordAt bytes at r
  pub order : ¬ IsBeginning (kinds_of (reverse (r ∷ past)))
  pub bad_is : bad ≡ faults.Order at

-- a record that may follow its past stands at the offset
pub record IsNext (bytes : List ℕ) (past : List Record) (at : ℕ) (r : Record) : Type 0 where
  pub stands : IsRecordAt bytes at r
  pub order : IsBeginning (kinds_of (reverse (r ∷ past)))

-- the record breaks a value rule
pub record IsGdsiiValueFault (bytes : List ℕ) (wanted : List Pair) (past : List Record) (at : ℕ) (bad : GdsBad) : Type 0 where
  pub r : Record
  pub next : IsNext bytes past at r
  pub rule : ℕ
  pub broken : IsLowestBrokenByRecord bytes wanted past r rule
  pub bad_is : bad ≡ faults.Value at rule

-- the unit of the file is another
pub record IsGdsiiUnitFault (bytes : List ℕ) (unit : ℕ) (wanted : List Pair) (past : List Record) (at : ℕ) (bad : GdsBad) : Type 0 where
  pub r : Record
  pub next : IsNext bytes past at r
  pub rules : KeepsGdsiiRules bytes wanted past r
  pub kind : r.kind ≡ Units
  pub disagrees : ¬ AgreesWithUnit (unit_in bytes r) unit
  pub bad_is : bad ≡ faults.Unit (unit_in bytes r)

-- an earlier structure has the same name; the offset of a record is four bytes before its content
pub record IsGdsiiNameFault (bytes : List ℕ) (wanted : List Pair) (past : List Record) (at : ℕ) (bad : GdsBad) : Type 0 where
  pub r : Record
  pub next : IsNext bytes past at r
  pub rules : KeepsGdsiiRules bytes wanted past r
  pub kind : r.kind ≡ StrName
  pub before : List Record
  pub earlier : Record
  pub after : List Record
  pub among : past ≡ before ++ earlier ∷ after
  pub same : IsSameName bytes r earlier
  pub bad_is : bad ≡ faults.Twice (earlier.first - 4) at

-- the library ends, and a byte after it isn't 0; it is the first such byte
pub record IsGdsiiTailFault (bytes : List ℕ) (unit : ℕ) (wanted : List Pair) (past : List Record) (at : ℕ) (bad : GdsBad) : Type 0 where
  pub r : Record
  pub next : IsNext bytes past at r
  pub allowed : IsRecordAllowed bytes unit wanted past r
  pub kind : r.kind ≡ EndLib
  pub tail : ℕ
  pub behind : r.next ≤ tail
  pub within : tail < length bytes
  pub nonzero : slice_index bytes tail ≢ 0
  pub zeros : (k : ℕ) → r.next ≤ k → k < tail → slice_index bytes k ≡ 0
  pub bad_is : bad ≡ faults.Tail tail

abbrev pub IsFault : List ℕ → ℕ → List Pair → List Record → ℕ → GdsBad → Type 0
IsFault bytes unit wanted past at bad =
    IsFramingFault bytes at bad ⊎ IsGdsiiOrderFault bytes past at bad ⊎ IsGdsiiValueFault bytes wanted past at bad
    ⊎ IsGdsiiUnitFault bytes unit wanted past at bad ⊎ IsGdsiiNameFault bytes wanted past at bad
    ⊎ IsGdsiiTailFault bytes unit wanted past at bad

-- the first fault of the bytes
pub record IsFirstGdsiiFault (bytes : List ℕ) (unit : ℕ) (wanted : List Pair) (bad : GdsBad) : Type 0 where
  pub past : List Record
  pub at : ℕ
  pub read : AreRecordsReadUpTo bytes unit wanted past at
  pub fault : IsFault bytes unit wanted past at bad

-- ---- laws

abbrev pub OneLayout : Type 0
OneLayout =
    (bytes : List ℕ) (unit : ℕ) (wanted : List Pair) (one other : Layout) → IsGdsiiLayoutOf bytes unit wanted one
    → IsGdsiiLayoutOf bytes unit wanted other → one ≡ other

abbrev pub OneFault : Type 0
OneFault =
    (bytes : List ℕ) (unit : ℕ) (wanted : List Pair) (one other : GdsBad) → IsFirstGdsiiFault bytes unit wanted one
    → IsFirstGdsiiFault bytes unit wanted other → one ≡ other

abbrev pub NoLayoutWithFault : Type 0
NoLayoutWithFault =
    (bytes : List ℕ) (unit : ℕ) (wanted : List Pair) (layout : Layout) (bad : GdsBad)
    → IsGdsiiLayoutOf bytes unit wanted layout → ¬ IsFirstGdsiiFault bytes unit wanted bad

-- they hold none
abbrev pub HoldNoLayout : List ℕ → ℕ → List Pair → Type 0
HoldNoLayout bytes unit wanted = (layout : Layout) → ¬ IsGdsiiLayoutOf bytes unit wanted layout

abbrev pub HaveNoFault : List ℕ → ℕ → List Pair → Type 0
HaveNoFault bytes unit wanted = (bad : GdsBad) → ¬ IsFirstGdsiiFault bytes unit wanted bad

-- bytes that hold no layout have a first fault: none hold no layout and have no first fault
abbrev pub OthersHaveFault : Type 0
OthersHaveFault = (bytes : List ℕ) (unit : ℕ) (wanted : List Pair) → HoldNoLayout bytes unit wanted → ¬ HaveNoFault bytes unit wanted
