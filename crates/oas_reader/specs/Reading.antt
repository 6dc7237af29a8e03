-- What bytes hold: a layout, or a first fault. The first record that is refused decides. At one record its bytes come
-- first, then its order, then a value that it needs, then the value rules, the lowest first, then names, the unit, and
-- where END ends. Behind END come names by number: first those that no record gives, then cells of one name.
use Rattle.std.specs.Prelude.{◌≡◌, ◌≢◌, ◌⊎◌, ◌+◌, ℕ, pos, true, false, List, [], ◌∷◌, Some, None, length, take}
use Rattle.layout_model.specs.declared.pair.Pair.{Pair}
use Rattle.layout_model.specs.declared.cells.Layout.{Layout}
use Rattle.oas_lex.specs.Reals.{IsWholeOasisReal}
use Rattle.oas_record.specs.Records.{HasRecord, NoRecord}
use Rattle.oas_record.specs.declared.faults.RecordBad.{RecordBad}
use Rattle.oas_record.specs.declared.records.OasRecord.{OasRecord}
use Rattle.oas_record.specs.declared.records.OasRecord.TheVariants as records
use Rattle.oas_fields.specs.declared.variables.Variable.{Variable}
use Rattle.oas_reader.specs.declared.refusing.OasBad.{OasBad}
use Rattle.oas_reader.specs.declared.refusing.OasBad.TheVariants as faults
use Rattle.oas_reader.specs.Items.{Item, records_in, tables_at_end, magic, AreItemsEndToEnd, NoItemEnds, is_end}
use Rattle.oas_reader.specs.Order.{is_in_order}
use Rattle.oas_reader.specs.Names.{conflict_of, first_unknown, first_twins}
use Rattle.oas_reader.specs.Undefined.{undefined_of}
use Rattle.oas_reader.specs.Rules.{KeepsOasisRules, IsLowestBrokenByItem}
use Rattle.oas_reader.specs.Meaning.{layout_of}

abbrev pub item : ℕ → OasRecord → Item
item at r = record { at = at; r = r }

-- ---- one record, after its past

-- the unit of START is so many grid steps per micrometre
abbrev pub HasUnit : ℕ → OasRecord → Type 0
HasUnit unit (records.Start version real offset_flag tables) = IsWholeOasisReal real (pos unit)
HasUnit unit _ = Unit {0}

-- END has 256 bytes and is the end of the file
pub record IsTail (bytes : List ℕ) (at next : ℕ) : Type 0 where
  pub size : next ≡ at + 256
  pub last : next ≡ length bytes

-- the record at `at`, which ends before `next`, is allowed after its past, its order aside
pub record IsItemAllowed (bytes : List ℕ) (unit : ℕ) (wanted : List Pair) (past : List Item) (at : ℕ) (r : OasRecord) (next : ℕ) : Type 0 where
  pub defined : undefined_of (records_in past) r ≡ None
  pub rules : KeepsOasisRules bytes wanted (records_in past) r
  pub names : conflict_of bytes past r ≡ None
  pub unit_agrees : HasUnit unit r
  pub tail : is_end r ≡ true → IsTail bytes at next

-- each record is in order and allowed; the last one ends before `next`
abbrev pub AreItemsAllowed : List ℕ → ℕ → List Pair → List Item → ℕ → Type 0
AreItemsAllowed bytes unit wanted [] next = Unit {0}
AreItemsAllowed bytes unit wanted (last ∷ past) next =
    (is_in_order (records_in past) last.r ≡ true) × IsItemAllowed bytes unit wanted past last.at last.r next
    × AreItemsAllowed bytes unit wanted past last.at

-- the records before this offset stand after the magic bytes and are allowed, and none is END
pub record AreItemsReadUpTo (bytes : List ℕ) (unit : ℕ) (wanted : List Pair) (past : List Item) (at : ℕ) : Type 0 where
  pub begins : take 13 bytes ≡ magic
  pub run : AreItemsEndToEnd bytes past at
  pub goes_on : NoItemEnds past
  pub allowed : AreItemsAllowed bytes unit wanted past at

-- all records up to END are read
pub record IsWholeFile (bytes : List ℕ) (unit : ℕ) (wanted : List Pair) (last : Item) (past : List Item) (next : ℕ) : Type 0 where
  pub read : AreItemsReadUpTo bytes unit wanted past last.at
  pub stands : HasRecord bytes last.at (tables_at_end (records_in past)) last.r next
  pub order : is_in_order (records_in past) last.r ≡ true
  pub allowed : IsItemAllowed bytes unit wanted past last.at last.r next
  pub ends : is_end last.r ≡ true

-- ---- a layout

-- the bytes hold this layout
pub record IsOasisLayoutOf (bytes : List ℕ) (unit : ℕ) (wanted : List Pair) (layout : Layout) : Type 0 where
  pub last : Item
  pub past : List Item
  pub next : ℕ
  pub whole : IsWholeFile bytes unit wanted last past next
  pub known : first_unknown bytes (records_in (last ∷ past)) (last ∷ past) ≡ None
  pub distinct : first_twins bytes (records_in (last ∷ past)) (last ∷ past) ≡ None
  pub layout_is : layout ≡ layout_of bytes wanted (records_in (last ∷ past))

-- ---- a fault of one record

-- no record stands at the offset, for this cause
pub record IsLexicalFault (bytes : List ℕ) (past : List Item) (at : ℕ) (bad : OasBad) : Type 0 where
  pub cause : RecordBad
  pub none : NoRecord bytes at (tables_at_end (records_in past)) cause
  pub bad_is : bad ≡ faults.Lexical at cause

-- the record at the offset may not follow those before it
pub record IsOasisOrderFault (past : List Item) (at : ℕ) (r : OasRecord) (bad : OasBad) : Type 0 where
  pub order : is_in_order (records_in past) r ≡ false
  pub bad_is : bad ≡ faults.Order at

-- it needs a value that isn't there
pub record IsUndefinedFault (past : List Item) (at : ℕ) (r : OasRecord) (bad : OasBad) : Type 0 where
  pub order : is_in_order (records_in past) r ≡ true
  pub variable : Variable
  pub undefined : undefined_of (records_in past) r ≡ Some variable
  pub bad_is : bad ≡ faults.Undefined at variable

-- all that it needs is there
pub record HasAllNeeded (past : List Item) (r : OasRecord) : Type 0 where
  pub order : is_in_order (records_in past) r ≡ true
  pub defined : undefined_of (records_in past) r ≡ None

-- it breaks a value rule
pub record IsOasisValueFault (bytes : List ℕ) (wanted : List Pair) (past : List Item) (at : ℕ) (r : OasRecord) (bad : OasBad) : Type 0 where
  pub defined : HasAllNeeded past r
  pub rule : ℕ
  pub broken : IsLowestBrokenByItem bytes wanted (records_in past) r rule
  pub bad_is : bad ≡ faults.Value at rule

-- it conflicts with an earlier record
pub record IsOasisNameFault (bytes : List ℕ) (wanted : List Pair) (past : List Item) (at : ℕ) (r : OasRecord) (bad : OasBad) : Type 0 where
  pub defined : HasAllNeeded past r
  pub rules : KeepsOasisRules bytes wanted (records_in past) r
  pub first : ℕ
  pub conflict : conflict_of bytes past r ≡ Some first
  pub bad_is : bad ≡ faults.Names first at

-- the unit of the file is another
pub record IsOasisUnitFault (bytes : List ℕ) (unit : ℕ) (wanted : List Pair) (past : List Item) (at : ℕ) (r : OasRecord) (bad : OasBad) : Type 0 where
  pub defined : HasAllNeeded past r
  pub rules : KeepsOasisRules bytes wanted (records_in past) r
  pub names : conflict_of bytes past r ≡ None
  pub disagrees : HasUnit unit r → ⊥
  pub bad_is : bad ≡ faults.Unit at

-- END hasn't 256 bytes or isn't the end of the file
pub record IsOasisTailFault (bytes : List ℕ) (unit : ℕ) (wanted : List Pair) (past : List Item) (at : ℕ) (r : OasRecord) (next : ℕ) (bad : OasBad) : Type 0 where
  pub defined : HasAllNeeded past r
  pub rules : KeepsOasisRules bytes wanted (records_in past) r
  pub names : conflict_of bytes past r ≡ None
  pub unit_agrees : HasUnit unit r
  pub ends : is_end r ≡ true
  pub tail : IsTail bytes at next → ⊥
  pub bad_is : bad ≡ faults.Tail at

abbrev pub IsRefused : List ℕ → ℕ → List Pair → List Item → ℕ → OasRecord → ℕ → OasBad → Type 0
IsRefused bytes unit wanted past at r next bad =
    IsOasisOrderFault past at r bad ⊎ IsUndefinedFault past at r bad ⊎ IsOasisValueFault bytes wanted past at r bad
    ⊎ IsOasisNameFault bytes wanted past at r bad ⊎ IsOasisUnitFault bytes unit wanted past at r bad
    ⊎ IsOasisTailFault bytes unit wanted past at r next bad

-- the record at the offset is refused
pub record IsOasisRecordFault (bytes : List ℕ) (unit : ℕ) (wanted : List Pair) (past : List Item) (at : ℕ) (bad : OasBad) : Type 0 where
  pub r : OasRecord
  pub next : ℕ
  pub stands : HasRecord bytes at (tables_at_end (records_in past)) r next
  pub refused : IsRefused bytes unit wanted past at r next bad

-- ---- the first fault

-- the records up to an offset are read, and what stands there isn't allowed
pub record IsFaultWithin (bytes : List ℕ) (unit : ℕ) (wanted : List Pair) (bad : OasBad) : Type 0 where
  pub past : List Item
  pub at : ℕ
  pub read : AreItemsReadUpTo bytes unit wanted past at
  pub fault : IsLexicalFault bytes past at bad ⊎ IsOasisRecordFault bytes unit wanted past at bad

-- the fault of names that all records show, in the order of the file
abbrev pub IsFaultOfNames : List ℕ → List Item → OasBad → Type 0
IsFaultOfNames bytes all bad =
    ((at : ℕ) × (first_unknown bytes (records_in all) all ≡ Some at) × (bad ≡ faults.Value at 3))
    ⊎ ((first : ℕ) × (second : ℕ) × (first_unknown bytes (records_in all) all ≡ None)
    × (first_twins bytes (records_in all) all ≡ Some (first, second)) × (bad ≡ faults.Names first second))

-- all records are read, and a name after END isn't allowed
pub record IsFaultBehind (bytes : List ℕ) (unit : ℕ) (wanted : List Pair) (bad : OasBad) : Type 0 where
  pub last : Item
  pub past : List Item
  pub next : ℕ
  pub whole : IsWholeFile bytes unit wanted last past next
  pub fault : IsFaultOfNames bytes (last ∷ past) bad

-- the bytes don't begin as every file does
pub record IsMagicFault (bytes : List ℕ) (bad : OasBad) : Type 0 where
  pub begins : take 13 bytes ≢ magic
  pub bad_is : bad ≡ faults.Magic

abbrev pub IsFirstOasisFault : List ℕ → ℕ → List Pair → OasBad → Type 0
IsFirstOasisFault bytes unit wanted bad =
    IsMagicFault bytes bad ⊎ IsFaultWithin bytes unit wanted bad ⊎ IsFaultBehind bytes unit wanted bad

-- ---- laws

abbrev pub OneLayout : Type 0
OneLayout =
    (bytes : List ℕ) (unit : ℕ) (wanted : List Pair) (one other : Layout) → IsOasisLayoutOf bytes unit wanted one
    → IsOasisLayoutOf bytes unit wanted other → one ≡ other

abbrev pub OneFault : Type 0
OneFault =
    (bytes : List ℕ) (unit : ℕ) (wanted : List Pair) (one other : OasBad) → IsFirstOasisFault bytes unit wanted one
    → IsFirstOasisFault bytes unit wanted other → one ≡ other

abbrev pub NoLayoutWithFault : Type 0
NoLayoutWithFault =
    (bytes : List ℕ) (unit : ℕ) (wanted : List Pair) (layout : Layout) (bad : OasBad)
    → IsOasisLayoutOf bytes unit wanted layout → IsFirstOasisFault bytes unit wanted bad → ⊥
