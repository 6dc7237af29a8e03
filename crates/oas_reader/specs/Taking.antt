-- A record that is being taken, by what the program keeps of it.
use Rattle.std.specs.Prelude.{◌≡◌, ◌⊎◌, ◌↔◌, ℕ, IsTrue, Bool, if◌then◌else◌, List, ◌∷◌, Option, Some, None}
use Rattle.layout_model.specs.Names.{IsName}
use Rattle.layout_model.specs.declared.pair.Pair.{Pair}
use Rattle.oas_record.specs.Taken.{repetition_in}
use Rattle.oas_record.specs.declared.records.NameKind.TheVariants as kinds
use Rattle.oas_record.specs.declared.records.OasRecord.{OasRecord}
use Rattle.oas_record.specs.declared.records.OasRecord.TheVariants as records
use Rattle.oas_shapes.specs.Repetitions.{HasDimensionsIn}
use Rattle.oas_fields.specs.Values.{AreFields, repetition_of}
use Rattle.oas_fields.specs.declared.fields.Fields.{Fields}
use Rattle.oas_fields.specs.declared.variables.Variable.{Variable}
use Rattle.oas_reader.specs.Bodies.{body_of}
use Rattle.oas_reader.specs.Items.{Item, text_in}
use Rattle.oas_reader.specs.Meaning.{is_wanted, has_pair}
use Rattle.oas_reader.specs.Names.{conflict_of}
use Rattle.oas_reader.specs.Naming.{IsSpan, IsCalledWithin, AreCalledWithin}
use Rattle.oas_reader.specs.Placed.{IsTurning}
use Rattle.oas_reader.specs.Rules.{IsNameWhereWritten, KeepsOasisRule, IsLowestBrokenByItem}
use Rattle.oas_reader.specs.Undefined.{is_there, undefined_of}
use Rattle.layout_model.specs.Pairs.{AreSamePairs}
use Rattle.oas_reader.specs.declared.bodies.Body.{Body}
use Rattle.oas_reader.specs.declared.bodies.Body.TheVariants as bodies
use Rattle.oas_reader.specs.declared.bodies.Outline.{Outline}
use Rattle.oas_reader.specs.declared.refusing.OasBad.{OasBad}
use Rattle.oas_reader.specs.declared.refusing.OasBad.TheVariants as faults

-- what is looked at of the record
pub record IsOutlineOf (r : OasRecord) (outline : Outline) : Type 0 where
  pub body : outline.body ≡ body_of r
  pub repeats : outline.repeats ≡ is_there (repetition_in r)
  pub dimensions : IsTrue outline.has_dimensions ↔ HasDimensionsIn (repetition_in r)

-- its strings lie within the bytes, and its quarter turns are up to three
abbrev pub IsBodyWithin : List ℕ → Body → Type 0
IsBodyWithin bytes (bodies.Start span unit offset_flag) = IsSpan bytes span
IsBodyWithin bytes (bodies.CellName name number) = IsSpan bytes name
IsBodyWithin bytes (bodies.Cell called) = IsCalledWithin bytes called
IsBodyWithin bytes (bodies.Placement called flips turning) = AreCalledWithin bytes called × IsTurning turning
IsBodyWithin bytes _ = Unit {0}

-- the record's outline and the fields after it; the dimensions of the last repetition before it are allowed
pub record IsTaken (wanted sorted : List Pair) (past : List OasRecord) (r : OasRecord) (outline : Outline) (fields : Fields) : Type 0 where
  pub same : AreSamePairs wanted sorted
  pub looked_at : IsOutlineOf r outline
  pub values : AreFields (r ∷ past) fields
  pub last_allowed : HasDimensionsIn (repetition_of past)

-- whether its pair is wanted, where it has one
abbrev pub wanting_of : List Pair → List OasRecord → OasRecord → Option Bool
wanting_of wanted past r = if has_pair r then Some (is_wanted wanted (r ∷ past)) else None

-- ---- values

-- the name that a CELLNAME or CELL record writes is one
abbrev pub KeepsOwnName : List ℕ → OasRecord → Type 0
KeepsOwnName bytes (records.Name kinds.Cell text number) = IsName (text_in bytes text)
KeepsOwnName bytes (records.Cell name) = IsNameWhereWritten bytes (Some name)
KeepsOwnName bytes _ = Unit {0}

-- all values that it needs are there, and it keeps all rules but that of its own name
pub record AreValuesKept (bytes : List ℕ) (wanted : List Pair) (past : List OasRecord) (r : OasRecord) : Type 0 where
  pub defined : undefined_of past r ≡ None
  pub rules : (rule : ℕ) → (rule ≡ 2 → KeepsOwnName bytes r) → KeepsOasisRule bytes wanted past r rule

-- a value that isn't there, or the lowest rule that is broken
abbrev pub IsBadValue : List ℕ → List Pair → List OasRecord → ℕ → OasRecord → OasBad → Type 0
IsBadValue bytes wanted past at r bad =
    ((variable : Variable) × (undefined_of past r ≡ Some variable) × (bad ≡ faults.Undefined at variable))
    ⊎ ((rule : ℕ) × (undefined_of past r ≡ None) × IsLowestBrokenByItem bytes wanted past r rule × (bad ≡ faults.Value at rule))

-- ---- names

-- bytes that are no name, or a conflict with an earlier record
abbrev pub IsBadName : List ℕ → List Item → ℕ → OasRecord → OasBad → Type 0
IsBadName bytes past at r bad =
    ((KeepsOwnName bytes r → ⊥) × (bad ≡ faults.Value at 2))
    ⊎ (KeepsOwnName bytes r × (first : ℕ) × (conflict_of bytes past r ≡ Some first) × (bad ≡ faults.Names first at))
