-- The tables of names, as the program keeps them.
use Rattle.std.specs.Prelude.{◌≡◌, ◌≤◌, ℕ, nat_eq, Bool, false, if◌then◌else◌, List, [], ◌∷◌, Option, Some, None, IfSome, length}
use Rattle.indexmap.specs.IndexMap.{get, get_by}
use Rattle.layout_model.specs.Names.{IsName}
use Rattle.oas_record.specs.declared.fields.Called.{Called}
use Rattle.oas_record.specs.declared.fields.Called.TheVariants.{Number, Text}
use Rattle.oas_record.specs.declared.records.NameKind.TheVariants as kinds
use Rattle.oas_record.specs.declared.records.OasRecord.{OasRecord}
use Rattle.oas_record.specs.declared.records.OasRecord.TheVariants as records
use Rattle.oas_fields.specs.Values.{or_else}
use Rattle.oas_reader.specs.declared.naming.Given.{Given}
use Rattle.oas_reader.specs.declared.naming.Numbering.{Numbering}
use Rattle.oas_reader.specs.declared.naming.Names.{Names}
use Rattle.oas_reader.specs.declared.naming.Cells.{Cells}
use Rattle.oas_reader.specs.declared.refusing.OasBad.{OasBad}
use Rattle.oas_reader.specs.declared.refusing.OasBad.TheVariants as faults
use Rattle.oas_reader.specs.Items.{Item, records_in, text_in, count_in}
use Rattle.oas_reader.specs.Names.{same_name, same_bool, some_if, is_unnumbered, cell_called, target_called, OfNumber}
use Rattle.oas_reader.specs.Names.{OfName, NoClaim, claim_of, number_given, first_conflict, conflict_of, name_of_number}
use Rattle.oas_reader.specs.Names.{first_named}

-- ---- strings

-- they lie within the bytes
abbrev pub IsSpan : List ℕ → ℕ × ℕ → Type 0
IsSpan bytes span = (span.0 ≤ span.1) × (span.1 ≤ length bytes)

abbrev pub IsCalledWithin : List ℕ → Called → Type 0
IsCalledWithin bytes (Number number) = Unit {0}
IsCalledWithin bytes (Text first next) = IsSpan bytes (first, next)

abbrev pub AreCalledWithin : List ℕ → Option Called → Type 0
AreCalledWithin bytes None = Unit {0}
AreCalledWithin bytes (Some called) = IsCalledWithin bytes called

-- the bytes are no name
abbrev pub IsNoName : List ℕ → ℕ → OasBad → Type 0
IsNoName name at bad = (IsName name → ⊥) × (bad ≡ faults.Value at 2)

-- ---- records of names

abbrev pub cell_name_record : ℕ × ℕ → Option ℕ → OasRecord
cell_name_record name number = records.Name kinds.Cell name number

abbrev pub cell_record : Called → OasRecord
cell_record called = records.Cell called

-- the record conflicts with an earlier one
abbrev pub IsConflict : List ℕ → List Item → OasRecord → ℕ → OasBad → Type 0
IsConflict bytes past r at bad = (first : ℕ) × (conflict_of bytes past r ≡ Some first) × (bad ≡ faults.Names first at)

-- ---- what the tables have

abbrev pub place_by : Option Given → Option ℕ
place_by None = None
place_by (Some given) = Some given.at

abbrev pub conflict_with : Option Numbering → Bool → Option ℕ → Option ℕ
conflict_with None is_written other = other
conflict_with (Some numbering) is_written other =
    if same_bool numbering.is_written is_written then other else Some numbering.at

abbrev pub given_in : Names → ℕ → Option Given
given_in names number = get nat_eq names.given number

-- the offset of the first CELLNAME that conflicts with one of this number
abbrev pub conflict_in : Names → Bool → ℕ → Option ℕ
conflict_in names is_written number = conflict_with names.numbering is_written (place_by (given_in names number))

abbrev pub text_by : List ℕ → Option Given → Option (List ℕ)
text_by bytes None = None
text_by bytes (Some given) = Some (text_in bytes (given.first, given.next))

abbrev pub cell_in : Names → List ℕ → Option ℕ
cell_in names name = get_by (λ key. same_name name key.now) names.cells

-- the first entry whose number passes a test
abbrev pub first_marked : (ℕ → Bool) → List (ℕ × ℕ) → Option ℕ
first_marked test [] = None
first_marked test (entry ∷ entries) = if test entry.0 then Some entry.1 else first_marked test entries

abbrev pub passes : (ℕ → Bool) → Option Called → Bool
passes test None = false
passes test (Some (Number number)) = test number
passes test (Some (Text first next)) = false

-- the first record of the file that writes a cell's number which passes a test
abbrev pub first_mention : (ℕ → Bool) → List Item → Option ℕ
first_mention test [] = None
first_mention test (item ∷ past) =
    or_else (first_mention test past) (some_if (passes test (or_else (cell_called item.r) (target_called item.r))) item.at)

-- the strings in the table lie within the bytes
abbrev pub HaveSpans : List ℕ → Names → Type 0
HaveSpans bytes names = (number : ℕ) → IfSome (given_in names number) (λ given. IsSpan bytes (given.first, given.next))

-- the tables have the names of these records
pub record AreNamesOf (bytes : List ℕ) (past : List Item) (names : Names) : Type 0 where
  pub numbers : (is_written : Bool) (number : ℕ) → conflict_in names is_written number ≡ first_conflict bytes (OfNumber is_written number) past
  pub none_given : names.numbering ≡ None → (number : ℕ) → given_in names number ≡ None
  pub counted : names.counted ≡ count_in (λ _ r. is_unnumbered r) (records_in past)
  pub texts : (number : ℕ) → text_by bytes (given_in names number) ≡ name_of_number bytes (records_in past) number
  pub cells : (name : List ℕ) → cell_in names name ≡ first_conflict bytes (OfName name) past
  pub used : (test : ℕ → Bool) → first_marked test names.used.entries ≡ first_mention test past

-- the record calls a cell so, or writes none, and gives no name
pub record Calls (bytes : List ℕ) (past : List OasRecord) (r : OasRecord) (called : Option Called) : Type 0 where
  pub written : or_else (cell_called r) (target_called r) ≡ called
  pub claims : claim_of bytes past r ≡ NoClaim
  pub gives : number_given past r ≡ None
  pub counts : is_unnumbered r ≡ false

-- by this number
abbrev pub Mentions : List ℕ → List OasRecord → OasRecord → ℕ → Type 0
Mentions bytes past r number = Calls bytes past r (Some (Number number))

-- ---- cells after END

abbrev pub place_in : Cells → List ℕ → Option ℕ
place_in cells name = get_by (λ key. same_name name key.now) cells.places

-- the table has the names of these cells, the names of the whole file being known
abbrev pub AreCellsOf : List ℕ → List OasRecord → List Item → Cells → Type 0
AreCellsOf bytes all past cells = (name : List ℕ) → place_in cells name ≡ first_named bytes all (Some name) past

-- an earlier cell has the name
abbrev pub IsTwin : List ℕ → List OasRecord → List Item → List ℕ → ℕ → OasBad → Type 0
IsTwin bytes all past name at bad =
    (first : ℕ) × (first_named bytes all (Some name) past ≡ Some first) × (bad ≡ faults.Names first at)
