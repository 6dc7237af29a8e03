-- Records by what is kept of them: those that name a cell.
use Rattle.std.proofs.Common.{◌≡◌, ℕ, Bool, true, false, List, ◌∷◌, Option, None, refl, sym, ap, subst, ◌∙◌, inr}
use Rattle.geo_stream.specs.Refusals.{IsForFault}
use Rattle.geo_stream.specs.declared.refusal.Refusal.{Refusal}
use Rattle.geo_stream.specs.declared.refusal.Refusal.TheVariants.{Fault, NoMemory}
use Rattle.oas_record.specs.declared.fields.Called.{Called}
use Rattle.oas_record.specs.declared.records.NameKind.TheVariants as kinds
use Rattle.oas_record.specs.declared.records.OasRecord.{OasRecord}
use Rattle.oas_record.specs.declared.records.OasRecord.TheVariants as records
use Rattle.oas_record.specs.declared.shapes.ShapeKind.TheVariants as shapes
use Rattle.oas_fields.specs.Values.{begins_cell}
use Rattle.oas_reader.specs.Bodies.{body_of}
use Rattle.oas_reader.specs.Items.{Item, records_in}
use Rattle.oas_reader.specs.Names.{NoClaim, claim_of, conflict_of, first_conflict}
use Rattle.oas_reader.specs.Naming.{cell_name_record, cell_record, Calls, IsConflict, AreNamesOf}
use Rattle.oas_reader.specs.Reading.{item}
use Rattle.oas_reader.specs.declared.naming.Names.{Names}
use Rattle.oas_reader.specs.Taking.{KeepsOwnName, IsBadName}
use Rattle.oas_reader.specs.declared.refusing.OasBad.{OasBad}
use Rattle.oas_reader.specs.declared.bodies.Body.{Body}
use Rattle.oas_reader.specs.declared.bodies.Body.TheVariants as bodies
use Rattle.oas_reader.specs.declared.bodies.Turning.{Turning}
use Rattle.oas_reader.proofs.NameLemmas.{none_conflicts, NamesNothing, names_kept}

-- ---- bodies

abbrev pub is_cell : Body → Bool
is_cell (bodies.Cell called) = true
is_cell _ = false

abbrev pub is_placement : Body → Bool
is_placement (bodies.Placement called flips turning) = true
is_placement _ = false

abbrev pub is_named : Body → Bool
is_named (bodies.CellName name number) = true
is_named (bodies.Cell called) = true
is_named _ = false

abbrev pub is_silent : Body → Bool
is_silent (bodies.CellName name number) = false
is_silent (bodies.Cell called) = false
is_silent (bodies.Placement called flips turning) = false
is_silent _ = true

abbrev pub called_in : Body → Option Called
called_in (bodies.Placement called flips turning) = called
called_in _ = None

-- the record that has a name of its own
abbrev pub record_of : Body → OasRecord
record_of (bodies.CellName name number) = cell_name_record name number
record_of (bodies.Cell called) = cell_record called
record_of _ = records.Pad

pub silent_by : (body : Body) → ((name : ℕ × ℕ) (number : Option ℕ) → body ≡ bodies.CellName name number → ⊥)
    → ((called : Called) → body ≡ bodies.Cell called → ⊥)
    → ((called : Option Called) (flips : Bool) (turning : Turning) → body ≡ bodies.Placement called flips turning → ⊥)
    → is_silent body ≡ true
silent_by (bodies.CellName name number) no_name no_cell no_placement = absurd (no_name name number refl)
silent_by (bodies.Cell called) no_name no_cell no_placement = absurd (no_cell called refl)
silent_by (bodies.Placement called flips turning) no_name no_cell no_placement = absurd (no_placement called flips turning refl)
silent_by body no_name no_cell no_placement = refl

-- ---- records

named_back : (r : OasRecord) → is_named (body_of r) ≡ true → record_of (body_of r) ≡ r
named_back (records.Name kinds.Cell text number) h = refl
named_back (records.Cell name) h = refl
named_back (records.Shape head (shapes.Circle radius)) h = absurd (cc)
named_back r h = absurd (cc)

pub name_back : (r : OasRecord) (body : Body) → body ≡ body_of r → is_named body ≡ true → record_of body ≡ r
name_back r body e named = ap record_of e ∙ named_back r (sym (ap is_named e) ∙ named)

pub cell_begins : (r : OasRecord) → begins_cell r ≡ is_cell (body_of r)
cell_begins (records.Name kinds.Cell text number) = refl
cell_begins (records.Shape head (shapes.Circle radius)) = refl
cell_begins r = refl

pub own_kept : (bytes : List ℕ) (r : OasRecord) → is_named (body_of r) ≡ false → KeepsOwnName bytes r
own_kept bytes (records.Name kinds.Cell text number) h = absurd (cc)
own_kept bytes (records.Cell name) h = absurd (cc)
own_kept bytes r h = tt

pub silent_others : (bytes : List ℕ) (past : List OasRecord) (r : OasRecord) → is_silent (body_of r) ≡ true → NamesNothing bytes past r
silent_others bytes past (records.Name kinds.Cell text number) h = absurd (cc)
silent_others bytes past (records.Cell name) h = absurd (cc)
silent_others bytes past (records.Placement info cell turn x y repetition) h = absurd (cc)
silent_others bytes past r h = record { claims = refl; gives = refl; counts = refl; writes = λ test. refl }

placement_calls : (bytes : List ℕ) (past : List OasRecord) (r : OasRecord) → is_placement (body_of r) ≡ true
    → Calls bytes past r (called_in (body_of r))
placement_calls bytes past (records.Name kinds.Cell text number) h = absurd (cc)
placement_calls bytes past (records.Placement info cell turn x y repetition) h =
    record { written = refl; claims = refl; gives = refl; counts = refl }
placement_calls bytes past (records.Shape head (shapes.Circle radius)) h = absurd (cc)
placement_calls bytes past r h = absurd (cc)

pub calls_by : (bytes : List ℕ) (past : List OasRecord) (r : OasRecord) (called : Option Called) (flips : Bool) (turning : Turning)
    → bodies.Placement called flips turning ≡ body_of r → Calls bytes past r called
calls_by bytes past r called flips turning e =
    subst (Calls bytes past r) (sym (ap called_in e)) (placement_calls bytes past r (sym (ap is_placement e)))

pub no_conflict : (bytes : List ℕ) (past : List Item) (r : OasRecord) → claim_of bytes (records_in past) r ≡ NoClaim
    → conflict_of bytes past r ≡ None
no_conflict bytes past r none = ap (λ claim. first_conflict bytes claim past) none ∙ none_conflicts bytes past

-- ---- names of their own

pub bad_name : (bytes : List ℕ) (past : List Item) (at : ℕ) (r : OasRecord) (refusal : Refusal OasBad) → KeepsOwnName bytes r
    → IsForFault (IsConflict bytes past r at) refusal → IsForFault (IsBadName bytes past at r) refusal
bad_name bytes past at r (Fault bad) own (first, conflict, is) = inr (own, first, conflict, is)
bad_name bytes past at r NoMemory own h = tt

-- ---- a record of no names

pub record Silent (bytes : List ℕ) (at : ℕ) (body : Body) : Type 0 where
  pub own : (r : OasRecord) → body ≡ body_of r → KeepsOwnName bytes r
  pub new : (past : List Item) (r : OasRecord) → body ≡ body_of r → conflict_of bytes past r ≡ None
  pub names : (past : List Item) (r : OasRecord) (names : Names) → body ≡ body_of r → AreNamesOf bytes past names
      → AreNamesOf bytes (item at r ∷ past) names
  pub begins : (r : OasRecord) → body ≡ body_of r → begins_cell r ≡ false

not_named : (body : Body) → is_silent body ≡ true → is_named body ≡ false
not_named (bodies.CellName name number) h = absurd (cc)
not_named (bodies.Cell called) h = absurd (cc)
not_named body h = refl

not_cell : (body : Body) → is_silent body ≡ true → is_cell body ≡ false
not_cell (bodies.Cell called) h = absurd (cc)
not_cell body h = refl

pub silent : (bytes : List ℕ) (at : ℕ) (body : Body) → is_silent body ≡ true → Silent bytes at body
silent bytes at body h = record {
  own = λ r e. own_kept bytes r (ap is_named (sym e) ∙ not_named body h);
  new = λ past r e. no_conflict bytes past r (silent_others bytes (records_in past) r (ap is_silent (sym e) ∙ h)).claims;
  names = λ past r names e are. names_kept bytes past names at r (silent_others bytes (records_in past) r (ap is_silent (sym e) ∙ h)) are;
  begins = λ r e. cell_begins r ∙ ap is_cell (sym e) ∙ not_cell body h;
}
