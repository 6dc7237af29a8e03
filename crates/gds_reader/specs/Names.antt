-- The table of the structures' names, as the program keeps it.
use Rattle.std.specs.Prelude.{◌≡◌, ◌-◌, ℕ, nat_eq, Bool, if◌then◌else◌, List, [], ◌∷◌, Option, Some, None}
use Rattle.std.specs.Cmp.Lexicographic.{pointwise}
use Rattle.indexmap.specs.IndexMap.{get_by}
use Rattle.gds_record.specs.declared.kinds.Kind.TheVariants.{StrName}
use Rattle.gds_record.specs.declared.records.Record.{Record}
use Rattle.gds_reader.specs.declared.naming.Names.{Names}
use Rattle.gds_reader.specs.declared.refusing.GdsBad.{GdsBad}
use Rattle.gds_reader.specs.declared.refusing.GdsBad.TheVariants as faults
use Rattle.gds_reader.specs.Past.{has_kind}
use Rattle.gds_reader.specs.Values.{name_in}

abbrev pub same_name : List ℕ → List ℕ → Bool
same_name a b = pointwise nat_eq a b

-- the offset of the last STRNAME with this name, if there is one
abbrev pub place_of : List ℕ → List ℕ → List Record → Option ℕ
place_of bytes name [] = None
place_of bytes name (r ∷ past) =
    if has_kind StrName r then (if same_name (name_in bytes r) name then Some (r.first - 4) else place_of bytes name past)
    else place_of bytes name past

-- what the table has for a name
abbrev pub place_in : Names → List ℕ → Option ℕ
place_in names name = get_by (λ key. same_name name key.now) names.places

-- the table has the names of these records
abbrev pub AreNamesOf : List ℕ → List Record → Names → Type 0
AreNamesOf bytes past names = (name : List ℕ) → place_in names name ≡ place_of bytes name past

-- the record is a STRNAME whose name stands before
abbrev pub IsTwice : List ℕ → List Record → Record → ℕ → GdsBad → Type 0
IsTwice bytes past r at bad =
    (r.kind ≡ StrName) × (first : ℕ) × (place_of bytes (name_in bytes r) past ≡ Some first) × (bad ≡ faults.Twice first at)
