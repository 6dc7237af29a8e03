-- Names of cells (SEMI P39 1.0, CELLNAME, CELL and PLACEMENT records).
--
-- A number of a cell means the CELLNAME record, anywhere in the file, that gives its name this number: one with id 4
-- writes it, those with id 3 are counted from 0. Two records conflict where they give one number, where one CELLNAME
-- writes its number and another doesn't, or where two cells have one name.
use Rattle.std.specs.Prelude.{ℕ, nat_eq, Bool, true, false, not, ◌||◌, if◌then◌else◌, List, [], ◌∷◌, Option, Some, None, slice_range}
use Rattle.std.specs.Cmp.Lexicographic.{pointwise}
use Rattle.oas_record.specs.declared.fields.Called.{Called}
use Rattle.oas_record.specs.declared.fields.Called.TheVariants.{Number, Text}
use Rattle.oas_record.specs.declared.records.NameKind.TheVariants as kinds
use Rattle.oas_record.specs.declared.records.OasRecord.{OasRecord}
use Rattle.oas_record.specs.declared.records.OasRecord.TheVariants as records
use Rattle.oas_fields.specs.Values.{or_else}
use Rattle.oas_reader.specs.Items.{Item, records_in, text_in, count_in}

abbrev pub same_name : List ℕ → List ℕ → Bool
same_name a b = pointwise nat_eq a b

-- ---- what a record gives

-- a CELLNAME that doesn't write its number
abbrev pub is_unnumbered : OasRecord → Bool
is_unnumbered (records.Name kinds.Cell text None) = true
is_unnumbered _ = false

-- the number that a CELLNAME gives its name
abbrev pub number_given : List OasRecord → OasRecord → Option ℕ
number_given past (records.Name kinds.Cell text None) = Some (count_in (λ _ r. is_unnumbered r) past)
number_given past (records.Name kinds.Cell text (Some number)) = Some number
number_given past _ = None

-- the name that it gives
abbrev pub name_given : List ℕ → OasRecord → List ℕ
name_given bytes (records.Name kinds.Cell text number) = text_in bytes text
name_given bytes _ = []

-- what a CELL record calls its cell
abbrev pub cell_called : OasRecord → Option Called
cell_called (records.Cell name) = Some name
cell_called _ = None

-- what a PLACEMENT calls the placed cell, where it writes it
abbrev pub target_called : OasRecord → Option Called
target_called (records.Placement info cell turn x y repetition) = cell
target_called _ = None

-- ---- conflicts while the records are read

-- what of a record can conflict: a number, written or counted, or a cell's name that is written
pub data Claim : Type 0 where
  NoClaim : Claim
  OfNumber : Bool → ℕ → Claim
  OfName : List ℕ → Claim

abbrev pub claim_of : List ℕ → List OasRecord → OasRecord → Claim
claim_of bytes past (records.Name kinds.Cell text None) = OfNumber false (count_in (λ _ r. is_unnumbered r) past)
claim_of bytes past (records.Name kinds.Cell text (Some number)) = OfNumber true number
claim_of bytes past (records.Cell (Text first next)) = OfName (text_in bytes (first, next))
claim_of bytes past _ = NoClaim

abbrev pub same_bool : Bool → Bool → Bool
same_bool true b = b
same_bool false b = not b

abbrev pub do_conflict : Claim → Claim → Bool
do_conflict (OfNumber is_written n) (OfNumber is_written_too m) = not (same_bool is_written is_written_too) || nat_eq n m
do_conflict (OfName a) (OfName b) = same_name a b
do_conflict _ _ = false

abbrev pub some_if : Bool → ℕ → Option ℕ
some_if true at = Some at
some_if false at = None

-- the offset of the first record of the file that conflicts with a claim
abbrev pub first_conflict : List ℕ → Claim → List Item → Option ℕ
first_conflict bytes claim [] = None
first_conflict bytes claim (item ∷ past) =
    or_else (first_conflict bytes claim past) (some_if (do_conflict (claim_of bytes (records_in past) item.r) claim) item.at)

-- that of a record after these
abbrev pub conflict_of : List ℕ → List Item → OasRecord → Option ℕ
conflict_of bytes past r = first_conflict bytes (claim_of bytes (records_in past) r) past

-- ---- names by number, over the whole file

abbrev pub has_number : ℕ → Option ℕ → Bool
has_number number None = false
has_number number (Some given) = nat_eq given number

-- the name with a number
abbrev pub name_of_number : List ℕ → List OasRecord → ℕ → Option (List ℕ)
name_of_number bytes [] number = None
name_of_number bytes (r ∷ past) number =
    if has_number number (number_given past r) then Some (name_given bytes r) else name_of_number bytes past number

abbrev pub name_called : List ℕ → List OasRecord → Called → Option (List ℕ)
name_called bytes all (Number number) = name_of_number bytes all number
name_called bytes all (Text first next) = Some (slice_range bytes first next)

-- ---- after END

abbrev pub is_none : {A : Type 0} → Option A → Bool
is_none None = true
is_none (Some a) = false

-- nothing has the number that is written
abbrev pub is_unknown : List ℕ → List OasRecord → Option Called → Bool
is_unknown bytes all None = false
is_unknown bytes all (Some called) = is_none (name_called bytes all called)

-- the offset of the first CELL or PLACEMENT of the file whose number no CELLNAME gives
abbrev pub first_unknown : List ℕ → List OasRecord → List Item → Option ℕ
first_unknown bytes all [] = None
first_unknown bytes all (item ∷ past) =
    or_else (first_unknown bytes all past) (some_if (is_unknown bytes all (or_else (cell_called item.r) (target_called item.r))) item.at)

-- the name of the cell that a CELL record begins
abbrev pub cell_name : List ℕ → List OasRecord → Option Called → Option (List ℕ)
cell_name bytes all None = None
cell_name bytes all (Some called) = name_called bytes all called

abbrev pub have_one_name : Option (List ℕ) → Option (List ℕ) → Bool
have_one_name (Some a) (Some b) = same_name a b
have_one_name _ _ = false

-- the offset of the first CELL of the file with this name
abbrev pub first_named : List ℕ → List OasRecord → Option (List ℕ) → List Item → Option ℕ
first_named bytes all name [] = None
first_named bytes all name (item ∷ past) =
    or_else (first_named bytes all name past) (some_if (have_one_name name (cell_name bytes all (cell_called item.r))) item.at)

abbrev pub with_second : ℕ → Option ℕ → Option (ℕ × ℕ)
with_second second None = None
with_second second (Some first) = Some (first, second)

-- the first CELL of the file that has the name of an earlier one, and the first such one
abbrev pub first_twins : List ℕ → List OasRecord → List Item → Option (ℕ × ℕ)
first_twins bytes all [] = None
first_twins bytes all (item ∷ past) =
    or_else (first_twins bytes all past) (with_second item.at (first_named bytes all (cell_name bytes all (cell_called item.r)) past))
