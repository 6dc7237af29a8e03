-- The first fault of bytes that are no packed shot file, or one of too many shots, and its offset.
--
-- No head begins the bytes: the offset is the length of the longest prefix of the bytes that begins some head. Else the
-- first record that is refused is looked at, and the fault is the first of these that it has. It isn't whole: its id is
-- another, bit 80 of its info byte is set, its repetition isn't of kind 9 or bit 0 of its delta is clear, or the bytes
-- end inside it, each number being taken up to its first byte below 80 hex. It isn't spelled as it should be: a number
-- isn't in its shortest form or is wide, the bit for the west is set where x is 0, or the id isn't that of the deltas. A
-- field has no value. The pair isn't the first record's. There are too many shots. A shot's fields are those of no shot.
-- A record whose first byte is 2 is END, and is right exactly where it is END of a shot file and the file's end.
use Rattle.std.specs.Prelude.{ℕ, ◌≡◌, ◌≢◌, ◌⊎◌, ◌+◌, ◌/◌, ◌%◌, ◌<◌, ◌≤◌, Bool, true, false, nat_eq, List, [], ◌∷◌, ◌++◌}
use Rattle.std.specs.Prelude.{map, length, take, drop, flat_map, sum_by, Option, Some, None, All, if◌then◌else◌}
use Rattle.std.specs.List.{concat}
use Rattle.half_grid.specs.Trapezoids.{Trapezoid, IsShot}
use Rattle.layout_model.specs.declared.pair.Pair.{Pair}
use Rattle.oas_lex.specs.ShotText.{IsUnit, head, end, fields_of}
use Rattle.shot_reader.specs.Reading.{AgreesWithPair}
use Rattle.shot_reader.specs.Refusals.{IsHeadFault, IsNumber, BeginsEnd}
use Rattle.shot_repeat.specs.Packed.{most_of_file, HasFew}
use Rattle.shot_repeat.specs.Records.{IsNarrow, record_text}
use Rattle.shot_repeat.specs.Values.{IsDefined, fields_in, shot_count, given}
use Rattle.shot_repeat.specs.declared.record.PackRecord.{PackRecord}
use Rattle.shot_repeat.specs.declared.refusing.PackBad.{PackBad}
use Rattle.shot_repeat.specs.declared.refusing.PackBad.TheVariants as faults

-- ---- the bytes of one record

-- whether the bit of this weight is set
abbrev pub has : ℕ → ℕ → Bool
has info weight = nat_eq (info / weight % 2) 1

abbrev pub one_or_none : Bool → ℕ
one_or_none there = if there then 1 else 0

-- how many numbers the info byte says, those of the deltas and of the repetition aside
abbrev pub written_of : ℕ → ℕ
written_of info =
    one_or_none (has info 1) + one_or_none (has info 2) + one_or_none (has info 64) + one_or_none (has info 32)
    + one_or_none (has info 16) + one_or_none (has info 8)

-- the id is one of a shot's record, which has so many numbers with this info byte, those of its repetition aside
abbrev pub HasWrittenCount : ℕ → ℕ → ℕ → Type 0
HasWrittenCount id info count =
    ((id ≡ 20) × (count ≡ written_of info)) ⊎ ((id ≡ 23) × (count ≡ written_of info + 2))
    ⊎ ((id ≡ 24) × (count ≡ written_of info + 1)) ⊎ ((id ≡ 25) × (count ≡ written_of info + 1))

-- the kind 9, a dimension, and a delta of two numbers, in the first byte of which bit 0 is set
pub record IsRepetition (bytes : List ℕ) : Type 0 where
  pub dimension : List ℕ
  pub dimension_ends : IsNumber dimension
  pub first : ℕ
  pub odd : first % 2 ≡ 1
  pub x : List ℕ
  pub x_ends : IsNumber (first ∷ x)
  pub y : List ℕ
  pub y_ends : IsNumber y
  pub text : bytes ≡ 9 ∷ dimension ++ (first ∷ x) ++ y

-- the repetition of a record with this info byte
abbrev pub IsRepetitionIf : Bool → List ℕ → Type 0
IsRepetitionIf true bytes = IsRepetition bytes
IsRepetitionIf false bytes = bytes ≡ []

abbrev pub IsRepetitionOf : ℕ → List ℕ → Type 0
IsRepetitionOf info bytes = IsRepetitionIf (has info 4) bytes

-- the bytes begin with an id of a shot's record, an info byte below 80 hex, all its numbers and its repetition
pub record IsWholePackRecord (rest : List ℕ) : Type 0 where
  pub id : ℕ
  pub info : ℕ
  pub low : info < 128
  pub numbers : List (List ℕ)
  pub count : HasWrittenCount id info (length numbers)
  pub ends : All IsNumber numbers
  pub repetition : List ℕ
  pub repeats : IsRepetitionOf info repetition
  pub after : List ℕ
  pub text : rest ≡ id ∷ info ∷ concat numbers ++ (repetition ++ after)

-- the bytes begin with the one spelling of this record
pub record IsPackSpelled (rest : List ℕ) (r : PackRecord) : Type 0 where
  pub narrow : IsNarrow r
  pub after : List ℕ
  pub text : rest ≡ record_text r ++ after

-- ---- the values of one record

-- the layer and the datatype of the first record, where there is one
abbrev pub first_pair : List PackRecord → Option Pair
first_pair [] = None
first_pair (r ∷ rest) = Some (record { layer = (fields_in [] r).layer; datatype = (fields_in [] r).datatype })

-- the pair of a record after these is the first record's
abbrev pub HasFirstPair : List PackRecord → PackRecord → Type 0
HasFirstPair before r = AgreesWithPair (first_pair before) (fields_in before r).layer (fields_in before r).datatype

-- how many shots the records give
abbrev pub count_given : List PackRecord → ℕ
count_given records = sum_by (λ (r : PackRecord). shot_count r.repetition) records

-- a record after these gives few enough shots, and the file up to it has few enough
pub record IsFewAfter (before : List PackRecord) (r : PackRecord) : Type 0 where
  pub own : HasFew r
  pub all : count_given before + shot_count r.repetition ≤ most_of_file

-- each shot that a record after these gives is one
pub record IsLegalAfter (before : List PackRecord) (r : PackRecord) : Type 0 where
  pub shots : List Trapezoid
  pub legal : All IsShot shots
  pub are : map (fields_of (fields_in before r).layer (fields_in before r).datatype) shots ≡ given before r

-- what is wrong with a record after these, though it is spelled as it should be
abbrev pub IsPackValueFault : List PackRecord → PackRecord → ℕ → PackBad → Type 0
IsPackValueFault before r at bad =
    ((bad ≡ faults.Undefined at) × (IsDefined before r → ⊥))
    ⊎ (IsDefined before r × (((bad ≡ faults.Pair at) × (HasFirstPair before r → ⊥))
    ⊎ (HasFirstPair before r × (((bad ≡ faults.Many at) × (IsFewAfter before r → ⊥))
    ⊎ (IsFewAfter before r × (bad ≡ faults.Illegal at) × (IsLegalAfter before r → ⊥))))))

-- what is wrong with the record that begins here, after these records
abbrev pub IsPackRecordFault : List PackRecord → List ℕ → ℕ → PackBad → Type 0
IsPackRecordFault before rest at bad =
    ((bad ≡ faults.End at) × BeginsEnd rest × (rest ≢ end))
    ⊎ ((bad ≡ faults.Record at) × (BeginsEnd rest → ⊥) × (IsWholePackRecord rest → ⊥))
    ⊎ ((bad ≡ faults.Spelling at) × IsWholePackRecord rest × ((r : PackRecord) → IsPackSpelled rest r → ⊥))
    ⊎ ((r : PackRecord) × IsPackSpelled rest r × IsPackValueFault before r at bad)

-- ---- the file

-- nothing is wrong with a record after these
pub record IsRight (before : List PackRecord) (r : PackRecord) : Type 0 where
  pub narrow : IsNarrow r
  pub defined : IsDefined before r
  pub pair : HasFirstPair before r
  pub few : IsFewAfter before r
  pub legal : IsLegalAfter before r

-- nor with any of these, each after those before it
abbrev pub AreRight : List PackRecord → List PackRecord → Type 0
AreRight before [] = Unit {0}
AreRight before (r ∷ rest) = IsRight before r × AreRight (before ++ r ∷ []) rest

-- before this offset stand a head and these records, with which nothing is wrong
pub record ArePackRecordsReadUpTo (bytes : List ℕ) (at : ℕ) (records : List PackRecord) : Type 0 where
  pub within : at ≤ length bytes
  pub unit : ℕ
  pub unit_fits : IsUnit unit
  pub right : AreRight [] records
  pub text : take at bytes ≡ head unit ++ flat_map record_text records

-- this is the first fault of the bytes
abbrev pub IsFirstPackFault : List ℕ → PackBad → Type 0
IsFirstPackFault bytes bad =
    ((n : ℕ) × (bad ≡ faults.Head n) × IsHeadFault bytes n)
    ⊎ ((at : ℕ) × (records : List PackRecord) × ArePackRecordsReadUpTo bytes at records × IsPackRecordFault records (drop at bytes) at bad)
