-- The first fault of bytes that are no shot file, and its offset.
--
-- No head begins the bytes: the offset is the length of the longest prefix of the bytes that begins some head. Else the
-- first record that isn't a shot's is looked at, and the fault is the first of these that it has. It isn't whole: its id
-- or its info byte is another, or the bytes end inside it, each number being taken up to its first byte below 80 hex. It
-- isn't spelled as it should be: a number isn't in its shortest form or is wide, the id isn't that of the deltas, or the
-- pair isn't the first record's. Its fields are those of no shot. A record whose first byte is 2 is END, and is right
-- exactly where it is END of a shot file and the file's end.
use Rattle.std.specs.Prelude.{ℕ, ◌≡◌, ◌≢◌, ◌⊎◌, ◌<◌, ◌≤◌, List, [], ◌∷◌, ◌++◌, length, take, drop, flat_map, Option, All}
use Rattle.std.specs.List.{concat}
use Rattle.half_grid.specs.Trapezoids.{Trapezoid, IsShot}
use Rattle.layout_model.specs.declared.pair.Pair.{Pair}
use Rattle.oas_lex.specs.ShotLaws.{IsNarrowPair}
use Rattle.oas_lex.specs.ShotText.{IsUnit, head, end, AreNarrow, text_of, spelling_of}
use Rattle.shot_reader.specs.Fields.{HasShape}
use Rattle.shot_reader.specs.Reading.{IsPairOf, AgreesWithPair}
use Rattle.oas_lex.specs.declared.fields.ShotFields.{ShotFields}
use Rattle.shot_reader.specs.declared.refusing.ShotBad.{ShotBad}
use Rattle.shot_reader.specs.declared.refusing.ShotBad.TheVariants as faults

-- ---- the head

-- the first n bytes begin some head
pub record BeginsHead (bytes : List ℕ) (n : ℕ) : Type 0 where
  pub within : n ≤ length bytes
  pub unit : ℕ
  pub unit_fits : IsUnit unit
  pub rest : List ℕ
  pub text : head unit ≡ take n bytes ++ rest

-- no head begins the bytes, and n is the length of their longest prefix that begins some head
pub record IsHeadFault (bytes : List ℕ) (n : ℕ) : Type 0 where
  pub no_head : (unit : ℕ) (after : List ℕ) → IsUnit unit → bytes ≡ head unit ++ after → ⊥
  pub begins : BeginsHead bytes n
  pub longest : (m : ℕ) → BeginsHead bytes m → m ≤ n

-- ---- one record

-- the bytes of one number: none, one or more from 80 hex on, and then one below
abbrev pub IsNumber : List ℕ → Type 0
IsNumber bytes = (front : List ℕ) × (last : ℕ) × (bytes ≡ front ++ last ∷ []) × All (λ b. 128 ≤ b) front × (last < 128)

-- the id is one of a shot's record, which has so many numbers
abbrev pub HasNumberCount : ℕ → ℕ → Type 0
HasNumberCount id count =
    ((id ≡ 20) × (count ≡ 6)) ⊎ ((id ≡ 23) × (count ≡ 8)) ⊎ ((id ≡ 24) × (count ≡ 7)) ⊎ ((id ≡ 25) × (count ≡ 7))

-- the bytes begin with an id of a shot's record, its info byte 7B and all its numbers
pub record IsWholeShotRecord (rest : List ℕ) : Type 0 where
  pub id : ℕ
  pub numbers : List (List ℕ)
  pub count : HasNumberCount id (length numbers)
  pub ends : All IsNumber numbers
  pub after : List ℕ
  pub text : rest ≡ id ∷ 123 ∷ concat numbers ++ after

-- the bytes begin with the one spelling of these fields, whose pair may stand after the first record's
pub record IsShotSpelled (first : Option Pair) (rest : List ℕ) (f : ShotFields) : Type 0 where
  pub narrow : AreNarrow f
  pub agrees : AgreesWithPair first f.layer f.datatype
  pub after : List ℕ
  pub text : rest ≡ text_of f ++ after

-- END begins here
abbrev pub BeginsEnd : List ℕ → Type 0
BeginsEnd rest = (after : List ℕ) × (rest ≡ 2 ∷ after)

-- what is wrong with the record that begins here, after records with the first pair
abbrev pub IsShotRecordFault : Option Pair → List ℕ → ℕ → ShotBad → Type 0
IsShotRecordFault first rest at bad =
    ((bad ≡ faults.End at) × BeginsEnd rest × (rest ≢ end))
    ⊎ ((bad ≡ faults.Record at) × (BeginsEnd rest → ⊥) × (IsWholeShotRecord rest → ⊥))
    ⊎ ((bad ≡ faults.Spelling at) × IsWholeShotRecord rest × ((f : ShotFields) → IsShotSpelled first rest f → ⊥))
    ⊎ ((bad ≡ faults.Illegal at) × ((f : ShotFields) × IsShotSpelled first rest f × ((z : Trapezoid) → IsShot z → HasShape f z → ⊥)))

-- ---- the file

-- Before this offset stand a head and records of shots, and nothing else; this is the pair of the records, where there
-- are some.
pub record AreShotsReadUpTo (bytes : List ℕ) (at : ℕ) (pair : Option Pair) : Type 0 where
  pub within : at ≤ length bytes
  pub unit : ℕ
  pub unit_fits : IsUnit unit
  pub shots : List Trapezoid
  pub legal : All IsShot shots
  pub layer : ℕ
  pub datatype : ℕ
  pub narrow : IsNarrowPair layer datatype
  pub pair_fits : IsPairOf pair shots
  pub agrees : AgreesWithPair pair layer datatype
  pub text : take at bytes ≡ head unit ++ flat_map (spelling_of layer datatype) shots

-- this is the first fault of the bytes
abbrev pub IsFirstShotFault : List ℕ → ShotBad → Type 0
IsFirstShotFault bytes bad =
    ((n : ℕ) × (bad ≡ faults.Head n) × IsHeadFault bytes n)
    ⊎ ((at : ℕ) × (pair : Option Pair) × AreShotsReadUpTo bytes at pair × IsShotRecordFault pair (drop at bytes) at bad)
