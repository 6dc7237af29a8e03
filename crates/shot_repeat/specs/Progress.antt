-- How far a packed shot file was read.
use Rattle.std.specs.Prelude.{ℕ, ◌≡◌, ◌⊎◌, ◌<◌, ◌≤◌, List, [], ◌++◌, map, length, drop, flat_map, Option, Some, None, All}
use Rattle.half_grid.specs.Trapezoids.{Trapezoid, IsShot}
use Rattle.layout_model.specs.declared.pair.Pair.{Pair}
use Rattle.oas_lex.specs.ShotText.{IsUnit, head, fields_of}
use Rattle.oas_lex.specs.declared.fields.ShotFields.{ShotFields}
use Rattle.shot_reader.specs.Reading.{IsPairOf}
use Rattle.shot_repeat.specs.Modal.{updated, AreLast}
use Rattle.shot_repeat.specs.Packed.{most_of_file}
use Rattle.shot_repeat.specs.Records.{IsNarrow, record_text}
use Rattle.shot_repeat.specs.Refusals.{IsWholePackRecord, IsPackSpelled, first_pair, count_given, HasFirstPair, IsFewAfter, AreRight}
use Rattle.shot_repeat.specs.Values.{IsDefined, fields_in, all_given}
use Rattle.shot_repeat.specs.declared.reading.Next.{Next}
use Rattle.shot_repeat.specs.declared.reading.Progress.{Progress}
use Rattle.shot_repeat.specs.declared.record.PackRecord.{PackRecord}
use Rattle.shot_repeat.specs.declared.refusing.PackBad.{PackBad}
use Rattle.shot_repeat.specs.declared.refusing.PackBad.TheVariants as faults

-- the bytes don't begin with the spelling of a record, for this cause
pub record IsUnspelled (rest : List ℕ) (at : ℕ) (bad : PackBad) : Type 0 where
  pub cause : ((bad ≡ faults.Spelling at) × IsWholePackRecord rest) ⊎ ((bad ≡ faults.Record at) × (IsWholePackRecord rest → ⊥))
  pub none : (r : PackRecord) → IsPackSpelled rest r → ⊥

-- what is kept of the records before
pub record AreKept (before : List PackRecord) (p : Progress) (so_far : ℕ) : Type 0 where
  pub first : p.first ≡ first_pair before
  pub last : AreLast before p.modal
  pub count : so_far ≡ count_given before

-- nothing is wrong with the values of a record and the number of its shots, and the first has these fields
pub record IsJudged (before : List PackRecord) (r : PackRecord) (f : ShotFields) : Type 0 where
  pub fields : f ≡ fields_in before r
  pub defined : IsDefined before r
  pub pair : HasFirstPair before r
  pub few : IsFewAfter before r

-- the pair of the first record, where the first shot of the next one has these fields
abbrev pub first_of : Option Pair → ShotFields → Pair
first_of None f = record { layer = f.layer; datatype = f.datatype }
first_of (Some own) f = own

-- the pair of the shots, or any where there are none
abbrev pub layer_in : Option Pair → ℕ
layer_in None = 0
layer_in (Some pair) = pair.layer

abbrev pub datatype_in : Option Pair → ℕ
datatype_in None = 0
datatype_in (Some pair) = pair.datatype

-- a head and these records were read, and these are their shots
pub record HasRead (bytes : List ℕ) (unit : ℕ) (records : List PackRecord) (p : Progress) (shots : List Trapezoid) : Type 0 where
  pub within : p.at ≤ length bytes
  pub text : bytes ≡ head unit ++ (flat_map record_text records ++ drop p.at bytes)
  pub right : AreRight [] records
  pub kept : AreKept records p (length shots)
  pub legal : All IsShot shots
  pub pair_fits : IsPairOf p.first shots
  pub few : length shots ≤ most_of_file
  pub are : map (fields_of (layer_in p.first) (datatype_in p.first)) shots ≡ all_given [] records

-- a head was read, and no record
pub record IsStart (bytes : List ℕ) (unit : ℕ) (p : Progress) : Type 0 where
  pub unit_fits : IsUnit unit
  pub read : HasRead bytes unit [] p []

-- so many shots of a head and these records were seen
abbrev pub HasSeen : List ℕ → ℕ → Progress → ℕ → Type 0
HasSeen bytes unit p count = (records : List PackRecord) × (shots : List Trapezoid) × HasRead bytes unit records p shots × (length shots ≡ count)

-- this record is spelled next, and nothing is wrong with it but perhaps a shot that it gives
pub record IsNext (bytes : List ℕ) (p : Progress) (so_far : ℕ) (n : Next) : Type 0 where
  pub narrow : IsNarrow n.record
  pub text : drop p.at bytes ≡ record_text n.record ++ drop n.progress.at bytes
  pub on : p.at < n.progress.at
  pub within : n.progress.at ≤ length bytes
  pub modal : n.progress.modal ≡ updated p.modal n.record
  pub first : n.progress.first ≡ Some (first_of p.first n.fields)
  pub judged : (before : List PackRecord) → AreKept before p so_far → IsJudged before n.record n.fields
