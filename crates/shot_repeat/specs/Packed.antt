-- What a packed shot file says: how many half units a micron has, the layer and the datatype of its records, and the
-- shots. It is the head of a shot file, records, and the END record of a shot file. It says a pair exactly where it
-- has shots.
use Rattle.std.specs.Prelude.{ℕ, ◌≡◌, ◌≤◌, List, [], ◌++◌, map, length, flat_map, Option, All}
use Rattle.half_grid.specs.Trapezoids.{Trapezoid, IsShot}
use Rattle.layout_model.specs.declared.pair.Pair.{Pair}
use Rattle.oas_lex.specs.ShotText.{IsUnit, head, end, fields_of}
use Rattle.shot_reader.specs.Reading.{IsPairOf, AgreesWithPair}
use Rattle.shot_repeat.specs.Records.{IsNarrow, record_text}
use Rattle.shot_repeat.specs.Values.{shot_count, all_given, AreDefined}
use Rattle.shot_repeat.specs.declared.record.PackRecord.{PackRecord}

-- the bytes stand for this unit, this pair and these shots, each of which is legal and within reach
pub record IsPackedText (bytes : List ℕ) (unit : ℕ) (pair : Option Pair) (shots : List Trapezoid) : Type 0 where
  pub unit_fits : IsUnit unit
  pub legal : All IsShot shots
  pub pair_fits : IsPairOf pair shots
  pub layer : ℕ
  pub datatype : ℕ
  pub agrees : AgreesWithPair pair layer datatype
  pub records : List PackRecord
  pub narrow : All IsNarrow records
  pub defined : AreDefined [] records
  pub shots_given : map (fields_of layer datatype) shots ≡ all_given [] records
  pub text : bytes ≡ head unit ++ flat_map record_text records ++ end

-- how many shots one record may give, and how many a file
abbrev pub most_of_record : ℕ
most_of_record = 16777216

abbrev pub most_of_file : ℕ
most_of_file = 33554432

-- each record gives few enough shots
abbrev pub HasFew : PackRecord → Type 0
HasFew r = shot_count r.repetition ≤ most_of_record

-- the bytes stand for these, and neither a record nor the file gives too many
pub record IsPackedFile (bytes : List ℕ) (unit : ℕ) (pair : Option Pair) (shots : List Trapezoid) : Type 0 where
  pub stands : IsPackedText bytes unit pair shots
  pub few_each : All HasFew stands.records
  pub few : length shots ≤ most_of_file
