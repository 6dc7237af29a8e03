-- What the packed text of shots keeps.
use Rattle.std.specs.Prelude.{ℕ, ◌≡◌, ◌≤◌, length, map, List, ◌∷◌, Option, All}
use Rattle.half_grid.specs.Trapezoids.{Trapezoid, IsShot}
use Rattle.half_grid.specs.declared.plane.Point.{Point}
use Rattle.layout_model.specs.declared.pair.Pair.{Pair}
use Rattle.oas_lex.specs.ShotLaws.{IsNarrowPair}
use Rattle.oas_lex.specs.ShotText.{IsUnit, fields_of, shot_text}
use Rattle.shot_reader.specs.Reading.{IsPairOf, AgreesWithPair}
use Rattle.shot_repeat.specs.Packed.{IsPackedText, IsPackedFile, most_of_file}
use Rattle.shot_repeat.specs.Packer.{run_length, packed_records, packed_text}
use Rattle.shot_repeat.specs.Packing.{IsRun, IsPackingOf}
use Rattle.shot_repeat.specs.declared.record.PackRecord.{PackRecord}

-- The packed text of shots stands for their unit, their pair and the same shots in the same order.
abbrev pub TextStands : Type 0
TextStands =
    (unit layer datatype : ℕ) (pair : Option Pair) (shots : List Trapezoid)
    → IsUnit unit → IsNarrowPair layer datatype → All IsShot shots → IsPairOf pair shots → AgreesWithPair pair layer datatype
    → IsPackedText (packed_text unit layer datatype shots) unit pair shots

-- It is read where there are few enough shots.
abbrev pub TextIsFile : Type 0
TextIsFile =
    (unit layer datatype : ℕ) (pair : Option Pair) (shots : List Trapezoid)
    → IsUnit unit → IsNarrowPair layer datatype → All IsShot shots → IsPairOf pair shots → AgreesWithPair pair layer datatype
    → length shots ≤ most_of_file → IsPackedFile (packed_text unit layer datatype shots) unit pair shots

-- It has no more bytes than the plain text of these shots.
abbrev pub TextIsShort : Type 0
TextIsShort = (unit layer datatype : ℕ) (shots : List Trapezoid)
    → length (packed_text unit layer datatype shots) ≤ length (shot_text unit layer datatype shots)

-- It is the packed text of these shots,
abbrev pub TextIsPacked : Type 0
TextIsPacked = (unit layer datatype : ℕ) (shots : List Trapezoid)
    → IsPackingOf unit layer datatype shots (packed_records layer datatype shots) (packed_text unit layer datatype shots)

-- and no other text is.
abbrev pub OnePackedText : Type 0
OnePackedText = (unit layer datatype : ℕ) (shots : List Trapezoid) (records : List PackRecord) (text : List ℕ)
    → IsPackingOf unit layer datatype shots records text
    → (records ≡ packed_records layer datatype shots) × (text ≡ packed_text unit layer datatype shots)

-- The length of the run from the first shot of a list on is the greatest of all runs.
abbrev pub RunIsLongest : Type 0
RunIsLongest = (layer datatype : ℕ) (shot : Trapezoid) (shots : List Trapezoid)
    → (step : Point) × IsRun (fields_of layer datatype shot) (map (fields_of layer datatype) shots) step
    (run_length (map (fields_of layer datatype) (shot ∷ shots)))
