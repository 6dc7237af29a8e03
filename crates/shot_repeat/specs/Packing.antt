-- The packed text of shots. It is built from the first shot on. From a shot that isn't yet written, a run is as many
-- shots from there on as there are that are the first moved by no step, one step, two steps and so on, up to 16,777,216.
-- A run of three or more is one record with a repetition; else the first shot alone is one. The layer and the datatype
-- are written in the first record only. Width, height, x and y are written exactly where they differ from the record
-- before; in the first record width and height are written, and x and y where they aren't 0.
use Rattle.std.specs.Prelude.{ℕ, ◌≡◌, ◌⊎◌, ◌-◌, ◌<◌, ◌≤◌, ℤ, pos, nat_eq, List, [], ◌∷◌, ◌++◌}
use Rattle.std.specs.Prelude.{slice_get, length, map, drop, flat_map, Option, Some, None, if◌then◌else◌}
use Rattle.std.specs.Ordering.{int_eq}
use Rattle.half_grid.specs.Trapezoids.{Trapezoid}
use Rattle.half_grid.specs.declared.plane.Point.{Point}
use Rattle.oas_lex.specs.ShotText.{head, end, fields_of}
use Rattle.oas_lex.specs.declared.fields.ShotFields.{ShotFields}
use Rattle.shot_repeat.specs.Packed.{most_of_record}
use Rattle.shot_repeat.specs.Records.{record_text}
use Rattle.shot_repeat.specs.Values.{moved}
use Rattle.shot_repeat.specs.declared.record.PackRecord.{PackRecord}
use Rattle.shot_repeat.specs.declared.record.Repetition.{Repetition}

-- ---- runs

-- of a shot and those after it, the first `count` are that shot, moved by no step, one step, two steps and so on
pub record AreSteps (first : ShotFields) (others : List ShotFields) (step : Point) (count : ℕ) : Type 0 where
  pub few : count ≤ most_of_record
  pub are : (k : ℕ) → k < count → slice_get (first ∷ others) k ≡ Some (moved first step k)

-- they are a run: no step gives more
pub record IsRun (first : ShotFields) (others : List ShotFields) (step : Point) (count : ℕ) : Type 0 where
  pub steps : AreSteps first others step count
  pub longest : (any : Point) (more : ℕ) → AreSteps first others any more → more ≤ count

-- ---- records

-- a number that is written where it differs from the one before
abbrev pub changed : ℕ → ℕ → Option ℕ
changed before now = if nat_eq before now then None else Some now

abbrev pub changed_place : ℤ → ℤ → Option ℤ
changed_place before now = if int_eq before now then None else Some now

-- the record of a shot after the first shot of the record before, if there is one
abbrev pub packed_record : Option ShotFields → ShotFields → Option Repetition → PackRecord
packed_record None f repetition = record {
  layer = Some f.layer;
  datatype = Some f.datatype;
  width = Some f.width;
  height = Some f.height;
  left_delta = f.left_delta;
  right_delta = f.right_delta;
  x = changed_place (pos 0) f.x;
  y = changed_place (pos 0) f.y;
  repetition = repetition;
}
packed_record (Some last) f repetition = record {
  layer = None;
  datatype = None;
  width = changed last.width f.width;
  height = changed last.height f.height;
  left_delta = f.left_delta;
  right_delta = f.right_delta;
  x = changed_place last.x f.x;
  y = changed_place last.y f.y;
  repetition = repetition;
}

-- the repetition of a run
abbrev pub repeated : Point → ℕ → Repetition
repeated step count = record { more = count - 2; x = step.x; y = step.y }

-- The records of shots; `last` is the first shot of the record before them, if there is one. A run of three or more
-- from the first shot on is one record with a repetition, and the rest are those of what follows the run. Else the
-- first shot alone is one record, and the rest are those of the others.
abbrev pub ArePacked : Option ShotFields → List ShotFields → List PackRecord → Type 0
ArePacked last [] [] = Unit {0}
ArePacked last [] (r ∷ records) = ⊥
ArePacked last (first ∷ others) [] = ⊥
ArePacked last (first ∷ others) (r ∷ records) =
    (step : Point) × (count : ℕ) × IsRun first others step count
    × (((3 ≤ count) × (r ≡ packed_record last first (Some (repeated step count)))
    × ArePacked (Some first) (drop count (first ∷ others)) records)
    ⊎ ((count < 3) × (r ≡ packed_record last first None) × ArePacked (Some first) others records))

-- the packed text of a unit, a layer, a datatype and a list of shots, and its records
pub record IsPackingOf (unit layer datatype : ℕ) (shots : List Trapezoid)
    (records : List PackRecord) (text : List ℕ) : Type 0 where
  pub packed : ArePacked None (map (fields_of layer datatype) shots) records
  pub is : text ≡ head unit ++ flat_map record_text records ++ end

-- the packed text of these, and how many records it has
pub record IsPackedInto (unit layer datatype : ℕ) (shots : List Trapezoid) (count : ℕ) (text : List ℕ) : Type 0 where
  pub records : List PackRecord
  pub packing : IsPackingOf unit layer datatype shots records text
  pub number : count ≡ length records
