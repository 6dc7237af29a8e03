-- The packed text of shots, worked out shot by shot. `packing_laws` says that it is the packed text, and the only one.
use Rattle.std.specs.Prelude.{ℕ, zero, suc, ◌+◌, ◌-◌, ◌-ℤ◌, Bool, ◌&&◌, nat_eq, nat_le, min, List, []}
use Rattle.std.specs.Prelude.{◌∷◌, ◌++◌, map, flat_map, Option, Some, None, if◌then◌else◌}
use Rattle.std.specs.Ordering.{int_eq}
use Rattle.half_grid.specs.Trapezoids.{Trapezoid}
use Rattle.half_grid.specs.declared.plane.Point.{Point}
use Rattle.oas_lex.specs.ShotText.{head, end, fields_of}
use Rattle.oas_lex.specs.declared.fields.ShotFields.{ShotFields}
use Rattle.shot_repeat.specs.Packed.{most_of_record}
use Rattle.shot_repeat.specs.Packing.{packed_record}
use Rattle.shot_repeat.specs.Records.{record_text}
use Rattle.shot_repeat.specs.Values.{shot_count}
use Rattle.shot_repeat.specs.declared.record.PackRecord.{PackRecord}
use Rattle.shot_repeat.specs.declared.record.Repetition.{Repetition}

-- ---- runs

-- how far the second lies from the first
abbrev pub step_between : ShotFields → ShotFields → Point
step_between a b = record { x = b.x -ℤ a.x; y = b.y -ℤ a.y }

-- whether both have one width, one height and the same deltas
abbrev pub has_shape_of : ShotFields → ShotFields → Bool
has_shape_of a b = (nat_eq a.width b.width && nat_eq a.height b.height) && (int_eq a.left_delta b.left_delta && int_eq a.right_delta b.right_delta)

-- whether the second is the first, moved by the step
abbrev pub is_step : Point → ShotFields → ShotFields → Bool
is_step step a b = has_shape_of a b && (int_eq (b.x -ℤ a.x) step.x && int_eq (b.y -ℤ a.y) step.y)

-- how many of the shots after this one are, from the first on, each the one before it moved by the step
abbrev pub followers : Point → ShotFields → List ShotFields → ℕ
followers step a [] = 0
followers step a (b ∷ rest) = if is_step step a b then suc (followers step b rest) else 0

-- how many shots the run from the first on has
abbrev pub run_length : List ShotFields → ℕ
run_length [] = 0
run_length (a ∷ []) = 1
run_length (a ∷ b ∷ rest) = min most_of_record (1 + followers (step_between a b) a (b ∷ rest))

-- ---- records

-- the repetition of the record that stands for the run from the first shot on, if it has one
abbrev pub repetition_of : List ShotFields → Option Repetition
repetition_of [] = None
repetition_of (a ∷ []) = None
repetition_of (a ∷ b ∷ rest) =
    if nat_le 3 (run_length (a ∷ b ∷ rest))
    then Some (record { more = run_length (a ∷ b ∷ rest) - 2; x = b.x -ℤ a.x; y = b.y -ℤ a.y })
    else None

-- the records of shots, the first so many of which the record before stands for
abbrev pub records_of : Option ShotFields → ℕ → List ShotFields → List PackRecord
records_of last skip [] = []
records_of last (suc skip) (f ∷ rest) = records_of last skip rest
records_of last zero (f ∷ rest) =
    packed_record last f (repetition_of (f ∷ rest)) ∷ records_of (Some f) (shot_count (repetition_of (f ∷ rest)) - 1) rest

-- the records of a list of shots of one layer and one datatype
abbrev pub packed_records : ℕ → ℕ → List Trapezoid → List PackRecord
packed_records layer datatype shots = records_of None 0 (map (fields_of layer datatype) shots)

-- the packed text of a unit, a layer, a datatype and a list of shots
unfoldable pub packed_text : ℕ → ℕ → ℕ → List Trapezoid → List ℕ
packed_text unit layer datatype shots = head unit ++ flat_map record_text (packed_records layer datatype shots) ++ end
