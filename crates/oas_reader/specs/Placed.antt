-- Placements by what the program keeps of a record.
use Rattle.std.specs.Prelude.{◌≡◌, ◌⊎◌, ◌<◌, ℕ, Bool, Option, None, List}
use Rattle.layout_model.specs.declared.orient.Orient.{Orient}
use Rattle.oas_lex.specs.declared.reals.Real.{Real}
use Rattle.oas_record.specs.declared.fields.Called.{Called}
use Rattle.oas_record.specs.declared.repetition.Rep.{Rep}
use Rattle.oas_fields.specs.declared.fields.Fields.{Fields}
use Rattle.oas_shapes.specs.Plane.{doubled}
use Rattle.oas_shapes.specs.Repetitions.{offsets_in, HasDimensionsIn}
use Rattle.oas_shapes.specs.Rules.{AreNear}
use Rattle.oas_reader.specs.Meaning.{Placing, point_at}
use Rattle.oas_reader.specs.Reals.{IsOasisFactor, IsOasisAngle, factor_of, turns_of}
use Rattle.oas_reader.specs.Rules.{IsNameWhereWritten}
use Rattle.oas_reader.specs.declared.bodies.Turning.{Turning}
use Rattle.oas_reader.specs.declared.bodies.Turning.TheVariants as turnings
use Rattle.oas_reader.specs.declared.refusing.OasBad.{OasBad}
use Rattle.oas_reader.specs.declared.refusing.OasBad.TheVariants as faults

abbrev pub magnification_in : Turning → Option Real
magnification_in (turnings.Quarters turns) = None
magnification_in (turnings.Reals magnification angle) = magnification

abbrev pub angle_in : Turning → Option Real
angle_in (turnings.Quarters turns) = None
angle_in (turnings.Reals magnification angle) = angle

abbrev pub orient_in : Bool → Turning → Orient
orient_in flips (turnings.Quarters turns) = record { flip = flips; turns = turns; mag = 1 }
orient_in flips (turnings.Reals magnification angle) =
    record { flip = flips; turns = turns_of angle; mag = factor_of magnification }

-- so many quarter turns are up to three
abbrev pub IsTurning : Turning → Type 0
IsTurning (turnings.Quarters turns) = turns < 4
IsTurning (turnings.Reals magnification angle) = Unit {0}

-- a placement that writes its cell so, or doesn't, with the repetition in force, keeps the rule
pub record KeepsPlaced (bytes : List ℕ) (called : Option Called) (turning : Turning) (rep : Option Rep) (rule : ℕ) : Type 0 where
  pub near : rule ≡ 1 → AreNear (offsets_in rep)
  pub name : rule ≡ 2 → IsNameWhereWritten bytes called
  pub magnification : rule ≡ 4 → IsOasisFactor (magnification_in turning)
  pub angle : rule ≡ 5 → IsOasisAngle (angle_in turning)
  pub dimension : rule ≡ 11 → HasDimensionsIn rep

-- its offsets keep the rule
pub record KeepsOffsetsIn (rep : Option Rep) (rule : ℕ) : Type 0 where
  pub near : rule ≡ 1 → AreNear (offsets_in rep)
  pub dimension : rule ≡ 11 → HasDimensionsIn rep

-- its name and its turning do
pub record KeepsTurned (bytes : List ℕ) (called : Option Called) (turning : Turning) (rule : ℕ) : Type 0 where
  pub name : rule ≡ 2 → IsNameWhereWritten bytes called
  pub magnification : rule ≡ 4 → IsOasisFactor (magnification_in turning)
  pub angle : rule ≡ 5 → IsOasisAngle (angle_in turning)

-- the magnification is none that is allowed, or it is, and the angle isn't
abbrev pub IsBadTurning : Turning → ℕ → OasBad → Type 0
IsBadTurning turning at bad =
    ((IsOasisFactor (magnification_in turning) → ⊥) × (bad ≡ faults.Value at 4))
    ⊎ (IsOasisFactor (magnification_in turning) × (IsOasisAngle (angle_in turning) → ⊥) × (bad ≡ faults.Value at 5))

-- what it gives
abbrev pub placed_by : Fields → Bool → Turning → Option Rep → Placing
placed_by fields flips turning rep = record {
  target = fields.cell;
  orient = orient_in flips turning;
  at = doubled (point_at fields.placement);
  offsets = offsets_in rep;
}
