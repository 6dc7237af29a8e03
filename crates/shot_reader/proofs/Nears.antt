-- The fields of a shot are near to 0.
use Rattle.std.proofs.Common.{ℕ, sym, subst, Option, Some, None, IfSome}
use Rattle.half_grid.specs.Trapezoids.{Trapezoid, IsShot}
use Rattle.oas_lex.specs.ShotText.{fields_of}
use Rattle.oas_lex.specs.declared.fields.ShotFields.{ShotFields}
use Rattle.oas_lex.proofs.ForCallers.{width_near, rows_near, left_near, right_near, x_near, bottom_near}
use Rattle.shot_reader.specs.Fields.{HasShape}
use Rattle.shot_reader.specs.Near.{AreNear}

pub own_near : (l d : ℕ) (z : Trapezoid) → IsShot z → AreNear (fields_of l d z)
own_near l d z h = record {
  width = width_near z h;
  height = rows_near z h;
  left = left_near z h;
  right = right_near z h;
  x = x_near z h;
  y = bottom_near z h;
}

pub near_fields : (f : ShotFields) (z : Trapezoid) → IsShot z → HasShape f z → AreNear f
near_fields f z shot h = subst AreNear (sym h) (own_near f.layer f.datatype z shot)

pub some_by : {T : Type 0} (r : Option T) (P Q : T → Type 0) → ((z : T) → P z → Q z) → IfSome r P → IfSome r Q
some_by None P Q f h = tt
some_by (Some z) P Q f h = f z h
