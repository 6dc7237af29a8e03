-- What is so near to 0 that sums of a few stay within a word.
use Rattle.std.specs.Prelude.{◌≤◌, ◌^◌, unsigned_abs}
use Rattle.oas_lex.specs.declared.fields.ShotFields.{ShotFields}

pub record AreNear (f : ShotFields) : Type 0 where
  pub width : f.width ≤ 2 ^ 46
  pub height : f.height ≤ 2 ^ 46
  pub left : unsigned_abs f.left_delta ≤ 2 ^ 46
  pub right : unsigned_abs f.right_delta ≤ 2 ^ 46
  pub x : unsigned_abs f.x ≤ 2 ^ 46
  pub y : unsigned_abs f.y ≤ 2 ^ 46
