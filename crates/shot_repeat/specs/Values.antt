-- The values of a record's fields, and what shots it gives.
--
-- A layer, a datatype, a width or a height that isn't written has the last value that was written before; an x or a y
-- that isn't written has the value that it has in the record before, which is the last one written too, and 0 where
-- none was. A record with a repetition gives as many shots as this says, each as far from the one before it as this
-- says, and one without gives one.
use Rattle.std.specs.Prelude.{ℕ, zero, suc, ◌+◌, pos, ◌+ℤ◌, ◌*ℤ◌, List, [], ◌∷◌, ◌++◌, Option, Some, None, IsSome, unwrap_or}
use Rattle.half_grid.specs.declared.plane.Point.{Point}
use Rattle.oas_lex.specs.declared.fields.ShotFields.{ShotFields}
use Rattle.shot_repeat.specs.declared.record.PackRecord.{PackRecord}
use Rattle.shot_repeat.specs.declared.record.Repetition.{Repetition}

-- the value that is written, or else the one before it
abbrev pub newer : {A : Type 0} → Option A → Option A → Option A
newer None before = before
newer (Some value) before = Some value

-- the last value of a field that one of the records writes
abbrev pub last_written : {A : Type 0} → (PackRecord → Option A) → List PackRecord → Option A
last_written field [] = None
last_written field (r ∷ rest) = newer (last_written field rest) (field r)

-- the value of a field in a record after these: the last one up to it
abbrev pub value_in : {A : Type 0} → (PackRecord → Option A) → List PackRecord → PackRecord → Option A
value_in field before r = last_written field (before ++ r ∷ [])

-- each field that has no first value was written
pub record IsDefined (before : List PackRecord) (r : PackRecord) : Type 0 where
  pub layer : IsSome (value_in (λ (s : PackRecord). s.layer) before r)
  pub datatype : IsSome (value_in (λ (s : PackRecord). s.datatype) before r)
  pub width : IsSome (value_in (λ (s : PackRecord). s.width) before r)
  pub height : IsSome (value_in (λ (s : PackRecord). s.height) before r)

-- the fields of a record's first shot
abbrev pub fields_in : List PackRecord → PackRecord → ShotFields
fields_in before r = record {
  layer = unwrap_or (value_in (λ (s : PackRecord). s.layer) before r) 0;
  datatype = unwrap_or (value_in (λ (s : PackRecord). s.datatype) before r) 0;
  width = unwrap_or (value_in (λ (s : PackRecord). s.width) before r) 0;
  height = unwrap_or (value_in (λ (s : PackRecord). s.height) before r) 0;
  left_delta = r.left_delta;
  right_delta = r.right_delta;
  x = unwrap_or (value_in (λ (s : PackRecord). s.x) before r) (pos 0);
  y = unwrap_or (value_in (λ (s : PackRecord). s.y) before r) (pos 0);
}

-- how many shots
abbrev pub shot_count : Option Repetition → ℕ
shot_count None = 1
shot_count (Some p) = p.more + 2

-- how far each shot lies from the one before it
abbrev pub step_of : Option Repetition → Point
step_of None = record { x = pos 0; y = pos 0 }
step_of (Some p) = record { x = p.x; y = p.y }

-- moved so many steps
abbrev pub moved : ShotFields → Point → ℕ → ShotFields
moved f step k = record f { x = f.x +ℤ pos k *ℤ step.x; y = f.y +ℤ pos k *ℤ step.y }

-- so many shots, the first moved by k steps, each next one by one step more
abbrev pub moved_from : ShotFields → Point → ℕ → ℕ → List ShotFields
moved_from f step k zero = []
moved_from f step k (suc count) = moved f step k ∷ moved_from f step (suc k) count

-- the fields of the shots that a record gives
abbrev pub given : List PackRecord → PackRecord → List ShotFields
given before r = moved_from (fields_in before r) (step_of r.repetition) 0 (shot_count r.repetition)

-- the fields of the shots that records give, after those before
abbrev pub all_given : List PackRecord → List PackRecord → List ShotFields
all_given before [] = []
all_given before (r ∷ rest) = given before r ++ all_given (before ++ r ∷ []) rest

-- each record, after those before it, has a value for each field
abbrev pub AreDefined : List PackRecord → List PackRecord → Type 0
AreDefined before [] = Unit {0}
AreDefined before (r ∷ rest) = IsDefined before r × AreDefined (before ++ r ∷ []) rest
