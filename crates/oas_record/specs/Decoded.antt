-- The items of a list as its bytes spell them, read one after the other. Where no item is spelled it is any.
use Rattle.std.specs.Prelude.{ℕ, zero, suc, ◌+◌, ◌/◌, ◌%◌, ◌≤◌, ◌==◌, pos, nat_lt, if◌then◌else◌, List, [], ◌∷◌, length, take, drop}
use Rattle.half_grid.specs.declared.plane.Point.{Point}
use Rattle.oas_lex.specs.Deltas.{move, sideways, towards}
use Rattle.oas_lex.specs.Numbers.{signed_value, value_of}
use Rattle.oas_record.specs.Lists.{HasDeltas, HasNumbers, turned}
use Rattle.oas_record.specs.declared.delta_form.DeltaForm.{DeltaForm}
use Rattle.oas_record.specs.declared.delta_form.DeltaForm.TheVariants.{AlongX, AlongY, TwoDelta, ThreeDelta, GDelta}

-- how many bytes the number has that stands first
abbrev pub width : List ℕ → ℕ
width [] = 0
width (byte ∷ rest) = if nat_lt byte 128 then 1 else suc (width rest)

-- the unsigned number at `at`, and the offset after it
abbrev pub number_in : List ℕ → ℕ → ℕ
number_in bytes at = value_of (take (width (drop at bytes)) (drop at bytes))

abbrev pub after_number : List ℕ → ℕ → ℕ
after_number bytes at = at + width (drop at bytes)

-- so many unsigned numbers from `at` on
abbrev pub numbers_from : ℕ → List ℕ → ℕ → List ℕ
numbers_from zero bytes at = []
numbers_from (suc count) bytes at = number_in bytes at ∷ numbers_from count bytes (after_number bytes at)

-- the g-delta whose first number this is, and whose second one stands at `y_at`
abbrev pub g_delta : List ℕ → ℕ → ℕ → Point
g_delta bytes code y_at =
    if code % 2 == 0 then towards (code / 2 % 8) (code / 16)
    else move (sideways (code / 2 % 2) (code / 4)) (signed_value (number_in bytes y_at))

-- the delta at `at`, and the offset after it
abbrev pub delta_in : DeltaForm → List ℕ → ℕ → Point
delta_in AlongX bytes at = move (signed_value (number_in bytes at)) (pos 0)
delta_in AlongY bytes at = move (pos 0) (signed_value (number_in bytes at))
delta_in TwoDelta bytes at = towards (number_in bytes at % 4) (number_in bytes at / 4)
delta_in ThreeDelta bytes at = towards (number_in bytes at % 8) (number_in bytes at / 8)
delta_in GDelta bytes at = g_delta bytes (number_in bytes at) (after_number bytes at)

abbrev pub after_delta : DeltaForm → List ℕ → ℕ → ℕ
after_delta AlongX bytes at = after_number bytes at
after_delta AlongY bytes at = after_number bytes at
after_delta TwoDelta bytes at = after_number bytes at
after_delta ThreeDelta bytes at = after_number bytes at
after_delta GDelta bytes at =
    if number_in bytes at % 2 == 0 then after_number bytes at else after_number bytes (after_number bytes at)

-- so many deltas from `at` on, the first of this form
abbrev pub deltas_from : DeltaForm → ℕ → List ℕ → ℕ → List Point
deltas_from form zero bytes at = []
deltas_from form (suc count) bytes at = delta_in form bytes at ∷ deltas_from (turned form) count bytes (after_delta form bytes at)

-- so many items do stand there
pub record AreNumbers (count : ℕ) (bytes : List ℕ) (at next : ℕ) : Type 0 where
  pub within : at ≤ length bytes
  pub stand : HasNumbers bytes at (numbers_from count bytes at) next

pub record AreDeltas (form : DeltaForm) (count : ℕ) (bytes : List ℕ) (at next : ℕ) : Type 0 where
  pub within : at ≤ length bytes
  pub stand : HasDeltas form bytes at (deltas_from form count bytes at) next
