-- Where what stands among bytes ends: within them, and not before it begins.
use Rattle.std.proofs.Common.{ℕ, zero, suc, ◌+◌, ◌-◌, ◌/◌, ◌<◌, ◌≤◌, ℤ, Bool, true, false, List, [], ◌∷◌, length}
use Rattle.std.proofs.Common.{slice_index, drop, Option, Some, None, inl, inr, arith}
use Rattle.half_grid.specs.declared.plane.Point.{Point}
use Rattle.oas_lex.specs.Deltas.{HasDeltaG}
use Rattle.oas_lex.specs.Numbers.{HasUnsigned, HasSigned}
use Rattle.oas_lex.specs.Reals.{RealForm, OneNumber, TwoNumbers, FourBytes as FourRealBytes, EightBytes, form_of, HasRealParts, HasReal}
use Rattle.oas_lex.specs.Strings.{HasText}
use Rattle.oas_lex.specs.declared.reals.Real.{Real}
use Rattle.oas_lex.proofs.ForCallers.{whole_some}
use Rattle.oas_record.specs.Lists.{HasDelta, HasDeltas, HasNumbers, HasPointsOf, HasPoints, turned, delta_form}
use Rattle.oas_record.specs.Records as RecordRows
use Rattle.oas_record.specs.Records.{info_of, fields_of, switch_of, HasBody, HasRecord}
use Rattle.oas_record.specs.Repetitions as RepRows
use Rattle.oas_record.specs.Repetitions.{RepRow, row_at, rep_rows, dims_of, numbers_of, deltas_of, HasRep}
use Rattle.oas_record.specs.Rows.{Form, Number, Signed, Text, OneReal, NameBy, Range, PolygonPoints, PathPoints}
use Rattle.oas_record.specs.Rows.{Repetition, TrapezoidType, Extension, Switch, Count, Tables, FourBytes, Values, Field}
use Rattle.oas_record.specs.Rows.{HasName, HasForm, HasWhere, HasFields, is_set, is_written, switches_after, Part, RecordRow}
use Rattle.oas_record.specs.Rows.{Info, NoInfo, Below, Square}
use Rattle.oas_record.specs.Values.{bounds, HasBounds, HasInterval, ValueForm, OneReal as RealValue, OneUnsigned}
use Rattle.oas_record.specs.Values.{OneSigned, OneString, value_form, EndsValueOf, EndsValues}
use Rattle.oas_record.specs.declared.delta_form.DeltaForm.{DeltaForm}
use Rattle.oas_record.specs.declared.delta_form.DeltaForm.TheVariants.{AlongX, AlongY, TwoDelta, ThreeDelta, GDelta}
use Rattle.oas_record.specs.declared.fields.Deltas.{Deltas}
use Rattle.oas_record.specs.declared.fields.Interval.{Interval}
use Rattle.oas_record.specs.declared.records.OasRecord.{OasRecord}
use Rattle.oas_record.specs.declared.repetition.Rep.{Rep}

parts_within : (form : Option RealForm) (bytes : List ℕ) (at a b next : ℕ) → HasRealParts form bytes at a b next → next ≤ length bytes
parts_within (Some OneNumber) bytes at a b next h = h.spells.within
parts_within (Some TwoNumbers) bytes at a b next h = h.2.within
parts_within (Some FourRealBytes) bytes at a b next h = h.there.within
parts_within (Some EightBytes) bytes at a b next h = h.there.within
parts_within None bytes at a b next h = absurd h

pub real_within : (bytes : List ℕ) (at : ℕ) (r : Real) (next : ℕ) → HasReal bytes at r next → next ≤ length bytes
real_within bytes at r next h = parts_within (form_of (slice_index bytes at)) bytes (at + 1) r.a r.b next h.parts

pub delta_g_within : (bytes : List ℕ) (at : ℕ) (p : Point) (next : ℕ) → HasDeltaG bytes at p next → next ≤ length bytes
delta_g_within bytes at p next (inl h) = h.1.spells.within
delta_g_within bytes at p next (inr h) = h.3.spells_y.within

-- ---- not before it begins

number_on : (bytes : List ℕ) (at n next : ℕ) → HasUnsigned bytes at n next → at ≤ next
number_on bytes at n next h = omega (arith, whole_some (drop at bytes) (next - at) h.spells.whole)

signed_on : (bytes : List ℕ) (at : ℕ) (z : ℤ) (next : ℕ) → HasSigned bytes at z next → at ≤ next
signed_on bytes at z next h = omega (arith, whole_some (drop at bytes) (next - at) h.spells.whole)

text_on : (bytes : List ℕ) (at first next : ℕ) → HasText bytes at first next → at ≤ next
text_on bytes at first next h = omega (arith, number_on bytes at h.0 first h.1, h.2.ends)

parts_on : (form : Option RealForm) (bytes : List ℕ) (at a b next : ℕ) → HasRealParts form bytes at a b next → at ≤ next
parts_on (Some OneNumber) bytes at a b next h = number_on bytes at a next h.spells
parts_on (Some TwoNumbers) bytes at a b next h = omega (arith, number_on bytes at a h.0 h.1, number_on bytes h.0 b next h.2)
parts_on (Some FourRealBytes) bytes at a b next h = omega (arith, h.there.ends)
parts_on (Some EightBytes) bytes at a b next h = omega (arith, h.there.ends)
parts_on None bytes at a b next h = absurd h

real_on : (bytes : List ℕ) (at : ℕ) (r : Real) (next : ℕ) → HasReal bytes at r next → at ≤ next
real_on bytes at r next h = omega (arith, parts_on (form_of (slice_index bytes at)) bytes (at + 1) r.a r.b next h.parts)

delta_on : (form : DeltaForm) (bytes : List ℕ) (at : ℕ) (p : Point) (next : ℕ) → HasDelta form bytes at p next → at ≤ next
delta_on AlongX bytes at p next h = signed_on bytes at h.0 next h.1
delta_on AlongY bytes at p next h = signed_on bytes at h.0 next h.1
delta_on TwoDelta bytes at p next h = number_on bytes at h.0 next h.1
delta_on ThreeDelta bytes at p next h = number_on bytes at h.0 next h.1
delta_on GDelta bytes at p next (inl h) = number_on bytes at h.0 next h.1.spells
delta_on GDelta bytes at p next (inr h) = omega (arith, number_on bytes at h.0 h.1 h.3.spells, signed_on bytes h.1 h.2 next h.3.spells_y)

numbers_on : (bytes : List ℕ) (at : ℕ) (ns : List ℕ) (next : ℕ) → HasNumbers bytes at ns next → at ≤ next
numbers_on bytes at [] next h = omega (arith, h)
numbers_on bytes at (n ∷ ns) next h = omega (arith, number_on bytes at n h.0 h.1, numbers_on bytes h.0 ns next h.2)

deltas_on : (form : DeltaForm) (bytes : List ℕ) (at : ℕ) (ps : List Point) (next : ℕ) → HasDeltas form bytes at ps next → at ≤ next
deltas_on form bytes at [] next h = omega (arith, h)
deltas_on form bytes at (p ∷ ps) next h = omega (arith, delta_on form bytes at p h.0 h.1, deltas_on (turned form) bytes h.0 ps next h.2)

points_of_on : (form : Option DeltaForm) (is_polygon : Bool) (kind : ℕ) (bytes : List ℕ) (at : ℕ) (ps : List Point)
    (next : ℕ) → HasPointsOf form is_polygon kind bytes at ps next → at ≤ next
points_of_on (Some form) is_polygon kind bytes at ps next h = omega
    (arith, number_on bytes at (length ps) h.0 h.1.count, deltas_on form bytes h.0 ps next h.1.deltas)
points_of_on None is_polygon kind bytes at ps next h = absurd h

points_on : (is_polygon : Bool) (bytes : List ℕ) (at : ℕ) (d : Deltas) (next : ℕ) → HasPoints is_polygon bytes at d next → at ≤ next
points_on is_polygon bytes at d next h = omega (
  arith,
  points_of_on (delta_form (slice_index bytes at)) is_polygon (slice_index bytes at) bytes
      (at + 1) d.items next h.rest,
)

row_on : (r : Option RepRow) (bytes : List ℕ) (at : ℕ) (d n : List ℕ) (p : List Point) (next : ℕ) → RepRows.HasRepetitionRow r bytes at d n p next → at ≤ next
row_on (Some r) bytes at d n p next h = omega (
  arith,
  numbers_on bytes at h.0 h.1 h.3.stands_dims,
  numbers_on bytes h.1 n h.2 h.3.stands_numbers,
  deltas_on
      GDelta bytes h.2 p next h.3.stands_deltas,
)
row_on None bytes at d n p next h = absurd h

rep_on : (bytes : List ℕ) (at : ℕ) (r : Rep) (next : ℕ) → HasRep bytes at r next → at ≤ next
rep_on bytes at r next h = omega (arith, row_on (row_at rep_rows (slice_index bytes at)) bytes (at + 1) (dims_of r) (numbers_of r) (deltas_of r) next h.parts)

bounds_on : (count : Option ℕ) (bytes : List ℕ) (at a b next : ℕ) → HasBounds count bytes at a b next → at ≤ next
bounds_on (Some count) bytes at a b next h = numbers_on bytes at h.0 next h.2
bounds_on None bytes at a b next h = absurd h

interval_on : (bytes : List ℕ) (at : ℕ) (i : Interval) (next : ℕ) → HasInterval bytes at i next → at ≤ next
interval_on bytes at i next h = omega (arith, bounds_on (bounds (slice_index bytes at)) bytes (at + 1) i.a i.b next h.numbers)

value_of_on : (form : Option ValueForm) (bytes : List ℕ) (at next : ℕ) → EndsValueOf form bytes at next → at ≤ next
value_of_on (Some RealValue) bytes at next h = real_on bytes at h.0 next h.1
value_of_on (Some OneUnsigned) bytes at next h = omega (arith, number_on bytes (at + 1) h.0 next h.1)
value_of_on (Some OneSigned) bytes at next h = omega (arith, signed_on bytes (at + 1) h.0 next h.1)
value_of_on (Some OneString) bytes at next h = omega (arith, text_on bytes (at + 1) h.0 next h.1)
value_of_on None bytes at next h = absurd h

values_on : (count : ℕ) (bytes : List ℕ) (at next : ℕ) → EndsValues count bytes at next → at ≤ next
values_on zero bytes at next h = omega (arith, h)
values_on (suc count) bytes at next h = omega
    (arith, value_of_on (value_form (slice_index bytes at)) bytes at h.0 h.1.value, values_on count bytes h.0 next h.2)

name_on : (is_number : Bool) (bytes : List ℕ) (at : ℕ) (f : Field) (next : ℕ) → HasName is_number bytes at f next → at ≤ next
name_on true bytes at f next h = number_on bytes at h.0 next h.1
name_on false bytes at f next h = text_on bytes at h.0 next h.1

form_on : (form : Form) (s : ℕ) (bytes : List ℕ) (at : ℕ) (f : Field) (next : ℕ) → HasForm form s bytes at f next → at ≤ next
form_on Number s bytes at f next h = number_on bytes at h.0 next h.1
form_on Signed s bytes at f next h = signed_on bytes at h.0 next h.1
form_on Text s bytes at f next h = text_on bytes at h.0 next h.1
form_on OneReal s bytes at f next h = real_on bytes at h.0 next h.1
form_on (NameBy bit) s bytes at f next h = name_on (is_set bit s) bytes at f next h
form_on Range s bytes at f next h = interval_on bytes at h.0 next h.1
form_on PolygonPoints s bytes at f next h = points_on true bytes at h.0 next h.1
form_on PathPoints s bytes at f next h = points_on false bytes at h.0 next h.1
form_on Repetition s bytes at f next h = rep_on bytes at h.0 next h.1
form_on TrapezoidType s bytes at f next h = number_on bytes at h.0 next h.1
form_on Extension s bytes at f next h = omega (arith, h.1.ends)
form_on Switch s bytes at f next h = number_on bytes at h.0 next h.1
form_on Count s bytes at f next h = number_on bytes at h.0 next h.1
form_on Tables s bytes at f next h = numbers_on bytes at h.0.0 next h.0.2
form_on FourBytes s bytes at f next h = omega (arith, h.0.ends)
form_on Values s bytes at f next h = values_on (s / 16) bytes at next h.0

where_on : (b : Bool) (form : Form) (s : ℕ) (bytes : List ℕ) (at : ℕ) (f : Field) (next : ℕ) → HasWhere b form s bytes at f next → at ≤ next
where_on true form s bytes at f next h = form_on form s bytes at f next h
where_on false form s bytes at f next h = omega (arith, h.1)

fields_on : (ps : List Part) (s : ℕ) (bytes : List ℕ) (at : ℕ) (fs : List Field) (next : ℕ) → HasFields ps s bytes at fs next → at ≤ next
fields_on [] s bytes at [] next h = omega (arith, h)
fields_on [] s bytes at (f ∷ fs) next h = absurd h
fields_on (p ∷ ps) s bytes at [] next h = absurd h
fields_on (p ∷ ps) s bytes at (f ∷ fs) next h =
    omega (arith, where_on (is_written p.guard s) p.form s bytes at f h.0 h.1, fields_on ps (switches_after p.form f s) bytes h.0 fs next h.2)

body_on : (info : Info) (row : RecordRow) (tables : Bool) (bytes : List ℕ) (at i : ℕ) (fs : List Field) (next : ℕ)
    → HasBody info row tables bytes at i fs next → at ≤ next
body_on NoInfo row tables bytes at i fs next h = fields_on row.parts (switch_of tables) bytes at fs next h.1
body_on (Below n) row tables bytes at i fs next h = omega (arith, fields_on row.parts i bytes (at + 1) fs next h.fields_stand)
body_on Square row tables bytes at i fs next h = omega (arith, fields_on row.parts i bytes (at + 1) fs next h.fields_stand)

of_row_on : (r : Option RecordRow) (tables : Bool) (bytes : List ℕ) (at i : ℕ) (fs : List Field) (next : ℕ)
    → RecordRows.HasRecordRow r tables bytes at i fs next → at ≤ next
of_row_on (Some r) tables bytes at i fs next h = body_on r.info r tables bytes at i fs next h
of_row_on None tables bytes at i fs next h = absurd h

-- a record ends after its id
pub record_on : (bytes : List ℕ) (at : ℕ) (tables : Bool) (r : OasRecord) (next : ℕ) → HasRecord bytes at tables r next → at < next
record_on bytes at tables r next h = omega (
  arith,
  of_row_on (RecordRows.row_at (slice_index bytes at)) tables bytes (at + 1) (info_of r)
      (fields_of r) next h.row,
)
