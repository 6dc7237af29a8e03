-- The record of a shape: its info byte, its pair, its own fields and its place.
use Rattle.std.proofs.Common.{◌≡◌, ◌⊎◌, ◌<◌, ◌+◌, ℕ, false, IsTrue, List, [], ◌∷◌, ◌++◌, length, slice_index, refl, sym, subst}
use Rattle.oas_record.specs.Faults.{NoBytes}
use Rattle.oas_record.specs.Parts.{IsOf, NotOf, NoInfoByte}
use Rattle.oas_record.specs.Records.{number_or, signed_or, rep_or, place_of, own_fields, shape_fields, row_at, HasInfo, HasRecordRow, InfoFails}
use Rattle.oas_record.specs.Rows.{Field, allows, pair, place, HasFields, NoFields}
use Rattle.oas_record.specs.Shapes.{form_id, info_of_form, own_parts, row_of, switches_by, HasOwn}
use Rattle.oas_record.specs.declared.faults.RecordBad.{RecordBad}
use Rattle.oas_record.specs.declared.records.OasRecord.TheVariants as records
use Rattle.oas_record.specs.declared.shape_form.ShapeForm.{ShapeForm}
use Rattle.oas_record.specs.declared.shape_form.ShapeForm.TheVariants as forms
use Rattle.oas_record.specs.declared.shapes.ShapeHead.{ShapeHead}
use Rattle.oas_record.specs.declared.shapes.ShapeKind.{ShapeKind}
use Rattle.oas_record.specs.declared.shapes.ShapeKind.TheVariants as shapes
use Rattle.oas_record.proofs.Joins.{joined, info_refused, fields_refused}
use Rattle.oas_record.proofs.Switches.{place_moved, no_place_moved}

-- ---- the row of a form is the row of its id

row_there : (form : ShapeForm) (bytes : List ℕ) (at info : ℕ) (fields : List Field) (next : ℕ)
    → HasInfo (row_of form) bytes at info fields next → HasRecordRow (row_at (form_id form)) false bytes at info fields next
row_there forms.Rectangle bytes at info fields next h = h
row_there forms.Polygon bytes at info fields next h = h
row_there forms.Path bytes at info fields next h = h
row_there forms.Trapezoid bytes at info fields next h = h
row_there forms.TrapezoidA bytes at info fields next h = h
row_there forms.TrapezoidB bytes at info fields next h = h
row_there forms.Ctrapezoid bytes at info fields next h = h
row_there forms.Circle bytes at info fields next h = h

row_missing : (form : ShapeForm) (bytes : List ℕ) (at : ℕ) (bad : RecordBad)
    → NoBytes bytes at 1 bad ⊎ InfoFails (row_of form) bytes at bad → NotOf (form_id form) false bytes at bad
row_missing forms.Rectangle bytes at bad h = h
row_missing forms.Polygon bytes at bad h = h
row_missing forms.Path bytes at bad h = h
row_missing forms.Trapezoid bytes at bad h = h
row_missing forms.TrapezoidA bytes at bad h = h
row_missing forms.TrapezoidB bytes at bad h = h
row_missing forms.Ctrapezoid bytes at bad h = h
row_missing forms.Circle bytes at bad h = h

-- ---- the place, whatever the own fields made of the switches

place_by : (kind : ShapeKind) (info : ℕ) (bytes : List ℕ) (at : ℕ) (x y r : Field) (next : ℕ)
    → HasFields place info bytes at (x ∷ y ∷ r ∷ []) next → HasFields place (switches_by kind info) bytes at (x ∷ y ∷ r ∷ []) next
place_by (shapes.Path half_width extension start end points) info bytes at x y r next h = place_moved extension info bytes at x y r next h
place_by (shapes.Rectangle width height) info bytes at x y r next h = h
place_by (shapes.Polygon points) info bytes at x y r next h = h
place_by (shapes.Trapezoid width height deltas) info bytes at x y r next h = h
place_by (shapes.Ctrapezoid trapezoid_type width height) info bytes at x y r next h = h
place_by (shapes.Circle radius) info bytes at x y r next h = h
place_by (shapes.XGeometry attribute text) info bytes at x y r next h = h

pub no_place_by : (kind : ShapeKind) (info : ℕ) (bytes : List ℕ) (at : ℕ) (bad : RecordBad)
    → NoFields place info bytes at bad → NoFields place (switches_by kind info) bytes at bad
no_place_by (shapes.Path half_width extension start end points) info bytes at bad h = no_place_moved extension info bytes at bad h
no_place_by (shapes.Rectangle width height) info bytes at bad h = h
no_place_by (shapes.Polygon points) info bytes at bad h = h
no_place_by (shapes.Trapezoid width height deltas) info bytes at bad h = h
no_place_by (shapes.Ctrapezoid trapezoid_type width height) info bytes at bad h = h
no_place_by (shapes.Circle radius) info bytes at bad h = h
no_place_by (shapes.XGeometry attribute text) info bytes at bad h = h

-- ---- the record

pub shape_there : (form : ShapeForm) (bytes : List ℕ) (at : ℕ) (head : ShapeHead) (kind : ShapeKind) (second third next : ℕ)
    → at < length bytes → head.info ≡ slice_index bytes at → IsTrue (allows (info_of_form form) head.info)
    → HasFields pair head.info bytes (at + 1) (number_or head.layer ∷ number_or head.datatype ∷ []) second
    → HasOwn form head.info bytes second kind third
    → HasFields place head.info bytes third (place_of head.x head.y head.repetition) next
    → IsOf (form_id form) false bytes at (records.Shape head kind) next
shape_there form bytes at head kind second third next within byte allowed layers own placed =
    let put = place_by kind head.info bytes third (signed_or head.x) (signed_or head.y) (rep_or head.repetition) next placed in
    let tail = joined (own_parts form) place head.info (switches_by kind head.info) bytes second (own_fields kind)
    (place_of head.x head.y head.repetition) third next own.switches own.fields put in
    let whole = joined pair (own_parts form ++ place) head.info head.info bytes (at + 1)
    (number_or head.layer ∷ number_or head.datatype ∷ []) (own_fields kind ++ place_of head.x head.y head.repetition) second next
    refl layers tail in
    let stand = subst (λ (fs : List Field). HasFields (pair ++ (own_parts form ++ place)) head.info bytes (at + 1)
    (fs ++ (number_or head.layer ∷ number_or head.datatype ∷ (own_fields kind ++ place_of head.x head.y head.repetition))) next)
    (sym own.before) whole in
    record {
      id_is = own.id;
      row = row_there form bytes at head.info (shape_fields head kind) next
          (record { within = within; byte = byte; allowed = allowed; fields_stand = stand });
    }

-- the info byte fails
pub info_missing : (form : ShapeForm) (bytes : List ℕ) (at : ℕ) (bad : RecordBad) → NoInfoByte (info_of_form form) bytes at bad
    → NotOf (form_id form) false bytes at bad
info_missing form bytes at bad h = row_missing form bytes at bad (info_refused (row_of form) bytes at bad h)

-- a field fails
pub fields_missing : (form : ShapeForm) (bytes : List ℕ) (at info : ℕ) (bad : RecordBad) → at < length bytes
    → info ≡ slice_index bytes at → IsTrue (allows (info_of_form form) info)
    → NoFields (pair ++ (own_parts form ++ place)) info bytes (at + 1) bad → NotOf (form_id form) false bytes at bad
fields_missing form bytes at info bad within byte allowed f =
    row_missing form bytes at bad (fields_refused (row_of form) bytes at info bad within byte allowed f)
