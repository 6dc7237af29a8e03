-- The rows of shapes: pair, own fields and place, by the form that the id names.
use Rattle.std.specs.Prelude.{ℕ, ◌≡◌, List, [], ◌∷◌, ◌++◌}
use Rattle.oas_record.specs.Records.{number_or, shape_id, fields_before, own_fields}
use Rattle.oas_record.specs.Rows.{Number, Signed, PolygonPoints, PathPoints, TrapezoidType, Extension, Always, Bit, Both, Part, when}
use Rattle.oas_record.specs.Rows.{Info, Below, Square, RecordRow, Field, pair, box, place, switches_after, with_extension, HasFields}
use Rattle.oas_record.specs.declared.shape_form.ShapeForm.{ShapeForm}
use Rattle.oas_record.specs.declared.shape_form.ShapeForm.TheVariants as forms
use Rattle.oas_record.specs.declared.shapes.ShapeKind.{ShapeKind}
use Rattle.oas_record.specs.declared.shapes.ShapeKind.TheVariants as shapes

abbrev pub form_id : ShapeForm → ℕ
form_id forms.Rectangle = 20
form_id forms.Polygon = 21
form_id forms.Path = 22
form_id forms.Trapezoid = 23
form_id forms.TrapezoidA = 24
form_id forms.TrapezoidB = 25
form_id forms.Ctrapezoid = 26
form_id forms.Circle = 27

abbrev pub info_of_form : ShapeForm → Info
info_of_form forms.Rectangle = Square
info_of_form forms.Polygon = Below 64
info_of_form forms.Path = Below 256
info_of_form forms.Trapezoid = Below 256
info_of_form forms.TrapezoidA = Below 256
info_of_form forms.TrapezoidB = Below 256
info_of_form forms.Ctrapezoid = Below 256
info_of_form forms.Circle = Below 64

-- the half-width and the extension byte of a path, and its extensions
abbrev pub width_parts : List Part
width_parts = when (Bit 6) Number ∷ when (Bit 7) Extension ∷ []

abbrev pub end_parts : List Part
end_parts = when (Both 10) Signed ∷ when (Both 8) Signed ∷ []

-- the fields between the datatype and the place
abbrev pub own_parts : ShapeForm → List Part
own_parts forms.Rectangle = box
own_parts forms.Polygon = when (Bit 5) PolygonPoints ∷ []
own_parts forms.Path = width_parts ++ (end_parts ++ (when (Bit 5) PathPoints ∷ []))
own_parts forms.Trapezoid = box ++ (when Always Signed ∷ when Always Signed ∷ [])
own_parts forms.TrapezoidA = box ++ (when Always Signed ∷ [])
own_parts forms.TrapezoidB = box ++ (when Always Signed ∷ [])
own_parts forms.Ctrapezoid = when (Bit 7) TrapezoidType ∷ box
own_parts forms.Circle = when (Bit 5) Number ∷ []

abbrev pub row_of : ShapeForm → RecordRow
row_of form = record { info = info_of_form form; parts = pair ++ (own_parts form ++ place) }

-- the switches after some fields
abbrev pub through : List Part → List Field → ℕ → ℕ
through [] fields s = s
through (p ∷ ps) [] s = s
through (p ∷ ps) (f ∷ fs) s = through ps fs (switches_after p.form f s)

-- the switches after the own fields of a shape: a path has an extension byte above its info byte
abbrev pub switches_by : ShapeKind → ℕ → ℕ
switches_by (shapes.Path half_width extension start end points) info = with_extension (number_or extension) info
switches_by _ info = info

-- the own fields of a shape of this form stand from `at` up to before `next`
pub record HasOwn (form : ShapeForm) (info : ℕ) (bytes : List ℕ) (at : ℕ) (kind : ShapeKind) (next : ℕ) : Type 0 where
  pub id : shape_id kind ≡ form_id form
  pub before : fields_before kind ≡ []
  pub switches : through (own_parts form) (own_fields kind) info ≡ switches_by kind info
  pub fields : HasFields (own_parts form) info bytes at (own_fields kind) next
