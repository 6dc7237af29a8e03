-- What the program keeps is what the records say.
use Rattle.std.proofs.Common.{◌≡◌, ℕ, Bool, true, false, if◌then◌else◌, Option, Some, None, List, [], ◌∷◌, ◌++◌, refl, sym, ap, ◌∙◌}
use Rattle.oas_record.specs.Taken.{repetition_in}
use Rattle.oas_record.specs.declared.records.NameKind.TheVariants as kinds
use Rattle.oas_record.specs.declared.records.OasRecord.{OasRecord}
use Rattle.oas_record.specs.declared.records.OasRecord.TheVariants as records
use Rattle.oas_record.specs.declared.repetition.Rep.{Rep}
use Rattle.oas_record.specs.declared.shapes.ShapeKind.{ShapeKind}
use Rattle.oas_record.specs.declared.shapes.ShapeKind.TheVariants as shapes
use Rattle.oas_fields.specs.Values.{AreFields, or_else, kind_of}
use Rattle.oas_fields.specs.declared.fields.Fields.{Fields}
use Rattle.oas_fields.specs.declared.variables.Variable.{Variable}
use Rattle.oas_fields.specs.declared.variables.Variable.TheVariants.{Layer, Datatype, GeometryW, GeometryH}
use Rattle.oas_fields.specs.declared.variables.Variable.TheVariants.{PolygonPoints, PathHalfWidth, PathStart, PathEnd}
use Rattle.oas_fields.specs.declared.variables.Variable.TheVariants.{PathPoints, CtrapezoidType, PlacementCell}
use Rattle.oas_fields.specs.declared.variables.Variable.TheVariants.{Repetition}
use Rattle.oas_reader.specs.Bodies.{body_of, shape_body}
use Rattle.oas_reader.specs.Kept.{is_defined_in, first_in, form_needs, has_a_pair, pair_needs, repetition_needs, undefined_in}
use Rattle.oas_reader.specs.Undefined.{is_there, is_defined, repeated, shape_needs, needs_of, first_undefined, undefined_of}

-- ---- values that are needed

is_defined_by : (past : List OasRecord) (fields : Fields) → AreFields past fields → (variable : Variable)
    → is_defined_in fields variable ≡ is_defined past variable
is_defined_by past fields a Layer = ap is_there a.layer
is_defined_by past fields a Datatype = ap is_there a.datatype
is_defined_by past fields a GeometryW = ap is_there a.width
is_defined_by past fields a GeometryH = ap is_there a.height
is_defined_by past fields a PolygonPoints = ap is_there a.polygon_points
is_defined_by past fields a PathHalfWidth = ap is_there a.half_width
is_defined_by past fields a PathStart = ap is_there a.start
is_defined_by past fields a PathEnd = ap is_there a.end
is_defined_by past fields a PathPoints = ap is_there a.path_points
is_defined_by past fields a CtrapezoidType = ap is_there a.kind
is_defined_by past fields a PlacementCell = ap is_there a.cell
is_defined_by past fields a Repetition = ap is_there a.repetition

first_by : (past : List OasRecord) (fields : Fields) → AreFields past fields → (variables : List Variable)
    → first_in fields variables ≡ first_undefined past variables
first_by past fields a [] = refl
first_by past fields a (variable ∷ variables) =
    rw (is_defined_by past fields a variable, first_by past fields a variables) refl

either_behind : (b : Bool) (variable : Variable) (first second : Option Variable)
    → (if b then or_else first second else Some variable) ≡ or_else (if b then first else Some variable) second
either_behind true variable first second = refl
either_behind false variable first second = refl

-- the first of two lists
first_of_two : (past : List OasRecord) (some others : List Variable)
    → first_undefined past (some ++ others) ≡ or_else (first_undefined past some) (first_undefined past others)
first_of_two past [] others = refl
first_of_two past (variable ∷ some) others =
    rw (first_of_two past some others) (either_behind (is_defined past variable) variable (first_undefined past some) (first_undefined past others))

repeated_is : (repetition : Option Rep) → repeated repetition ≡ repetition_needs (is_there repetition)
repeated_is None = refl
repeated_is (Some rep) = refl

shape_needs_are : (info : ℕ) (kind : ShapeKind) (trapezoid_type : Option ℕ) (repetition : Option Rep)
    → Layer ∷ Datatype ∷ (shape_needs kind trapezoid_type ++ repeated repetition)
    ≡ pair_needs (has_a_pair (shape_body info kind)) ++ (form_needs (shape_body info kind) trapezoid_type ++ repetition_needs (is_there repetition))
shape_needs_are info (shapes.Circle radius) trapezoid_type repetition = rw (repeated_is repetition) refl
shape_needs_are info kind trapezoid_type repetition = rw (repeated_is repetition) refl

needs_are : (past : List OasRecord) (r : OasRecord) → needs_of past r
    ≡ pair_needs (has_a_pair (body_of r)) ++ (form_needs (body_of r) (kind_of (r ∷ past)) ++ repetition_needs (is_there (repetition_in r)))
needs_are past (records.Name kinds.Cell text number) = refl
needs_are past (records.Placement info cell turn x y repetition) = rw (repeated_is repetition) refl
needs_are past (records.Text info text textlayer texttype x y repetition) = rw (repeated_is repetition) refl
needs_are past (records.Shape head kind) = shape_needs_are head.info kind (kind_of (records.Shape head kind ∷ past)) head.repetition
needs_are past r = refl

joined : (all : List OasRecord) (fields : Fields) → AreFields all fields → (pair form repetition : List Variable)
    → or_else (first_in fields pair) (or_else (first_in fields form) (first_in fields repetition)) ≡ first_undefined all (pair ++ (form ++ repetition))
joined all fields a pair form repetition =
    ap (λ x. or_else x (or_else (first_in fields form) (first_in fields repetition))) (first_by all fields a pair)
    ∙ ap (λ x. or_else (first_undefined all pair) (or_else x (first_in fields repetition))) (first_by all fields a form)
    ∙ ap (λ x. or_else (first_undefined all pair) (or_else (first_undefined all form) x)) (first_by all fields a repetition)
    ∙ ap (λ x. or_else (first_undefined all pair) x) (sym (first_of_two all form repetition)) ∙ sym (first_of_two all pair (form ++ repetition))

-- what a record needs and hasn't, by what is kept of it
pub undefined_is : (past : List OasRecord) (r : OasRecord) (fields : Fields) → AreFields (r ∷ past) fields
    → undefined_in (body_of r) (is_there (repetition_in r)) fields ≡ undefined_of past r
undefined_is past r fields a =
    joined (r ∷ past) fields a (pair_needs (has_a_pair (body_of r))) (form_needs (body_of r) fields.kind) (repetition_needs (is_there (repetition_in r)))
    ∙ ap (λ kind. first_undefined (r ∷ past)
    (pair_needs (has_a_pair (body_of r))
    ++ (form_needs (body_of r) kind ++ repetition_needs (is_there (repetition_in r))))) a.kind
    ∙ sym (ap (λ needs. first_undefined (r ∷ past) needs) (needs_are past r))
