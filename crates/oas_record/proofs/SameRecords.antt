-- The record that an id, an info byte and fields are: fields name their record.
use Rattle.std.proofs.Common.{◌≡◌, ℕ, ◌+◌, ℤ, pos, true, false, Option, Some, None, List, get_or, nat_eq, if◌then◌else◌, refl, sym, ap}
use Rattle.std.proofs.Common.{◌∙◌}
use Rattle.oas_lex.specs.declared.reals.Real.{Real}
use Rattle.oas_record.specs.Records.{number_or, signed_or, span_or, real_or, called_or, points_or, rep_or, id_of, info_of, fields_of}
use Rattle.oas_record.specs.Rows.{Field, Absent, IsNumber, IsSigned, IsSpan, IsReal, IsCalled, IsInterval, IsPoints, IsRep}
use Rattle.oas_record.specs.declared.fields.Called.{Called}
use Rattle.oas_record.specs.declared.fields.Called.TheVariants as called
use Rattle.oas_record.specs.declared.fields.Deltas.{Deltas}
use Rattle.oas_record.specs.declared.fields.Interval.{Interval}
use Rattle.oas_record.specs.declared.records.NameKind.TheVariants as names
use Rattle.oas_record.specs.declared.records.OasRecord.{OasRecord}
use Rattle.oas_record.specs.declared.records.OasRecord.TheVariants as records
use Rattle.oas_record.specs.declared.records.Turn.{Turn}
use Rattle.oas_record.specs.declared.repetition.Rep.{Rep}
use Rattle.oas_record.specs.declared.shapes.ShapeHead.{ShapeHead}
use Rattle.oas_record.specs.declared.shapes.ShapeKind.{ShapeKind}
use Rattle.oas_record.specs.declared.shapes.ShapeKind.TheVariants as shapes
use Rattle.oas_record.specs.declared.shapes.TrapezoidDeltas.TheVariants as deltas

-- ---- what a field is

abbrev number_of : Field → Option ℕ
number_of (IsNumber x) = Some x
number_of f = None

abbrev signed_of : Field → Option ℤ
signed_of (IsSigned x) = Some x
signed_of f = None

abbrev span_of : Field → Option (ℕ × ℕ)
span_of (IsSpan x) = Some x
span_of f = None

abbrev real_of : Field → Option Real
real_of (IsReal x) = Some x
real_of f = None

abbrev called_of : Field → Option Called
called_of (IsCalled x) = Some x
called_of f = None

abbrev points_of : Field → Option Deltas
points_of (IsPoints x) = Some x
points_of f = None

abbrev rep_of : Field → Option Rep
rep_of (IsRep x) = Some x
rep_of f = None

abbrev number_in : Field → ℕ
number_in (IsNumber x) = x
number_in f = 0

abbrev signed_in : Field → ℤ
signed_in (IsSigned x) = x
signed_in f = pos 0

abbrev span_in : Field → ℕ × ℕ
span_in (IsSpan x) = x
span_in f = (0, 0)

abbrev real_in : Field → Real
real_in (IsReal x) = x
real_in f = record { kind = 0; a = 0; b = 0 }

abbrev interval_in : Field → Interval
interval_in (IsInterval x) = x
interval_in f = record { kind = 0; a = 0; b = 0 }

number_back : (x : Option ℕ) → number_of (number_or x) ≡ x
number_back None = refl
number_back (Some x) = refl

signed_back : (x : Option ℤ) → signed_of (signed_or x) ≡ x
signed_back None = refl
signed_back (Some x) = refl

span_back : (x : Option (ℕ × ℕ)) → span_of (span_or x) ≡ x
span_back None = refl
span_back (Some x) = refl

real_back : (x : Option Real) → real_of (real_or x) ≡ x
real_back None = refl
real_back (Some x) = refl

called_back : (x : Option Called) → called_of (called_or x) ≡ x
called_back None = refl
called_back (Some x) = refl

points_back : (x : Option Deltas) → points_of (points_or x) ≡ x
points_back None = refl
points_back (Some x) = refl

rep_back : (x : Option Rep) → rep_of (rep_or x) ≡ x
rep_back None = refl
rep_back (Some x) = refl

-- ---- the record

abbrev nth : List Field → ℕ → Field
nth fs k = get_or fs k Absent

-- the head of a shape whose layer is this field, and whose x is that one
abbrev head_from : ℕ → List Field → ℕ → ℕ → ShapeHead
head_from info fs layer x = record {
  info = info;
  layer = number_of (nth fs layer);
  datatype = number_of (nth fs (layer + 1));
  x = signed_of (nth fs x);
  y = signed_of (nth fs (x + 1));
  repetition = rep_of (nth fs (x + 2));
}

abbrev turn_from : List Field → Turn
turn_from fs = record { magnification = real_of (nth fs 1); angle = real_of (nth fs 2) }

record_from : ℕ → ℕ → List Field → OasRecord
record_from id info fs =
    if nat_eq id 1 then records.Start (span_in (nth fs 0)) (real_in (nth fs 1)) (number_in (nth fs 2)) (span_of (nth fs 3))
    else if nat_eq id 2 then records.End (span_of (nth fs 0)) (span_in (nth fs 1)) (number_in (nth fs 2)) (span_of (nth fs 3))
    else if nat_eq id 3 then records.Name names.Cell (span_in (nth fs 0)) None
    else if nat_eq id 4 then records.Name names.Cell (span_in (nth fs 0)) (Some (number_in (nth fs 1)))
    else if nat_eq id 5 then records.Name names.Text (span_in (nth fs 0)) None
    else if nat_eq id 6 then records.Name names.Text (span_in (nth fs 0)) (Some (number_in (nth fs 1)))
    else if nat_eq id 7 then records.Name names.Property (span_in (nth fs 0)) None
    else if nat_eq id 8 then records.Name names.Property (span_in (nth fs 0)) (Some (number_in (nth fs 1)))
    else if nat_eq id 9 then records.Name names.PropertyString (span_in (nth fs 0)) None
    else if nat_eq id 10 then records.Name names.PropertyString (span_in (nth fs 0)) (Some (number_in (nth fs 1)))
    else if nat_eq id 11 then records.LayerName false (span_in (nth fs 0)) (interval_in (nth fs 1)) (interval_in (nth fs 2))
    else if nat_eq id 12 then records.LayerName true (span_in (nth fs 0)) (interval_in (nth fs 1)) (interval_in (nth fs 2))
    else if nat_eq id 13 then records.Cell (called.Number (number_in (nth fs 0)))
    else if nat_eq id 14 then records.Cell (called.Text (span_in (nth fs 0)).0 (span_in (nth fs 0)).1)
    else if nat_eq id 15 then records.Mode false
    else if nat_eq id 16 then records.Mode true
    else if nat_eq id 17 then records.Placement info (called_of (nth fs 0)) None (signed_of (nth fs 1)) (signed_of (nth fs 2)) (rep_of (nth fs 3))
    else if nat_eq id 18 then records.Placement info (called_of (nth fs 0)) (Some (turn_from fs))
    (signed_of (nth fs 3)) (signed_of (nth fs 4)) (rep_of (nth fs 5))
    else if nat_eq id 19 then records.Text info (called_of (nth fs 0)) (number_of (nth fs 1)) (number_of (nth fs 2))
    (signed_of (nth fs 3)) (signed_of (nth fs 4)) (rep_of (nth fs 5))
    else if nat_eq id 20 then records.Shape (head_from info fs 0 4) (shapes.Rectangle (number_of (nth fs 2)) (number_of (nth fs 3)))
    else if nat_eq id 21 then records.Shape (head_from info fs 0 3) (shapes.Polygon (points_of (nth fs 2)))
    else if nat_eq id 22 then records.Shape (head_from info fs 0 7)
    (shapes.Path (number_of (nth fs 2)) (number_of (nth fs 3)) (signed_of (nth fs 4)) (signed_of (nth fs 5)) (points_of (nth fs 6)))
    else if nat_eq id 23 then records.Shape (head_from info fs 0 6)
    (shapes.Trapezoid (number_of (nth fs 2)) (number_of (nth fs 3)) (deltas.Both (signed_in (nth fs 4)) (signed_in (nth fs 5))))
    else if nat_eq id 24 then records.Shape (head_from info fs 0 5)
    (shapes.Trapezoid (number_of (nth fs 2)) (number_of (nth fs 3)) (deltas.A (signed_in (nth fs 4))))
    else if nat_eq id 25 then records.Shape (head_from info fs 0 5)
    (shapes.Trapezoid (number_of (nth fs 2)) (number_of (nth fs 3)) (deltas.B (signed_in (nth fs 4))))
    else if nat_eq id 26 then records.Shape (head_from info fs 0 5) (shapes.Ctrapezoid (number_of (nth fs 2)) (number_of (nth fs 3)) (number_of (nth fs 4)))
    else if nat_eq id 27 then records.Shape (head_from info fs 0 3) (shapes.Circle (number_of (nth fs 2)))
    else if nat_eq id 28 then records.Property info (called_of (nth fs 0)) (number_of (nth fs 1)) (span_of (nth fs 2))
    else if nat_eq id 29 then records.LastProperty
    else if nat_eq id 30 then records.XName (number_in (nth fs 0)) (span_in (nth fs 1)) None
    else if nat_eq id 31 then records.XName (number_in (nth fs 0)) (span_in (nth fs 1)) (Some (number_in (nth fs 2)))
    else if nat_eq id 32 then records.XElement (number_in (nth fs 0)) (span_in (nth fs 1))
    else if nat_eq id 33 then records.Shape (head_from info fs 1 4) (shapes.XGeometry (number_in (nth fs 0)) (span_in (nth fs 3)))
    else records.Pad

-- a head that is read back of its fields
abbrev read_back : ShapeHead → ShapeHead
read_back head = record {
  info = head.info;
  layer = number_of (number_or head.layer);
  datatype = number_of (number_or head.datatype);
  x = signed_of (signed_or head.x);
  y = signed_of (signed_or head.y);
  repetition = rep_of (rep_or head.repetition);
}

head_back : (head : ShapeHead) → read_back head ≡ head
head_back head = rw (number_back head.layer, number_back head.datatype, signed_back head.x, signed_back head.y, rep_back head.repetition) refl

shape_back : (head : ShapeHead) (read kind : ShapeKind) → read ≡ kind → records.Shape (read_back head) read ≡ records.Shape head kind
shape_back head read kind same = ap (λ h. records.Shape h read) (head_back head) ∙ ap (λ k. records.Shape head k) same

back : (r : OasRecord) → record_from (id_of r) (info_of r) (fields_of r) ≡ r
unfolding record_from
back records.Pad = refl
back (records.Start version unit offset_flag tables) = rw (span_back tables) refl
back (records.End tables padding scheme validation) = rw (span_back tables, span_back validation) refl
back (records.Name names.Cell text None) = refl
back (records.Name names.Cell text (Some number)) = refl
back (records.Name names.Text text None) = refl
back (records.Name names.Text text (Some number)) = refl
back (records.Name names.Property text None) = refl
back (records.Name names.Property text (Some number)) = refl
back (records.Name names.PropertyString text None) = refl
back (records.Name names.PropertyString text (Some number)) = refl
back (records.LayerName false name layers datatypes) = refl
back (records.LayerName true name layers datatypes) = refl
back (records.Cell (called.Number number)) = refl
back (records.Cell (called.Text first next)) = refl
back (records.Mode false) = refl
back (records.Mode true) = refl
back (records.Placement info cell None x y repetition) = rw (called_back cell, signed_back x, signed_back y, rep_back repetition) refl
back (records.Placement info cell (Some turn) x y repetition) = rw
    (called_back cell, real_back turn.magnification, real_back turn.angle, signed_back x, signed_back y, rep_back repetition) refl
back (records.Text info text textlayer texttype x y repetition) = rw
    (called_back text, number_back textlayer, number_back texttype, signed_back x, signed_back y, rep_back repetition)
    refl
back (records.Shape head (shapes.Rectangle width height)) =
    shape_back head (shapes.Rectangle (number_of (number_or width)) (number_of (number_or height))) (shapes.Rectangle width height)
    (rw (number_back width, number_back height) refl)
back (records.Shape head (shapes.Polygon points)) =
    shape_back head (shapes.Polygon (points_of (points_or points))) (shapes.Polygon points) (rw (points_back points) refl)
back (records.Shape head (shapes.Path half_width extension start end points)) =
    shape_back head (shapes.Path (number_of (number_or half_width)) (number_of (number_or extension)) (signed_of (signed_or start))
    (signed_of (signed_or end)) (points_of (points_or points))) (shapes.Path half_width extension start end points)
    (rw (number_back half_width, number_back extension, signed_back start, signed_back end, points_back points) refl)
back (records.Shape head (shapes.Trapezoid width height (deltas.Both a b))) =
    shape_back head (shapes.Trapezoid (number_of (number_or width)) (number_of (number_or height)) (deltas.Both a b))
    (shapes.Trapezoid width height (deltas.Both a b)) (rw (number_back width, number_back height) refl)
back (records.Shape head (shapes.Trapezoid width height (deltas.A a))) =
    shape_back head (shapes.Trapezoid (number_of (number_or width)) (number_of (number_or height)) (deltas.A a))
    (shapes.Trapezoid width height (deltas.A a)) (rw (number_back width, number_back height) refl)
back (records.Shape head (shapes.Trapezoid width height (deltas.B b))) =
    shape_back head (shapes.Trapezoid (number_of (number_or width)) (number_of (number_or height)) (deltas.B b))
    (shapes.Trapezoid width height (deltas.B b)) (rw (number_back width, number_back height) refl)
back (records.Shape head (shapes.Ctrapezoid trapezoid_type width height)) =
    shape_back head (shapes.Ctrapezoid (number_of (number_or trapezoid_type)) (number_of (number_or width)) (number_of (number_or height)))
    (shapes.Ctrapezoid trapezoid_type width height) (rw (number_back trapezoid_type, number_back width, number_back height) refl)
back (records.Shape head (shapes.Circle radius)) =
    shape_back head (shapes.Circle (number_of (number_or radius))) (shapes.Circle radius) (rw (number_back radius) refl)
back (records.Shape head (shapes.XGeometry attribute text)) =
    shape_back head (shapes.XGeometry attribute text) (shapes.XGeometry attribute text) refl
back (records.Property info name count values) = rw (called_back name, number_back count, span_back values) refl
back records.LastProperty = refl
back (records.XName attribute text None) = refl
back (records.XName attribute text (Some number)) = refl
back (records.XElement attribute text) = refl

pub same_record : (r s : OasRecord) → id_of r ≡ id_of s → info_of r ≡ info_of s → fields_of r ≡ fields_of s → r ≡ s
same_record r s id info fields =
    let first = ap (λ (k : ℕ). record_from k (info_of r) (fields_of r)) id in
    let second = ap (λ (k : ℕ). record_from (id_of s) k (fields_of r)) info in
    let third = ap (λ (l : List Field). record_from (id_of s) (info_of s) l) fields in
    sym (back r) ∙ (first ∙ (second ∙ (third ∙ back s)))
