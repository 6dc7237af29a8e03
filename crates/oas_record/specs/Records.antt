-- A record at an offset of an OASIS file (SEMI P39 1.0, section 7, records): a byte for its id, an info byte where its row
-- has one, and the fields of its row.
use Rattle.std.specs.Prelude.{ℕ, ◌+◌, ◌<◌, ◌≡◌, ◌⊎◌, ℤ, Bool, false, IsTrue, nat_lt, if◌then◌else◌, Option, Some, None}
use Rattle.std.specs.Prelude.{List, [], ◌∷◌, ◌++◌, length, map, slice_index, get_or}
use Rattle.oas_lex.specs.declared.reals.Real.{Real}
use Rattle.oas_record.specs.Faults.{NoBytes}
use Rattle.oas_record.specs.Rows.{Field, Absent, IsNumber, IsSigned, IsSpan, IsReal, IsCalled, IsInterval, IsPoints}
use Rattle.oas_record.specs.Rows.{IsRep, Info, NoInfo, Below, Square, allows, RecordRow, rows, HasFields, NoFields}
use Rattle.oas_record.specs.declared.faults.RecordBad.{RecordBad}
use Rattle.oas_record.specs.declared.faults.RecordBad.TheVariants as faults
use Rattle.oas_record.specs.declared.fields.Called.{Called}
use Rattle.oas_record.specs.declared.fields.Called.TheVariants as called
use Rattle.oas_record.specs.declared.fields.Deltas.{Deltas}
use Rattle.oas_record.specs.declared.records.NameKind.{NameKind}
use Rattle.oas_record.specs.declared.records.NameKind.TheVariants as names
use Rattle.oas_record.specs.declared.records.OasRecord.{OasRecord}
use Rattle.oas_record.specs.declared.records.OasRecord.TheVariants as records
use Rattle.oas_record.specs.declared.records.Turn.{Turn}
use Rattle.oas_record.specs.declared.repetition.Rep.{Rep}
use Rattle.oas_record.specs.declared.shapes.ShapeHead.{ShapeHead}
use Rattle.oas_record.specs.declared.shapes.ShapeKind.{ShapeKind}
use Rattle.oas_record.specs.declared.shapes.ShapeKind.TheVariants as shapes
use Rattle.oas_record.specs.declared.shapes.TrapezoidDeltas.{TrapezoidDeltas}
use Rattle.oas_record.specs.declared.shapes.TrapezoidDeltas.TheVariants as deltas

-- ---- fields

-- a field that may be absent
abbrev pub perhaps : {A : Type 0} → (A → Field) → Option A → Field
perhaps field None = Absent
perhaps field (Some a) = field a

abbrev pub number_or : Option ℕ → Field
number_or n = perhaps IsNumber n

abbrev pub signed_or : Option ℤ → Field
signed_or z = perhaps IsSigned z

abbrev pub span_or : Option (ℕ × ℕ) → Field
span_or span = perhaps IsSpan span

abbrev pub real_or : Option Real → Field
real_or r = perhaps IsReal r

abbrev pub called_or : Option Called → Field
called_or c = perhaps IsCalled c

abbrev pub points_or : Option Deltas → Field
points_or d = perhaps IsPoints d

abbrev pub rep_or : Option Rep → Field
rep_or r = perhaps IsRep r

-- where the record stands
abbrev pub place_of : Option ℤ → Option ℤ → Option Rep → List Field
place_of x y repetition = signed_or x ∷ signed_or y ∷ rep_or repetition ∷ []

-- ---- the id of a record

-- the id of a record that may have a number at its end: the next id where it has one
abbrev pub numbered : ℕ → Option ℕ → ℕ
numbered id None = id
numbered id (Some number) = id + 1

abbrev pub name_id : NameKind → ℕ
name_id names.Cell = 3
name_id names.Text = 5
name_id names.Property = 7
name_id names.PropertyString = 9

abbrev pub cell_id : Called → ℕ
cell_id (called.Number number) = 13
cell_id (called.Text first next) = 14

abbrev pub placement_id : Option Turn → ℕ
placement_id None = 17
placement_id (Some turn) = 18

abbrev pub trapezoid_id : TrapezoidDeltas → ℕ
trapezoid_id (deltas.Both a b) = 23
trapezoid_id (deltas.A a) = 24
trapezoid_id (deltas.B b) = 25

abbrev pub shape_id : ShapeKind → ℕ
shape_id (shapes.Rectangle width height) = 20
shape_id (shapes.Polygon points) = 21
shape_id (shapes.Path half_width extension start end points) = 22
shape_id (shapes.Trapezoid width height deltas) = trapezoid_id deltas
shape_id (shapes.Ctrapezoid trapezoid_type width height) = 26
shape_id (shapes.Circle radius) = 27
shape_id (shapes.XGeometry attribute text) = 33

abbrev pub id_of : OasRecord → ℕ
id_of records.Pad = 0
id_of (records.Start version unit offset_flag tables) = 1
id_of (records.End tables padding scheme validation) = 2
id_of (records.Name kind text number) = numbered (name_id kind) number
id_of (records.LayerName of_texts name layers datatypes) = if of_texts then 12 else 11
id_of (records.Cell name) = cell_id name
id_of (records.Mode is_relative) = if is_relative then 16 else 15
id_of (records.Placement info cell turn x y repetition) = placement_id turn
id_of (records.Text info text textlayer texttype x y repetition) = 19
id_of (records.Shape head kind) = shape_id kind
id_of (records.Property info name count values) = 28
id_of records.LastProperty = 29
id_of (records.XName attribute text number) = numbered 30 number
id_of (records.XElement attribute text) = 32

-- the info byte, 0 where there is none
abbrev pub info_of : OasRecord → ℕ
info_of (records.Placement info cell turn x y repetition) = info
info_of (records.Text info text textlayer texttype x y repetition) = info
info_of (records.Shape head kind) = head.info
info_of (records.Property info name count values) = info
info_of _ = 0

-- ---- its fields

-- a number at the end of a record
abbrev pub number_after : Option ℕ → List Field
number_after None = []
number_after (Some number) = IsNumber number ∷ []

abbrev pub cell_field : Called → Field
cell_field (called.Number number) = IsNumber number
cell_field (called.Text first next) = IsSpan (first, next)

abbrev pub turn_fields : Option Turn → List Field
turn_fields None = []
turn_fields (Some turn) = real_or turn.magnification ∷ real_or turn.angle ∷ []

abbrev pub delta_fields : TrapezoidDeltas → List Field
delta_fields (deltas.Both a b) = IsSigned a ∷ IsSigned b ∷ []
delta_fields (deltas.A a) = IsSigned a ∷ []
delta_fields (deltas.B b) = IsSigned b ∷ []

-- the fields of a shape before its layer
abbrev pub fields_before : ShapeKind → List Field
fields_before (shapes.XGeometry attribute text) = IsNumber attribute ∷ []
fields_before _ = []

-- the fields of a shape between its datatype and its place
abbrev pub own_fields : ShapeKind → List Field
own_fields (shapes.Rectangle width height) = number_or width ∷ number_or height ∷ []
own_fields (shapes.Polygon points) = points_or points ∷ []
own_fields (shapes.Path half_width extension start end points) =
    number_or half_width ∷ number_or extension ∷ signed_or start ∷ signed_or end ∷ points_or points ∷ []
own_fields (shapes.Trapezoid width height deltas) = number_or width ∷ number_or height ∷ delta_fields deltas
own_fields (shapes.Ctrapezoid trapezoid_type width height) = number_or trapezoid_type ∷ number_or width ∷ number_or height ∷ []
own_fields (shapes.Circle radius) = number_or radius ∷ []
own_fields (shapes.XGeometry attribute text) = IsSpan text ∷ []

-- the fields of a shape
abbrev pub shape_fields : ShapeHead → ShapeKind → List Field
shape_fields head kind = fields_before kind
    ++ (number_or head.layer ∷ number_or head.datatype ∷ (own_fields kind ++ place_of head.x head.y head.repetition))

abbrev pub fields_of : OasRecord → List Field
fields_of records.Pad = []
fields_of (records.Start version unit offset_flag tables) = IsSpan version ∷ IsReal unit ∷ IsNumber offset_flag ∷ span_or tables ∷ []
fields_of (records.End tables padding scheme validation) = span_or tables ∷ IsSpan padding ∷ IsNumber scheme ∷ span_or validation ∷ []
fields_of (records.Name kind text number) = IsSpan text ∷ number_after number
fields_of (records.LayerName of_texts name layers datatypes) = IsSpan name ∷ IsInterval layers ∷ IsInterval datatypes ∷ []
fields_of (records.Cell name) = cell_field name ∷ []
fields_of (records.Mode is_relative) = []
fields_of (records.Placement info cell turn x y repetition) = called_or cell ∷ (turn_fields turn ++ place_of x y repetition)
fields_of (records.Text info text textlayer texttype x y repetition) = called_or text ∷ number_or textlayer ∷ number_or texttype ∷ place_of x y repetition
fields_of (records.Shape head kind) = shape_fields head kind
fields_of (records.Property info name count values) = called_or name ∷ number_or count ∷ span_or values ∷ []
fields_of records.LastProperty = []
fields_of (records.XName attribute text number) = IsNumber attribute ∷ IsSpan text ∷ number_after number
fields_of (records.XElement attribute text) = IsNumber attribute ∷ IsSpan text ∷ []

-- ---- where it stands

-- the row of an id
abbrev pub row_at : ℕ → Option RecordRow
row_at id = get_or (map Some rows) id None

-- the switches of a record without an info byte: whether END holds the table offsets
abbrev pub switch_of : Bool → ℕ
switch_of tables = if tables then 1 else 0

-- the info byte of a row that has one, and the fields after it
pub record HasInfo (row : RecordRow) (bytes : List ℕ) (at info : ℕ) (fields : List Field) (next : ℕ) : Type 0 where
  pub within : at < length bytes
  pub byte : info ≡ slice_index bytes at
  pub allowed : IsTrue (allows row.info info)
  pub fields_stand : HasFields row.parts info bytes (at + 1) fields next

abbrev pub HasBody : Info → RecordRow → Bool → List ℕ → ℕ → ℕ → List Field → ℕ → Type 0
HasBody NoInfo row tables bytes at info fields next =
    (info ≡ 0) × HasFields row.parts (switch_of tables) bytes at fields next
HasBody (Below n) row tables bytes at info fields next = HasInfo row bytes at info fields next
HasBody Square row tables bytes at info fields next = HasInfo row bytes at info fields next

-- the info byte and the fields of a row stand from `at` up to before `next`
abbrev pub HasRecordRow : Option RecordRow → Bool → List ℕ → ℕ → ℕ → List Field → ℕ → Type 0
HasRecordRow (Some row) tables bytes at info fields next = HasBody row.info row tables bytes at info fields next
HasRecordRow None tables bytes at info fields next = ⊥

-- the record stands from `at` up to before `next`; `tables` says whether END holds the table offsets
pub record HasRecord (bytes : List ℕ) (at : ℕ) (tables : Bool) (r : OasRecord) (next : ℕ) : Type 0 where
  pub within : at < length bytes
  pub id : id_of r ≡ slice_index bytes at
  pub row : HasRecordRow (row_at (slice_index bytes at)) tables bytes (at + 1) (info_of r) (fields_of r) next

-- ---- where none stands

-- the info byte is there, and it isn't allowed or a field after it fails
pub record InfoFails (row : RecordRow) (bytes : List ℕ) (at : ℕ) (bad : RecordBad) : Type 0 where
  pub within : at < length bytes
  pub fails : ((allows row.info (slice_index bytes at) ≡ false) × (bad ≡ faults.Shape))
      ⊎ (IsTrue (allows row.info (slice_index bytes at)) × NoFields row.parts (slice_index bytes at) bytes (at + 1) bad)

abbrev pub NoBody : Info → RecordRow → Bool → List ℕ → ℕ → RecordBad → Type 0
NoBody NoInfo row tables bytes at bad = NoFields row.parts (switch_of tables) bytes at bad
NoBody (Below n) row tables bytes at bad = NoBytes bytes at 1 bad ⊎ InfoFails row bytes at bad
NoBody Square row tables bytes at bad = NoBytes bytes at 1 bad ⊎ InfoFails row bytes at bad

-- an id of no row is a compressed block's, 34, or no record's
abbrev pub NoRow : Option RecordRow → ℕ → Bool → List ℕ → ℕ → RecordBad → Type 0
NoRow (Some row) id tables bytes at bad = NoBody row.info row tables bytes at bad
NoRow None id tables bytes at bad = bad ≡ (if nat_lt id 35 then faults.Packed else faults.Kind)

pub record RecordRowFails (bytes : List ℕ) (at : ℕ) (tables : Bool) (bad : RecordBad) : Type 0 where
  pub within : at < length bytes
  pub fails : NoRow (row_at (slice_index bytes at)) (slice_index bytes at) tables bytes (at + 1) bad

-- no record stands at `at`, and the first byte that breaks shows this: the id isn't there, or it is and the rest isn't
abbrev pub NoRecord : List ℕ → ℕ → Bool → RecordBad → Type 0
NoRecord bytes at tables bad = NoBytes bytes at 1 bad ⊎ RecordRowFails bytes at tables bad
