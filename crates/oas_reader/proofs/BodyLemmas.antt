-- What a record that stands keeps within the bytes, and what is kept of it says of its kind.
use Rattle.std.proofs.Common.{◌≡◌, ℕ, ◌+◌, Bool, true, false, if◌then◌else◌, Option, Some, None, List, [], ◌∷◌, refl, sym, subst, ◌⊎◌, inl, inr, arith}
use Rattle.oas_lex.specs.Strings.{HasText}
use Rattle.oas_record.specs.Records.{HasRecord, HasBody, HasInfo, HasRecordRow, row_at, id_of, info_of, fields_of, switch_of, called_or, span_or, real_or, place_of}
use Rattle.oas_record.specs.Rows.{Field, IsNumber, IsReal, IsCalled, IsSpan as Spanned, Part, RecordRow, NoInfo, Below}
use Rattle.oas_record.specs.Rows.{HasForm, HasName, HasWhere, HasFields, Text as AText, OneReal, Switch, Tables}
use Rattle.oas_record.specs.Rows.{Number as ANumber, NameBy, Always, Bit, Zero, when, placed, is_set, is_written}
use Rattle.oas_record.specs.declared.fields.Called.{Called}
use Rattle.oas_record.specs.declared.fields.Called.TheVariants.{Number, Text}
use Rattle.oas_record.specs.declared.records.NameKind.TheVariants as kinds
use Rattle.oas_record.specs.declared.records.OasRecord.{OasRecord}
use Rattle.oas_record.specs.declared.records.OasRecord.TheVariants as records
use Rattle.oas_record.specs.declared.shapes.ShapeKind.TheVariants as shapes
use Rattle.oas_fields.specs.Values.{or_else, begins_cell, cell_of}
use Rattle.oas_fields.specs.Writes.{writes_of}
use Rattle.oas_reader.specs.Bodies.{body_of}
use Rattle.oas_reader.specs.Files.{KeepsFile, BreaksFile, tables_by}
use Rattle.oas_reader.specs.Items.{is_end, is_flagged}
use Rattle.oas_reader.specs.Naming.{IsSpan, AreCalledWithin}
use Rattle.oas_reader.specs.Reading.{HasUnit, IsTail}
use Rattle.oas_reader.specs.Rules.{KeepsName}
use Rattle.oas_reader.specs.Taking.{IsBodyWithin, KeepsOwnName}
use Rattle.oas_reader.specs.declared.refusing.OasBad.{OasBad}
use Rattle.oas_reader.specs.declared.refusing.OasBad.TheVariants as faults

-- ---- strings within the bytes

row_of : (bytes : List ℕ) (at : ℕ) (tables : Bool) (r : OasRecord) (next : ℕ) → HasRecord bytes at tables r next
    → HasRecordRow (row_at (id_of r)) tables bytes (at + 1) (info_of r) (fields_of r) next
row_of bytes at tables r next h = subst (λ id. HasRecordRow (row_at id) tables bytes (at + 1) (info_of r) (fields_of r) next) (sym h.id) h.row

text_span : (bytes : List ℕ) (at first next : ℕ) → HasText bytes at first next → IsSpan bytes (first, next)
text_span bytes at first next h = (omega (arith, h.2.ends), h.2.within)

same_span : (bytes : List ℕ) (span : ℕ × ℕ) (first next : ℕ) → Spanned span ≡ Spanned (first, next) → IsSpan bytes (first, next) → IsSpan bytes span
same_span bytes span first next e h = let same : span ≡ (first, next) = cc in subst (IsSpan bytes) (sym same) h

field_span : (switches : ℕ) (bytes : List ℕ) (at : ℕ) (span : ℕ × ℕ) (next : ℕ) → HasForm AText switches bytes at (Spanned span) next → IsSpan bytes span
field_span switches bytes at span next h = same_span bytes span h.0 next h.2 (text_span bytes at h.0 next h.1)

body_fields : (row : RecordRow) (tables : Bool) (bytes : List ℕ) (at info : ℕ) (fields : List Field) (next : ℕ)
    → HasBody NoInfo row tables bytes at info fields next → HasFields row.parts (switch_of tables) bytes at fields next
body_fields row tables bytes at info fields next h = h.1

record IsWritten (part : Part) (switches : ℕ) (bytes : List ℕ) (at : ℕ) (field : Field) : Type 0 where
  mid : ℕ
  stands : HasWhere (is_written part.guard switches) part.form switches bytes at field mid

first_field : (part : Part) (parts : List Part) (switches : ℕ) (bytes : List ℕ) (at : ℕ) (field : Field) (fields : List Field) (next : ℕ)
    → HasFields (part ∷ parts) switches bytes at (field ∷ fields) next → IsWritten part switches bytes at field
first_field part parts switches bytes at field fields next h = record { mid = h.0; stands = h.1 }

abbrev text_row : List Part → RecordRow
text_row parts = record { info = NoInfo; parts = when Always AText ∷ parts }

text_first : (parts : List Part) (tables : Bool) (bytes : List ℕ) (at info : ℕ) (span : ℕ × ℕ) (fields : List Field) (next : ℕ)
    → HasBody NoInfo (text_row parts) tables bytes at info (Spanned span ∷ fields) next → IsSpan bytes span
text_first parts tables bytes at info span fields next h =
    let first = first_field (when Always AText) parts (switch_of tables) bytes at (Spanned span) fields next
    (body_fields (text_row parts) tables bytes at info (Spanned span ∷ fields) next h) in
    field_span (switch_of tables) bytes at span first.mid first.stands

called_name : (is_number : Bool) (bytes : List ℕ) (at first last next : ℕ)
    → HasName is_number bytes at (IsCalled (Text first last)) next → IsSpan bytes (first, last)
called_name true bytes at first last next h = absurd (let e = h.2 in cc)
called_name false bytes at first last next h =
    let e : IsCalled (Text first last) ≡ IsCalled (Text h.0 next) = h.2 in
    let a : first ≡ h.0 = cc in
    let b : last ≡ next = cc in
    let span = text_span bytes at h.0 next h.1 in
    (omega (arith, a, b, span.0), omega (arith, b, span.1))

called_where : (written : Bool) (switches : ℕ) (bytes : List ℕ) (at : ℕ) (cell : Option Called) (next : ℕ)
    → HasWhere written (NameBy 6) switches bytes at (called_or cell) next → AreCalledWithin bytes cell
called_where written switches bytes at None next h = tt
called_where written switches bytes at (Some (Number n)) next h = tt
called_where true switches bytes at (Some (Text first last)) next h = called_name (is_set 6 switches) bytes at first last next h
called_where false switches bytes at (Some (Text first last)) next h = absurd (let e = h.0 in cc)

abbrev called_row : List Part → RecordRow
called_row parts = record { info = Below 256; parts = when (Bit 7) (NameBy 6) ∷ parts }

called_first : (parts : List Part) (bytes : List ℕ) (at info : ℕ) (cell : Option Called) (fields : List Field) (next : ℕ)
    → HasInfo (called_row parts) bytes at info (called_or cell ∷ fields) next → AreCalledWithin bytes cell
called_first parts bytes at info cell fields next h =
    let first = first_field (when (Bit 7) (NameBy 6)) parts info bytes (at + 1) (called_or cell) fields next h.fields_stand in
    called_where (is_written (Bit 7) info) info bytes (at + 1) cell first.mid first.stands

-- a record that stands keeps its strings within the bytes
pub body_within : (bytes : List ℕ) (at : ℕ) (tables : Bool) (r : OasRecord) (next : ℕ) → HasRecord bytes at tables r next
    → IsBodyWithin bytes (body_of r)
body_within bytes at tables (records.Start version real offset_flag offsets) next h =
    text_first (when Always OneReal ∷ when Always Switch ∷ when Zero Tables ∷ []) tables bytes (at + 1) 0 version
    (IsReal real ∷ IsNumber offset_flag ∷ span_or offsets ∷ []) next
    (row_of bytes at tables (records.Start version real offset_flag offsets) next h)
body_within bytes at tables (records.Name kinds.Cell text None) next h =
    text_first [] tables bytes (at + 1) 0 text [] next (row_of bytes at tables (records.Name kinds.Cell text None) next h)
body_within bytes at tables (records.Name kinds.Cell text (Some number)) next h =
    text_first (when Always ANumber ∷ []) tables bytes (at + 1) 0 text (IsNumber number ∷ []) next
    (row_of bytes at tables (records.Name kinds.Cell text (Some number)) next h)
body_within bytes at tables (records.Cell (Text first last)) next h =
    text_first [] tables bytes (at + 1) 0 (first, last) [] next (row_of bytes at tables (records.Cell (Text first last)) next h)
body_within bytes at tables (records.Placement info cell None x y repetition) next h = (
  called_first placed bytes (at + 1) info cell (place_of x y repetition) next
      (row_of bytes at tables (records.Placement info cell None x y repetition) next h),
  omega arith,
)
body_within bytes at tables (records.Placement info cell (Some turn) x y repetition) next h = (
  called_first (when (Bit 2) OneReal ∷ when (Bit 1) OneReal ∷ placed) bytes (at + 1) info cell
      (real_or turn.magnification ∷ real_or turn.angle ∷ place_of x y repetition) next
      (row_of bytes at tables (records.Placement info cell (Some turn) x y repetition) next h),
  tt,
)
body_within bytes at tables (records.Shape head (shapes.Circle radius)) next h = tt
body_within bytes at tables r next h = tt

-- ---- the placed cell

cell_written : (bytes : List ℕ) (r : OasRecord) → IsBodyWithin bytes (body_of r) → AreCalledWithin bytes (writes_of r).cell
cell_written bytes (records.Name kinds.Cell text number) h = tt
cell_written bytes (records.Placement info cell turn x y repetition) h = h.0
cell_written bytes (records.Shape head (shapes.Circle radius)) h = tt
cell_written bytes r h = tt

called_either : (bytes : List ℕ) (ends : Bool) (one other : Option Called) → AreCalledWithin bytes one → AreCalledWithin bytes other
    → AreCalledWithin bytes (if ends then None else or_else one other)
called_either bytes true one other p q = tt
called_either bytes false None other p q = q
called_either bytes false (Some called) other p q = p

pub cell_more : (bytes : List ℕ) (past : List OasRecord) (r : OasRecord) → IsBodyWithin bytes (body_of r) → AreCalledWithin bytes (cell_of past)
    → AreCalledWithin bytes (cell_of (r ∷ past))
unfolding cell_of
cell_more bytes past r within before = called_either bytes (begins_cell r) (writes_of r).cell (cell_of past) (cell_written bytes r within) before

-- ---- the name that it writes

pub own_name : (bytes : List ℕ) (r : OasRecord) → KeepsName bytes r → KeepsOwnName bytes r
own_name bytes (records.Name kinds.Cell text number) h = h
own_name bytes (records.Cell name) h = h
own_name bytes r h = tt

-- ---- START and END

pub tables_is : (tables : Bool) (r : OasRecord) → tables_by (body_of r) tables ≡ (if is_flagged r then true else tables)
tables_is tables (records.Name kinds.Cell text number) = refl
tables_is tables (records.Shape head (shapes.Circle radius)) = refl
tables_is tables records.Pad = refl
tables_is tables r = refl

pub unit_kept : (bytes : List ℕ) (unit at next : ℕ) (r : OasRecord) → KeepsFile bytes unit (body_of r) at next → HasUnit unit r
unit_kept bytes unit at next (records.Start version real offset_flag offsets) h = h
unit_kept bytes unit at next r h = tt

pub tail_kept : (bytes : List ℕ) (unit at next : ℕ) (r : OasRecord) → KeepsFile bytes unit (body_of r) at next → is_end r ≡ true → IsTail bytes at next
tail_kept bytes unit at next (records.End offsets padding scheme validation) h ends = h
tail_kept bytes unit at next r h ends = absurd (cc)

abbrev pub BreaksUnit : ℕ → ℕ → OasRecord → OasBad → Type 0
BreaksUnit unit at r bad = (HasUnit unit r → ⊥) × (bad ≡ faults.Unit at)

abbrev pub BreaksTail : List ℕ → ℕ → ℕ → ℕ → OasRecord → OasBad → Type 0
BreaksTail bytes unit at next r bad = HasUnit unit r × (is_end r ≡ true) × (IsTail bytes at next → ⊥) × (bad ≡ faults.Tail at)

pub file_broken : (bytes : List ℕ) (unit at next : ℕ) (bad : OasBad) (r : OasRecord) → BreaksFile bytes unit (body_of r) at next bad
    → BreaksUnit unit at r bad ⊎ BreaksTail bytes unit at next r bad
file_broken bytes unit at next bad (records.Start version real offset_flag offsets) h = inl h
file_broken bytes unit at next bad (records.End offsets padding scheme validation) h = inr (tt, refl, h.0, h.1)
file_broken bytes unit at next bad (records.Name kinds.Cell text number) h = absurd h
file_broken bytes unit at next bad (records.Shape head (shapes.Circle radius)) h = absurd h
file_broken bytes unit at next bad r h = absurd h
