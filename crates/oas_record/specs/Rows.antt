-- The table of records (SEMI P39 1.0, sections 13 to 35): one row an id, with its info byte and its fields in order, each
-- with the bit of the info byte that says whether it is written. A field whose bit is clear is absent.
--
-- The bits of an info byte are numbered from the lowest, 0, to the highest, 7. What a later field needs of an earlier one
-- is kept beside the info byte in one number, the switches: at first the info byte, or for END whether it has the table
-- offsets. The offset flag of START and the scheme of END take its place; the extension byte of PATH stands above the info
-- byte, from bit 8 on; the count of PROPERTY takes the place of the four highest bits of the info byte, which are the
-- count where they aren't all set.
use Rattle.std.specs.Prelude.{ℕ, ◌+◌, ◌*◌, ◌/◌, ◌%◌, ◌^◌, ◌<◌, ◌≤◌, ◌≡◌, ◌⊎◌, ℤ, Bool, true, false, not, ◌&&◌, nat_eq}
use Rattle.std.specs.Prelude.{nat_lt, List, [], ◌∷◌, ◌++◌, length, slice_index}
use Rattle.oas_lex.specs.Numbers.{HasUnsigned, HasSigned}
use Rattle.oas_lex.specs.Reals.{HasReal}
use Rattle.oas_lex.specs.Strings.{HasBytes, HasText}
use Rattle.oas_lex.specs.declared.reals.Real.{Real}
use Rattle.oas_record.specs.Faults.{NoNumber, NoBytes, NoText, NoReal}
use Rattle.oas_record.specs.Lists.{HasPoints, NoPoints, NoNumbers}
use Rattle.oas_record.specs.Repetitions.{HasRep, NoRep}
use Rattle.oas_record.specs.Values.{HasInterval, NoInterval, HasTables, EndsValues, NoValues}
use Rattle.oas_record.specs.declared.faults.RecordBad.{RecordBad}
use Rattle.oas_record.specs.declared.faults.RecordBad.TheVariants as faults
use Rattle.oas_record.specs.declared.fields.Called.{Called}
use Rattle.oas_record.specs.declared.fields.Called.TheVariants as called
use Rattle.oas_record.specs.declared.fields.Deltas.{Deltas}
use Rattle.oas_record.specs.declared.fields.Interval.{Interval}
use Rattle.oas_record.specs.declared.repetition.Rep.{Rep}

-- ---- forms of fields

pub data Form : Type 0 where
  -- an unsigned number
  Number : Form
  -- a signed number
  Signed : Form
  -- a string
  Text : Form
  -- a real
  OneReal : Form
  -- a number where this bit is set, else a string
  NameBy : ℕ → Form
  Range : Form
  -- the point list of a polygon
  PolygonPoints : Form
  -- the point list of a path
  PathPoints : Form
  Repetition : Form
  -- a CTRAPEZOID type, a number of at most 25
  TrapezoidType : Form
  -- an extension byte, 0000SSEE
  Extension : Form
  -- a number that takes the place of the switches
  Switch : Form
  -- a number that takes the place of the four highest bits
  Count : Form
  -- twelve unsigned numbers
  Tables : Form
  -- four bytes
  FourBytes : Form
  -- as many property values as the bits from 4 on say
  Values : Form

-- a field as it is written, or absent
pub data Field : Type 0 where
  Absent : Field
  IsNumber : ℕ → Field
  IsSigned : ℤ → Field
  -- where its bytes start and end
  IsSpan : ℕ × ℕ → Field
  IsReal : Real → Field
  IsCalled : Called → Field
  IsInterval : Interval → Field
  IsPoints : Deltas → Field
  IsRep : Rep → Field

abbrev pub is_set : ℕ → ℕ → Bool
is_set bit switches = nat_eq (switches / 2 ^ bit % 2) 1

-- the number stands there where the bit is set, else the string
abbrev pub HasName : Bool → List ℕ → ℕ → Field → ℕ → Type 0
HasName true bytes at field next = (n : ℕ) × HasUnsigned bytes at n next × (field ≡ IsCalled (called.Number n))
HasName false bytes at field next = (first : ℕ) × HasText bytes at first next × (field ≡ IsCalled (called.Text first next))

abbrev pub NoName : Bool → List ℕ → ℕ → RecordBad → Type 0
NoName true bytes at bad = NoNumber bytes at bad
NoName false bytes at bad = NoText bytes at bad

-- the byte of an extension
pub record HasExtension (bytes : List ℕ) (at n next : ℕ) : Type 0 where
  pub within : at < length bytes
  pub byte : n ≡ slice_index bytes at
  pub allowed : n < 16
  pub ends : next ≡ at + 1

pub record ExtensionFails (bytes : List ℕ) (at : ℕ) (bad : RecordBad) : Type 0 where
  pub within : at < length bytes
  pub refused : 16 ≤ slice_index bytes at
  pub shape : bad ≡ faults.Shape

-- the field of this form stands from `at` up to before `next`
abbrev pub HasForm : Form → ℕ → List ℕ → ℕ → Field → ℕ → Type 0
HasForm Number switches bytes at field next = (n : ℕ) × HasUnsigned bytes at n next × (field ≡ IsNumber n)
HasForm Signed switches bytes at field next = (z : ℤ) × HasSigned bytes at z next × (field ≡ IsSigned z)
HasForm Text switches bytes at field next = (first : ℕ) × HasText bytes at first next × (field ≡ IsSpan (first, next))
HasForm OneReal switches bytes at field next = (r : Real) × HasReal bytes at r next × (field ≡ IsReal r)
HasForm (NameBy bit) switches bytes at field next = HasName (is_set bit switches) bytes at field next
HasForm Range switches bytes at field next = (i : Interval) × HasInterval bytes at i next × (field ≡ IsInterval i)
HasForm PolygonPoints switches bytes at field next = (d : Deltas) × HasPoints true bytes at d next × (field ≡ IsPoints d)
HasForm PathPoints switches bytes at field next = (d : Deltas) × HasPoints false bytes at d next × (field ≡ IsPoints d)
HasForm Repetition switches bytes at field next = (r : Rep) × HasRep bytes at r next × (field ≡ IsRep r)
HasForm TrapezoidType switches bytes at field next = (n : ℕ) × HasUnsigned bytes at n next × (n < 26) × (field ≡ IsNumber n)
HasForm Extension switches bytes at field next = (n : ℕ) × HasExtension bytes at n next × (field ≡ IsNumber n)
HasForm Switch switches bytes at field next = (n : ℕ) × HasUnsigned bytes at n next × (field ≡ IsNumber n)
HasForm Count switches bytes at field next = (n : ℕ) × HasUnsigned bytes at n next × (field ≡ IsNumber n)
HasForm Tables switches bytes at field next = HasTables bytes at next × (field ≡ IsSpan (at, next))
HasForm FourBytes switches bytes at field next = HasBytes bytes at 4 next × (field ≡ IsSpan (at, next))
HasForm Values switches bytes at field next = EndsValues (switches / 16) bytes at next × (field ≡ IsSpan (at, next))

-- no field of this form stands at `at`, for this cause
abbrev pub NoForm : Form → ℕ → List ℕ → ℕ → RecordBad → Type 0
NoForm Number switches bytes at bad = NoNumber bytes at bad
NoForm Signed switches bytes at bad = NoNumber bytes at bad
NoForm Text switches bytes at bad = NoText bytes at bad
NoForm OneReal switches bytes at bad = NoReal bytes at bad
NoForm (NameBy bit) switches bytes at bad = NoName (is_set bit switches) bytes at bad
NoForm Range switches bytes at bad = NoInterval bytes at bad
NoForm PolygonPoints switches bytes at bad = NoPoints true bytes at bad
NoForm PathPoints switches bytes at bad = NoPoints false bytes at bad
NoForm Repetition switches bytes at bad = NoRep bytes at bad
NoForm TrapezoidType switches bytes at bad =
    NoNumber bytes at bad ⊎ ((n : ℕ) × (next : ℕ) × HasUnsigned bytes at n next × ((26 ≤ n) × (bad ≡ faults.Shape)))
NoForm Extension switches bytes at bad = NoBytes bytes at 1 bad ⊎ ExtensionFails bytes at bad
NoForm Switch switches bytes at bad = NoNumber bytes at bad
NoForm Count switches bytes at bad = NoNumber bytes at bad
NoForm Tables switches bytes at bad = NoNumbers 12 bytes at bad
NoForm FourBytes switches bytes at bad = NoBytes bytes at 4 bad
NoForm Values switches bytes at bad = NoValues (switches / 16) bytes at bad

-- the switches with an extension byte above the info byte
abbrev pub with_extension : Field → ℕ → ℕ
with_extension (IsNumber n) switches = switches + 256 * n
with_extension Absent switches = switches
with_extension (IsSigned z) switches = switches
with_extension (IsSpan span) switches = switches
with_extension (IsReal r) switches = switches
with_extension (IsCalled c) switches = switches
with_extension (IsInterval i) switches = switches
with_extension (IsPoints d) switches = switches
with_extension (IsRep r) switches = switches

-- the switches with a count in the place of the bits from 4 on
abbrev pub with_count : Field → ℕ → ℕ
with_count (IsNumber n) switches = 16 * n + switches % 16
with_count Absent switches = switches
with_count (IsSigned z) switches = switches
with_count (IsSpan span) switches = switches
with_count (IsReal r) switches = switches
with_count (IsCalled c) switches = switches
with_count (IsInterval i) switches = switches
with_count (IsPoints d) switches = switches
with_count (IsRep r) switches = switches

-- the number in the place of the switches
abbrev pub with_switch : Field → ℕ → ℕ
with_switch (IsNumber n) switches = n
with_switch Absent switches = switches
with_switch (IsSigned z) switches = switches
with_switch (IsSpan span) switches = switches
with_switch (IsReal r) switches = switches
with_switch (IsCalled c) switches = switches
with_switch (IsInterval i) switches = switches
with_switch (IsPoints d) switches = switches
with_switch (IsRep r) switches = switches

-- the switches after a field; an absent one leaves them
abbrev pub switches_after : Form → Field → ℕ → ℕ
switches_after Number field switches = switches
switches_after Signed field switches = switches
switches_after Text field switches = switches
switches_after OneReal field switches = switches
switches_after (NameBy bit) field switches = switches
switches_after Range field switches = switches
switches_after PolygonPoints field switches = switches
switches_after PathPoints field switches = switches
switches_after Repetition field switches = switches
switches_after TrapezoidType field switches = switches
switches_after Extension field switches = with_extension field switches
switches_after Switch field switches = with_switch field switches
switches_after Count field switches = with_count field switches
switches_after Tables field switches = switches
switches_after FourBytes field switches = switches
switches_after Values field switches = switches

-- ---- when a field is written

pub data Guard : Type 0 where
  Always : Guard
  -- the bit is set
  Bit : ℕ → Guard
  -- the bit is clear
  Clear : ℕ → Guard
  -- the bit and the next one are set
  Both : ℕ → Guard
  -- the switches are 0
  Zero : Guard
  -- the switches aren't 0
  NotZero : Guard
  -- the bits from 4 on are 15
  Fifteen : Guard

abbrev pub is_written : Guard → ℕ → Bool
is_written Always switches = true
is_written (Bit bit) switches = is_set bit switches
is_written (Clear bit) switches = not (is_set bit switches)
is_written (Both bit) switches = nat_eq (switches / 2 ^ bit % 4) 3
is_written Zero switches = nat_eq switches 0
is_written NotZero switches = not (nat_eq switches 0)
is_written Fifteen switches = nat_eq (switches / 16) 15

-- ---- the table

-- what an info byte may be
pub data Info : Type 0 where
  -- there is none
  NoInfo : Info
  -- any byte below this
  Below : ℕ → Info
  -- any byte in which bits 7 and 5 aren't both set: a square has no height
  Square : Info

abbrev pub allows : Info → ℕ → Bool
allows NoInfo info = false
allows (Below n) info = nat_lt info n
allows Square info = not (is_set 7 info && is_set 5 info)

pub record Part : Type 0 where
  pub guard : Guard
  pub form : Form

abbrev pub when : Guard → Form → Part
when guard form = record { guard = guard; form = form }

pub record RecordRow : Type 0 where
  pub info : Info
  pub parts : List Part

abbrev row : Info → List Part → RecordRow
row info parts = record { info = info; parts = parts }

-- the fields with which the records of shapes begin and end
abbrev pub pair : List Part
pair = when (Bit 0) Number ∷ when (Bit 1) Number ∷ []

abbrev pub box : List Part
box = when (Bit 6) Number ∷ when (Bit 5) Number ∷ []

abbrev pub place : List Part
place = when (Bit 4) Signed ∷ when (Bit 3) Signed ∷ when (Bit 2) Repetition ∷ []

abbrev pub placed : List Part
placed = when (Bit 5) Signed ∷ when (Bit 4) Signed ∷ when (Bit 3) Repetition ∷ []

-- one row an id, from id 0 on
abbrev pub rows : List RecordRow
rows =
    -- 0 PAD
    row NoInfo []
    -- 1 START: version string, unit real, offset flag, [table offsets where the flag is 0]
    ∷ row NoInfo (when Always Text ∷ when Always OneReal ∷ when Always Switch ∷ when Zero Tables ∷ [])
    -- 2 END: [table offsets where the flag is 1], padding string, scheme, [4 bytes where the scheme isn't 0]
    ∷ row NoInfo (when (Bit 0) Tables ∷ when Always Text ∷ when Always Switch ∷ when NotZero FourBytes ∷ [])
    -- 3, 4 CELLNAME: string; for 4 also a number
    ∷ row NoInfo (when Always Text ∷ [])
    ∷ row NoInfo (when Always Text ∷ when Always Number ∷ [])
    -- 5, 6 TEXTSTRING
    ∷ row NoInfo (when Always Text ∷ [])
    ∷ row NoInfo (when Always Text ∷ when Always Number ∷ [])
    -- 7, 8 PROPNAME
    ∷ row NoInfo (when Always Text ∷ [])
    ∷ row NoInfo (when Always Text ∷ when Always Number ∷ [])
    -- 9, 10 PROPSTRING
    ∷ row NoInfo (when Always Text ∷ [])
    ∷ row NoInfo (when Always Text ∷ when Always Number ∷ [])
    -- 11, 12 LAYERNAME: string, interval of layers, interval of datatypes
    ∷ row NoInfo (when Always Text ∷ when Always Range ∷ when Always Range ∷ [])
    ∷ row NoInfo (when Always Text ∷ when Always Range ∷ when Always Range ∷ [])
    -- 13, 14 CELL: number; string
    ∷ row NoInfo (when Always Number ∷ [])
    ∷ row NoInfo (when Always Text ∷ [])
    -- 15, 16 XYABSOLUTE, XYRELATIVE
    ∷ row NoInfo []
    ∷ row NoInfo []
    -- 17 PLACEMENT, CNXYRAAF: [cell], [x], [y], [repetition]
    ∷ row (Below 256) (when (Bit 7) (NameBy 6) ∷ placed)
    -- 18 PLACEMENT, CNXYRMAF: [cell], [magnification], [angle], [x], [y], [repetition]
    ∷ row (Below 256) (when (Bit 7) (NameBy 6) ∷ when (Bit 2) OneReal ∷ when (Bit 1) OneReal ∷ placed)
    -- 19 TEXT, 0CNXYRTL: [number or string], [textlayer], [texttype], [x], [y], [repetition]
    ∷ row (Below 128) (when (Bit 6) (NameBy 5) ∷ (pair ++ place))
    -- 20 RECTANGLE, SWHXYRDL: [layer], [datatype], [width], [height], [x], [y], [repetition]
    ∷ row Square (pair ++ (box ++ place))
    -- 21 POLYGON, 00PXYRDL: [layer], [datatype], [point list], [x], [y], [repetition]
    ∷ row (Below 64) (pair ++ (when (Bit 5) PolygonPoints ∷ place))
    -- 22 PATH, EWPXYRDL: [layer], [datatype], [half-width], [extension byte, [start], [end]], [point list], [x], [y],
    -- [repetition]
    ∷ row (Below 256) (pair ++ (when (Bit 6) Number ∷ when (Bit 7) Extension ∷ when (Both 10) Signed ∷ when (Both 8) Signed ∷ when (Bit 5) PathPoints ∷ place))
    -- 23, 24, 25 TRAPEZOID, OWHXYRDL: [layer], [datatype], [width], [height], delta a (not 25), delta b (not 24), [x], [y],
    -- [repetition]
    ∷ row (Below 256) (pair ++ (box ++ (when Always Signed ∷ when Always Signed ∷ place)))
    ∷ row (Below 256) (pair ++ (box ++ (when Always Signed ∷ place)))
    ∷ row (Below 256) (pair ++ (box ++ (when Always Signed ∷ place)))
    -- 26 CTRAPEZOID, TWHXYRDL: [layer], [datatype], [type], [width], [height], [x], [y], [repetition]
    ∷ row (Below 256) (pair ++ (when (Bit 7) TrapezoidType ∷ (box ++ place)))
    -- 27 CIRCLE, 00rXYRDL: [layer], [datatype], [radius], [x], [y], [repetition]
    ∷ row (Below 64) (pair ++ (when (Bit 5) Number ∷ place))
    -- 28 PROPERTY, UUUUVCNS: [name number or string], [count where U is 15], [values where V is 0]
    ∷ row (Below 256) (when (Bit 2) (NameBy 1) ∷ when Fifteen Count ∷ when (Clear 3) Values ∷ [])
    -- 29 PROPERTY
    ∷ row NoInfo []
    -- 30, 31 XNAME: attribute, string; for 31 also a number
    ∷ row NoInfo (when Always Number ∷ when Always Text ∷ [])
    ∷ row NoInfo (when Always Number ∷ when Always Text ∷ when Always Number ∷ [])
    -- 32 XELEMENT: attribute, string
    ∷ row NoInfo (when Always Number ∷ when Always Text ∷ [])
    -- 33 XGEOMETRY, 000XYRDL: attribute, [layer], [datatype], string, [x], [y], [repetition]
    ∷ row (Below 32) (when Always Number ∷ (pair ++ (when Always Text ∷ place)))
    ∷ []

-- ---- where the fields of a row stand

-- a field stands where it is written, else it is absent and takes no byte
abbrev pub HasWhere : Bool → Form → ℕ → List ℕ → ℕ → Field → ℕ → Type 0
HasWhere true form switches bytes at field next = HasForm form switches bytes at field next
HasWhere false form switches bytes at field next = (field ≡ Absent) × (next ≡ at)

abbrev pub NoWhere : Bool → Form → ℕ → List ℕ → ℕ → RecordBad → Type 0
NoWhere true form switches bytes at bad = NoForm form switches bytes at bad
NoWhere false form switches bytes at bad = ⊥

-- the fields stand one after the other from `at` up to before `next`
abbrev pub HasFields : List Part → ℕ → List ℕ → ℕ → List Field → ℕ → Type 0
HasFields [] switches bytes at [] next = at ≡ next
HasFields [] switches bytes at (field ∷ fields) next = ⊥
HasFields (part ∷ parts) switches bytes at [] next = ⊥
HasFields (part ∷ parts) switches bytes at (field ∷ fields) next =
    (mid : ℕ) × HasWhere (is_written part.guard switches) part.form switches bytes at field mid
    × HasFields parts (switches_after part.form field switches) bytes mid fields next

-- the first field that fails, fails for this cause
abbrev pub NoFields : List Part → ℕ → List ℕ → ℕ → RecordBad → Type 0
NoFields [] switches bytes at bad = ⊥
NoFields (part ∷ parts) switches bytes at bad =
    NoWhere (is_written part.guard switches) part.form switches bytes at bad
    ⊎ ((field : Field) × (mid : ℕ) × HasWhere (is_written part.guard switches) part.form switches bytes at field mid
    × NoFields parts (switches_after part.form field switches) bytes mid bad)
