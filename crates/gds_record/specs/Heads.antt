-- The heads of records and how long their contents may be, one row for each kind: GDSII Stream Format Manual 6.0,
-- record description. A head is the record type in its high byte and the data type in its low one (0 no data, 1 bit
-- array, 2 two-byte and 3 four-byte signed integers, 5 eight-byte reals, 6 text, padded to an even length).
use Rattle.std.specs.Prelude.{◌≡◌, ◌≤◌, ◌%◌, ◌==◌, ℕ, List, [], ◌∷◌, Option, find}
use Rattle.gds_record.specs.declared.kinds.Kind.{Kind}
use Rattle.gds_record.specs.declared.kinds.Kind.TheVariants.{Header, BgnLib, LibName, Units, EndLib, BgnStr, StrName}
use Rattle.gds_record.specs.declared.kinds.Kind.TheVariants.{EndStr, Boundary, Path, Sref, Aref, Text, Layer, DataType}
use Rattle.gds_record.specs.declared.kinds.Kind.TheVariants.{Width, Xy, EndEl, Sname, ColRow, Node, TextType}
use Rattle.gds_record.specs.declared.kinds.Kind.TheVariants.{Presentation, String, Strans, Mag, Angle, RefLibs, Fonts}
use Rattle.gds_record.specs.declared.kinds.Kind.TheVariants.{PathType, Generations, AttrTable, ElFlags, NodeType}
use Rattle.gds_record.specs.declared.kinds.Kind.TheVariants.{PropAttr, PropValue, Box, BoxType, Plex, BgnExtn, EndExtn}
use Rattle.gds_record.specs.declared.kinds.Kind.TheVariants.{StrClass, Format, LibDirSize, SrfName, LibSecur}
use Rattle.gds_record.specs.declared.kinds.ContentLength.{ContentLength}
use Rattle.gds_record.specs.declared.kinds.ContentLength.TheVariants.{Exactly, AnyEven, Points}

pub record HeadRow : Type 0 where
  pub head : ℕ
  pub content : ContentLength

abbrev pub row : ℕ → ContentLength → HeadRow
row head content = record { head = head; content = content }

-- the table
abbrev pub row_of : Kind → HeadRow
row_of Header = row 0x0002 (Exactly 2)
row_of BgnLib = row 0x0102 (Exactly 24)
row_of LibName = row 0x0206 AnyEven
row_of Units = row 0x0305 (Exactly 16)
row_of EndLib = row 0x0400 (Exactly 0)
row_of BgnStr = row 0x0502 (Exactly 24)
row_of StrName = row 0x0606 AnyEven
row_of EndStr = row 0x0700 (Exactly 0)
row_of Boundary = row 0x0800 (Exactly 0)
row_of Path = row 0x0900 (Exactly 0)
row_of Sref = row 0x0A00 (Exactly 0)
row_of Aref = row 0x0B00 (Exactly 0)
row_of Text = row 0x0C00 (Exactly 0)
row_of Layer = row 0x0D02 (Exactly 2)
row_of DataType = row 0x0E02 (Exactly 2)
row_of Width = row 0x0F03 (Exactly 4)
row_of Xy = row 0x1003 Points
row_of EndEl = row 0x1100 (Exactly 0)
row_of Sname = row 0x1206 AnyEven
row_of ColRow = row 0x1302 (Exactly 4)
row_of Node = row 0x1500 (Exactly 0)
row_of TextType = row 0x1602 (Exactly 2)
row_of Presentation = row 0x1701 (Exactly 2)
row_of String = row 0x1906 AnyEven
row_of Strans = row 0x1A01 (Exactly 2)
row_of Mag = row 0x1B05 (Exactly 8)
row_of Angle = row 0x1C05 (Exactly 8)
row_of RefLibs = row 0x1F06 AnyEven
row_of Fonts = row 0x2006 AnyEven
row_of PathType = row 0x2102 (Exactly 2)
row_of Generations = row 0x2202 (Exactly 2)
row_of AttrTable = row 0x2306 AnyEven
row_of ElFlags = row 0x2601 (Exactly 2)
row_of NodeType = row 0x2A02 (Exactly 2)
row_of PropAttr = row 0x2B02 (Exactly 2)
row_of PropValue = row 0x2C06 AnyEven
row_of Box = row 0x2D00 (Exactly 0)
row_of BoxType = row 0x2E02 (Exactly 2)
row_of Plex = row 0x2F03 (Exactly 4)
row_of BgnExtn = row 0x3003 (Exactly 4)
row_of EndExtn = row 0x3103 (Exactly 4)
row_of StrClass = row 0x3401 (Exactly 2)
row_of Format = row 0x3602 (Exactly 2)
row_of LibDirSize = row 0x3902 (Exactly 2)
row_of SrfName = row 0x3A06 AnyEven
row_of LibSecur = row 0x3B02 AnyEven

abbrev pub head_of : Kind → ℕ
head_of kind = (row_of kind).head

abbrev pub content_of : Kind → ContentLength
content_of kind = (row_of kind).content

-- a content may have this many bytes
abbrev pub IsLengthAllowed : ContentLength → ℕ → Type 0
IsLengthAllowed (Exactly wanted) bytes = bytes ≡ wanted
IsLengthAllowed AnyEven bytes = bytes % 2 ≡ 0
IsLengthAllowed Points bytes = (8 ≤ bytes) × (bytes % 8 ≡ 0)

-- each kind, once
abbrev pub kinds : List Kind
kinds =
    Header ∷ BgnLib ∷ LibName ∷ Units ∷ EndLib ∷ BgnStr ∷ StrName ∷ EndStr ∷
    Boundary ∷ Path ∷ Sref ∷ Aref ∷ Text ∷ Layer ∷ DataType ∷ Width ∷
    Xy ∷ EndEl ∷ Sname ∷ ColRow ∷ Node ∷ TextType ∷ Presentation ∷ String ∷
    Strans ∷ Mag ∷ Angle ∷ RefLibs ∷ Fonts ∷ PathType ∷ Generations ∷ AttrTable ∷
    ElFlags ∷ NodeType ∷ PropAttr ∷ PropValue ∷ Box ∷ BoxType ∷ Plex ∷ BgnExtn ∷
    EndExtn ∷ StrClass ∷ Format ∷ LibDirSize ∷ SrfName ∷ LibSecur ∷ []

-- the kind whose records have this head, if there is one
unfoldable pub kind_with_head : ℕ → Option Kind
kind_with_head head = find (λ kind. head_of kind == head) kinds

-- each kind of an element's records, from its first to ENDEL, once
abbrev pub element_kinds : List Kind
element_kinds =
    Boundary ∷ Path ∷ Sref ∷ Aref ∷ Text ∷ Layer ∷ DataType ∷ Width ∷
    Xy ∷ EndEl ∷ Sname ∷ ColRow ∷ Node ∷ TextType ∷ Presentation ∷ String ∷
    Strans ∷ Mag ∷ Angle ∷ PathType ∷ ElFlags ∷ NodeType ∷ PropAttr ∷ PropValue ∷
    Box ∷ BoxType ∷ Plex ∷ BgnExtn ∷ EndExtn ∷ []

-- the kind of an element's records that have this head, if there is one
unfoldable pub element_kind_with_head : ℕ → Option Kind
element_kind_with_head head = find (λ kind. head_of kind == head) element_kinds
