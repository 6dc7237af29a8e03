-- What may follow at a place between two records, as the program keeps it.
use Rattle.std.specs.Prelude.{Option, Some, None}
use Rattle.gds_record.specs.declared.kinds.Kind.{Kind}
use Rattle.gds_record.specs.declared.kinds.Kind.TheVariants.{Header, BgnLib, LibName, Units, EndLib, BgnStr, StrName}
use Rattle.gds_record.specs.declared.kinds.Kind.TheVariants.{EndStr, Boundary, Path, Sref, Aref, Text, Layer, DataType}
use Rattle.gds_record.specs.declared.kinds.Kind.TheVariants.{Width, Xy, EndEl, Sname, ColRow, Node, TextType}
use Rattle.gds_record.specs.declared.kinds.Kind.TheVariants.{Presentation, String, Strans, Mag, Angle, RefLibs, Fonts}
use Rattle.gds_record.specs.declared.kinds.Kind.TheVariants.{PathType, Generations, AttrTable, ElFlags, NodeType}
use Rattle.gds_record.specs.declared.kinds.Kind.TheVariants.{PropAttr, PropValue, Box, BoxType, Plex, BgnExtn, EndExtn}
use Rattle.gds_record.specs.declared.kinds.Kind.TheVariants.{StrClass, Format, LibDirSize, SrfName, LibSecur}
use Rattle.gds_reader.specs.declared.order.Form.{Form}
use Rattle.gds_reader.specs.declared.order.Form.TheVariants as forms
use Rattle.gds_reader.specs.declared.order.Place.{Place}
use Rattle.gds_reader.specs.declared.order.Place.TheVariants as places

-- ---- outside of elements

abbrev pub next_library_place : Place → Kind → Option Place
next_library_place places.Header Header = Some places.BgnLib
next_library_place places.BgnLib BgnLib = Some places.LibName
next_library_place places.LibName LibDirSize = Some places.LibName
next_library_place places.LibName SrfName = Some places.LibName
next_library_place places.LibName LibSecur = Some places.LibName
next_library_place places.LibName LibName = Some places.Units
next_library_place places.Units RefLibs = Some places.Units
next_library_place places.Units Fonts = Some places.Units
next_library_place places.Units AttrTable = Some places.Units
next_library_place places.Units Generations = Some places.Units
next_library_place places.Units Format = Some places.Units
next_library_place places.Units Units = Some places.Structures
next_library_place places.Structures BgnStr = Some places.StrName
next_library_place places.Structures EndLib = Some places.End
next_library_place places.StrName StrName = Some places.StrClass
next_library_place _ _ = None

-- an element begins, or the structure ends
abbrev pub begun_place : Kind → Option Place
begun_place Boundary = Some (places.Begun forms.Boundary)
begun_place Path = Some (places.Begun forms.Path)
begun_place Sref = Some (places.Begun forms.Sref)
begun_place Aref = Some (places.Begun forms.Aref)
begun_place Node = Some (places.Begun forms.Node)
begun_place Box = Some (places.Begun forms.Box)
begun_place Text = Some places.Text
begun_place EndStr = Some places.Structures
begun_place _ = None

abbrev pub classed_place : Kind → Option Place
classed_place StrClass = Some places.Elements
classed_place kind = begun_place kind

-- ---- in an element

-- after ELFLAGS and PLEX
abbrev pub body_place : Form → Kind → Option Place
body_place forms.Boundary Layer = Some (places.Layered forms.Boundary)
body_place forms.Path Layer = Some (places.Layered forms.Path)
body_place forms.Node Layer = Some (places.Layered forms.Node)
body_place forms.Box Layer = Some (places.Layered forms.Box)
body_place forms.Sref Sname = Some (places.Named forms.Sref)
body_place forms.Aref Sname = Some (places.Named forms.Aref)
body_place _ _ = None

abbrev pub plex_place : Form → Kind → Option Place
plex_place form Plex = Some (places.Plexed form)
plex_place form kind = body_place form kind

abbrev pub flags_place : Form → Kind → Option Place
flags_place form ElFlags = Some (places.Flagged form)
flags_place form kind = plex_place form kind

abbrev pub typed_place : Form → Kind → Option Place
typed_place forms.Boundary DataType = Some places.Xy
typed_place forms.Path DataType = Some places.PathType
typed_place forms.Node NodeType = Some places.Xy
typed_place forms.Box BoxType = Some places.Xy
typed_place _ _ = None

-- after the transformation of a reference
abbrev pub placed_place : Form → Kind → Option Place
placed_place forms.Sref Xy = Some places.Properties
placed_place forms.Aref ColRow = Some places.Xy
placed_place _ _ = None

abbrev pub angle_place : Form → Kind → Option Place
angle_place form Angle = Some (places.Angled form)
angle_place form kind = placed_place form kind

abbrev pub magnified_place : Form → Kind → Option Place
magnified_place form Mag = Some (places.Magnified form)
magnified_place form kind = angle_place form kind

abbrev pub transformed_place : Form → Kind → Option Place
transformed_place form Strans = Some (places.Transformed form)
transformed_place form kind = placed_place form kind

abbrev pub xy_place : Kind → Option Place
xy_place Xy = Some places.Properties
xy_place _ = None

abbrev pub end_extension_place : Kind → Option Place
end_extension_place EndExtn = Some places.Xy
end_extension_place kind = xy_place kind

abbrev pub begin_extension_place : Kind → Option Place
begin_extension_place BgnExtn = Some places.EndExtn
begin_extension_place kind = end_extension_place kind

abbrev pub width_place : Kind → Option Place
width_place Width = Some places.BgnExtn
width_place kind = begin_extension_place kind

abbrev pub path_type_place : Kind → Option Place
path_type_place PathType = Some places.Width
path_type_place kind = width_place kind

abbrev pub property_place : Kind → Option Place
property_place PropAttr = Some places.PropValue
property_place EndEl = Some places.Elements
property_place _ = None

abbrev pub property_value_place : Kind → Option Place
property_value_place PropValue = Some places.Properties
property_value_place _ = None

abbrev pub text_place : Kind → Option Place
text_place ElFlags = Some places.Text
text_place Plex = Some places.Text
text_place Layer = Some places.Text
text_place TextType = Some places.Text
text_place Presentation = Some places.Text
text_place PathType = Some places.Text
text_place Width = Some places.Text
text_place Strans = Some places.Text
text_place Mag = Some places.Text
text_place Angle = Some places.Text
text_place Xy = Some places.Text
text_place String = Some places.Text
text_place kind = property_place kind

-- ---- anywhere

abbrev pub next_place : Place → Kind → Option Place
next_place places.StrClass kind = classed_place kind
next_place places.Elements kind = begun_place kind
next_place (places.Begun form) kind = flags_place form kind
next_place (places.Flagged form) kind = plex_place form kind
next_place (places.Plexed form) kind = body_place form kind
next_place (places.Layered form) kind = typed_place form kind
next_place (places.Named form) kind = transformed_place form kind
next_place (places.Transformed form) kind = magnified_place form kind
next_place (places.Magnified form) kind = angle_place form kind
next_place (places.Angled form) kind = placed_place form kind
next_place places.PathType kind = path_type_place kind
next_place places.Width kind = width_place kind
next_place places.BgnExtn kind = begin_extension_place kind
next_place places.EndExtn kind = end_extension_place kind
next_place places.Text kind = text_place kind
next_place places.Xy kind = xy_place kind
next_place places.Properties kind = property_place kind
next_place places.PropValue kind = property_value_place kind
next_place place kind = next_library_place place kind
