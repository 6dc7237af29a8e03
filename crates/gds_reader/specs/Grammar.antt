-- The order of the records of a file (GDSII Stream Format Manual 6.0, Stream syntax), as a grammar of their kinds.
--
-- The free order of the library's optional records and of a text's records is this program's choice; all else is the
-- manual's.
use Rattle.std.specs.Prelude.{◌≡◌, List, [], ◌∷◌, ◌++◌, ◌⊎◌}
use Rattle.std.specs.List.{AllByRecursion}
use Rattle.gds_record.specs.declared.kinds.Kind.{Kind}
use Rattle.gds_record.specs.declared.kinds.Kind.TheVariants.{Header, BgnLib, LibName, Units, EndLib, BgnStr, StrName}
use Rattle.gds_record.specs.declared.kinds.Kind.TheVariants.{EndStr, Boundary, Path, Sref, Aref, Text, Layer, DataType}
use Rattle.gds_record.specs.declared.kinds.Kind.TheVariants.{Width, Xy, EndEl, Sname, ColRow, Node, TextType}
use Rattle.gds_record.specs.declared.kinds.Kind.TheVariants.{Presentation, String, Strans, Mag, Angle, RefLibs, Fonts}
use Rattle.gds_record.specs.declared.kinds.Kind.TheVariants.{PathType, Generations, AttrTable, ElFlags, NodeType}
use Rattle.gds_record.specs.declared.kinds.Kind.TheVariants.{PropAttr, PropValue, Box, BoxType, Plex, BgnExtn, EndExtn}
use Rattle.gds_record.specs.declared.kinds.Kind.TheVariants.{StrClass, Format, LibDirSize, SrfName, LibSecur}

-- ---- what a rule of a grammar is, and which lists of kinds follow it

pub data Rule : Type 0 where
  Never : Rule
  Nothing : Rule
  One : Kind → Rule
  Then : Rule → Rule → Rule
  Either : Rule → Rule → Rule
  Repeated : Rule → Rule

-- lists laid end to end
abbrev pub joined : List (List Kind) → List Kind
joined [] = []
joined (part ∷ parts) = part ++ joined parts

abbrev pub Follows : Rule → List Kind → Type 0
Follows Never kinds = ⊥
Follows Nothing kinds = kinds ≡ []
Follows (One kind) kinds = kinds ≡ kind ∷ []
Follows (Then first second) kinds =
    (front : List Kind) × (back : List Kind) × (kinds ≡ front ++ back) × Follows first front × Follows second back
Follows (Either first second) kinds = Follows first kinds ⊎ Follows second kinds
Follows (Repeated rule) kinds = (parts : List (List Kind)) × (kinds ≡ joined parts) × AllByRecursion (Follows rule) parts

-- ---- words for rules

-- all of these, one after another
abbrev pub in_order : List Rule → Rule
in_order [] = Nothing
in_order (rule ∷ rules) = Then rule (in_order rules)

-- one of these
abbrev pub either : List Rule → Rule
either [] = Never
either (rule ∷ rules) = Either rule (either rules)

-- it, or nothing
abbrev pub at_most_one : Rule → Rule
at_most_one rule = Either rule Nothing

-- a record of one of these kinds
abbrev pub one_of : List Kind → Rule
one_of [] = Never
one_of (kind ∷ kinds) = Either (One kind) (one_of kinds)

-- ---- the table

-- {PROPATTR PROPVALUE} ENDEL
abbrev pub element_end : List Rule
element_end = Repeated (in_order (One PropAttr ∷ One PropValue ∷ [])) ∷ One EndEl ∷ []

abbrev pub points_and_end : List Rule
points_and_end = One Xy ∷ element_end

-- [ELFLAGS] [PLEX], and the rest
abbrev pub with_flags : List Rule → List Rule
with_flags rules = at_most_one (One ElFlags) ∷ at_most_one (One Plex) ∷ rules

-- BOUNDARY [ELFLAGS] [PLEX] LAYER DATATYPE XY {PROPATTR PROPVALUE} ENDEL
abbrev pub boundary : Rule
boundary = in_order (One Boundary ∷ with_flags (One Layer ∷ One DataType ∷ points_and_end))

-- PATH [ELFLAGS] [PLEX] LAYER DATATYPE [PATHTYPE] [WIDTH] [BGNEXTN] [ENDEXTN] XY {PROPATTR PROPVALUE} ENDEL
abbrev pub path : Rule
path = in_order (
    One Path ∷
    with_flags (
    One Layer ∷ One DataType ∷ at_most_one (One PathType) ∷ at_most_one (One Width) ∷ at_most_one (One BgnExtn) ∷
    at_most_one (One EndExtn) ∷ points_and_end))

-- STRANS [MAG] [ANGLE]
abbrev pub transformation : Rule
transformation = in_order (One Strans ∷ at_most_one (One Mag) ∷ at_most_one (One Angle) ∷ [])

-- SREF [ELFLAGS] [PLEX] SNAME [STRANS [MAG] [ANGLE]] XY {PROPATTR PROPVALUE} ENDEL
abbrev pub structure_reference : Rule
structure_reference = in_order (One Sref ∷ with_flags (One Sname ∷ at_most_one transformation ∷ points_and_end))

-- AREF [ELFLAGS] [PLEX] SNAME [STRANS [MAG] [ANGLE]] COLROW XY {PROPATTR PROPVALUE} ENDEL
abbrev pub array_reference : Rule
array_reference = in_order (One Aref ∷ with_flags (One Sname ∷ at_most_one transformation ∷ One ColRow ∷ points_and_end))

-- NODE [ELFLAGS] [PLEX] LAYER NODETYPE XY {PROPATTR PROPVALUE} ENDEL
abbrev pub node : Rule
node = in_order (One Node ∷ with_flags (One Layer ∷ One NodeType ∷ points_and_end))

-- BOX [ELFLAGS] [PLEX] LAYER BOXTYPE XY {PROPATTR PROPVALUE} ENDEL
abbrev pub box : Rule
box = in_order (One Box ∷ with_flags (One Layer ∷ One BoxType ∷ points_and_end))

-- TEXT, its records in any order, {PROPATTR PROPVALUE} ENDEL
abbrev pub text : Rule
text = in_order (
    One Text ∷
    Repeated (one_of (
    ElFlags ∷ Plex ∷ Layer ∷ TextType ∷ Presentation ∷ PathType ∷ Width ∷ Strans ∷ Mag ∷ Angle ∷ Xy ∷ String ∷ [])) ∷
    element_end)

abbrev pub element : Rule
element = either (boundary ∷ path ∷ structure_reference ∷ array_reference ∷ text ∷ node ∷ box ∷ [])

-- BGNSTR STRNAME [STRCLASS] {element} ENDSTR
abbrev pub structure : Rule
structure = in_order (One BgnStr ∷ One StrName ∷ at_most_one (One StrClass) ∷ Repeated element ∷ One EndStr ∷ [])

-- HEADER BGNLIB {LIBDIRSIZE or SRFNAME or LIBSECUR} LIBNAME
-- {REFLIBS or FONTS or ATTRTABLE or GENERATIONS or FORMAT} UNITS {structure} ENDLIB
abbrev pub file : Rule
file = in_order (
    One Header ∷ One BgnLib ∷ Repeated (one_of (LibDirSize ∷ SrfName ∷ LibSecur ∷ [])) ∷ One LibName ∷
    Repeated (one_of (RefLibs ∷ Fonts ∷ AttrTable ∷ Generations ∷ Format ∷ [])) ∷ One Units ∷ Repeated structure ∷
    One EndLib ∷ [])

-- ---- files

-- these are the kinds of the records of a file in order
abbrev pub IsStreamOrder : List Kind → Type 0
IsStreamOrder kinds = Follows file kinds

-- some file begins with records of these kinds
abbrev pub IsBeginning : List Kind → Type 0
IsBeginning kinds = (rest : List Kind) × IsStreamOrder (kinds ++ rest)
