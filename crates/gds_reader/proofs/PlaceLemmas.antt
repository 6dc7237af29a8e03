-- What may follow at each place, as a rule of the grammar, and that the places decide the order.
use Rattle.std.proofs.Common.{◌≡◌, Bool, true, false, cond, List, [], ◌∷◌, ◌++◌, Option, Some, None, refl, sym, ap, subst, ◌∙◌, append_assoc}
use Rattle.std.proofs.lemmas.List.{append-nil}
use Rattle.gds_record.specs.declared.kinds.Kind.{Kind}
use Rattle.gds_record.specs.declared.kinds.Kind.TheVariants.{Header, BgnLib, LibName, Units, EndLib, StrName, EndStr}
use Rattle.gds_record.specs.declared.kinds.Kind.TheVariants.{Layer, DataType, Width, Xy, Sname, ColRow, TextType}
use Rattle.gds_record.specs.declared.kinds.Kind.TheVariants.{Presentation, String, Strans, Mag, Angle, RefLibs, Fonts}
use Rattle.gds_record.specs.declared.kinds.Kind.TheVariants.{PathType, Generations, AttrTable, ElFlags, NodeType}
use Rattle.gds_record.specs.declared.kinds.Kind.TheVariants.{PropValue, BoxType, Plex, BgnExtn, EndExtn, StrClass}
use Rattle.gds_record.specs.declared.kinds.Kind.TheVariants.{Format, LibDirSize, SrfName, LibSecur}
use Rattle.gds_reader.specs.declared.order.Form.{Form}
use Rattle.gds_reader.specs.declared.order.Form.TheVariants as forms
use Rattle.gds_reader.specs.declared.order.Place.{Place}
use Rattle.gds_reader.specs.declared.order.Place.TheVariants as places
use Rattle.gds_reader.specs.Grammar.{Rule, Never, One, Repeated, Follows, in_order, at_most_one, one_of, element_end}
use Rattle.gds_reader.specs.Grammar.{with_flags, element, structure, IsStreamOrder, IsBeginning}
use Rattle.gds_reader.specs.Steps.{next_place}
use Rattle.gds_reader.proofs.GrammarLemmas.{behind, behind_from, behind_to, has_some, some_list}

abbrev pub library_end : List Rule
library_end = Repeated structure ∷ One EndLib ∷ []

abbrev pub structure_end : List Rule
structure_end = Repeated element ∷ One EndStr ∷ library_end

abbrev pub units_on : List Rule
units_on = Repeated (one_of (RefLibs ∷ Fonts ∷ AttrTable ∷ Generations ∷ Format ∷ [])) ∷ One Units ∷ library_end

abbrev pub name_on : List Rule
name_on = Repeated (one_of (LibDirSize ∷ SrfName ∷ LibSecur ∷ [])) ∷ One LibName ∷ units_on

abbrev pub properties_on : List Rule
properties_on = element_end ++ structure_end

abbrev pub xy_on : List Rule
xy_on = One Xy ∷ properties_on

abbrev pub end_on : List Rule
end_on = at_most_one (One EndExtn) ∷ xy_on

abbrev pub begin_on : List Rule
begin_on = at_most_one (One BgnExtn) ∷ end_on

abbrev pub width_on : List Rule
width_on = at_most_one (One Width) ∷ begin_on

abbrev pub path_type_on : List Rule
path_type_on = at_most_one (One PathType) ∷ width_on

abbrev pub typed_on : Form → List Rule
typed_on forms.Boundary = One DataType ∷ xy_on
typed_on forms.Path = One DataType ∷ path_type_on
typed_on forms.Node = One NodeType ∷ xy_on
typed_on forms.Box = One BoxType ∷ xy_on
typed_on _ = Never ∷ []

-- after the transformation
abbrev pub placed_on : Form → List Rule
placed_on forms.Sref = xy_on
placed_on forms.Aref = One ColRow ∷ xy_on
placed_on _ = Never ∷ []

abbrev pub named_on : Form → List Rule
named_on forms.Sref = at_most_one (in_order (One Strans ∷ at_most_one (One Mag) ∷ at_most_one (One Angle) ∷ [])) ∷ placed_on forms.Sref
named_on forms.Aref = at_most_one (in_order (One Strans ∷ at_most_one (One Mag) ∷ at_most_one (One Angle) ∷ [])) ∷ placed_on forms.Aref
named_on _ = Never ∷ []

abbrev pub magnified_on : Form → List Rule
magnified_on forms.Sref = at_most_one (One Angle) ∷ placed_on forms.Sref
magnified_on forms.Aref = at_most_one (One Angle) ∷ placed_on forms.Aref
magnified_on _ = Never ∷ []

abbrev pub body_on : Form → List Rule
body_on forms.Sref = One Sname ∷ named_on forms.Sref
body_on forms.Aref = One Sname ∷ named_on forms.Aref
body_on forms.Boundary = One Layer ∷ typed_on forms.Boundary
body_on forms.Path = One Layer ∷ typed_on forms.Path
body_on forms.Node = One Layer ∷ typed_on forms.Node
body_on forms.Box = One Layer ∷ typed_on forms.Box

abbrev pub text_on : List Rule
text_on =
    Repeated (one_of (
    ElFlags ∷ Plex ∷ Layer ∷ TextType ∷ Presentation ∷ PathType ∷ Width ∷ Strans ∷ Mag ∷ Angle ∷ Xy ∷ String ∷ [])) ∷
    properties_on

abbrev pub rules_at : Place → List Rule
rules_at places.Header = One Header ∷ One BgnLib ∷ name_on
rules_at places.BgnLib = One BgnLib ∷ name_on
rules_at places.LibName = name_on
rules_at places.Units = units_on
rules_at places.Structures = library_end
rules_at places.StrName = One StrName ∷ at_most_one (One StrClass) ∷ structure_end
rules_at places.StrClass = at_most_one (One StrClass) ∷ structure_end
rules_at places.Elements = structure_end
rules_at places.End = []
rules_at (places.Begun form) = with_flags (body_on form)
rules_at (places.Flagged form) = at_most_one (One Plex) ∷ body_on form
rules_at (places.Plexed form) = body_on form
rules_at (places.Layered form) = typed_on form
rules_at places.PathType = path_type_on
rules_at places.Width = width_on
rules_at places.BgnExtn = begin_on
rules_at places.EndExtn = end_on
rules_at (places.Named form) = named_on form
rules_at (places.Transformed forms.Sref) = at_most_one (One Mag) ∷ magnified_on forms.Sref
rules_at (places.Transformed forms.Aref) = at_most_one (One Mag) ∷ magnified_on forms.Aref
rules_at (places.Transformed _) = Never ∷ []
rules_at (places.Magnified form) = magnified_on form
rules_at (places.Angled form) = placed_on form
rules_at places.Text = text_on
rules_at places.Xy = xy_on
rules_at places.Properties = properties_on
rules_at places.PropValue = One PropValue ∷ properties_on

-- the places that a file reaches
abbrev pub is_reached : Place → Bool
is_reached (places.Layered forms.Sref) = false
is_reached (places.Layered forms.Aref) = false
is_reached (places.Named forms.Sref) = true
is_reached (places.Named forms.Aref) = true
is_reached (places.Named _) = false
is_reached (places.Transformed forms.Sref) = true
is_reached (places.Transformed forms.Aref) = true
is_reached (places.Transformed _) = false
is_reached (places.Magnified forms.Sref) = true
is_reached (places.Magnified forms.Aref) = true
is_reached (places.Magnified _) = false
is_reached (places.Angled forms.Sref) = true
is_reached (places.Angled forms.Aref) = true
is_reached (places.Angled _) = false
is_reached _ = true

abbrev pub rest_of : Place → Rule
rest_of place = cond (is_reached place) (in_order (rules_at place)) Never

abbrev pub rest_after : Option Place → Rule
rest_after None = Never
rest_after (Some place) = rest_of place

abbrev pub reached_after : Option Place → Bool
reached_after None = true
reached_after (Some place) = is_reached place

pub steps : (place : Place) (kind : Kind) → behind kind (rest_of place) ≡ rest_after (next_place place kind)
steps places.Header kind = elim kind as (λ k. behind k (rest_of places.Header) ≡ rest_after (next_place places.Header k)) [ Header ↦ refl | _ ↦ refl ]
steps places.BgnLib kind = elim kind as (λ k. behind k (rest_of places.BgnLib) ≡ rest_after (next_place places.BgnLib k)) [ Header ↦ refl | _ ↦ refl ]
steps places.LibName kind = elim kind as (λ k. behind k (rest_of places.LibName) ≡ rest_after (next_place places.LibName k)) [ Header ↦ refl | _ ↦ refl ]
steps places.Units kind = elim kind as (λ k. behind k (rest_of places.Units) ≡ rest_after (next_place places.Units k)) [ Header ↦ refl | _ ↦ refl ]
steps places.Structures kind = elim kind as
    (λ k. behind k (rest_of places.Structures) ≡ rest_after (next_place places.Structures k)) [
      | Header ↦ refl
      | _ ↦
          refl
    ]
steps places.StrName kind = elim kind as (λ k. behind k (rest_of places.StrName) ≡ rest_after (next_place places.StrName k)) [ Header ↦ refl | _ ↦ refl ]
steps places.StrClass kind = elim kind as (λ k. behind k (rest_of places.StrClass) ≡ rest_after (next_place places.StrClass k)) [ Header ↦ refl | _ ↦ refl ]
steps places.Elements kind = elim kind as (λ k. behind k (rest_of places.Elements) ≡ rest_after (next_place places.Elements k)) [ Header ↦ refl | _ ↦ refl ]
steps places.End kind = elim kind as (λ k. behind k (rest_of places.End) ≡ rest_after (next_place places.End k)) [ Header ↦ refl | _ ↦ refl ]
steps places.PathType kind = elim kind as (λ k. behind k (rest_of places.PathType) ≡ rest_after (next_place places.PathType k)) [ Header ↦ refl | _ ↦ refl ]
steps places.Width kind = elim kind as (λ k. behind k (rest_of places.Width) ≡ rest_after (next_place places.Width k)) [ Header ↦ refl | _ ↦ refl ]
steps places.BgnExtn kind = elim kind as (λ k. behind k (rest_of places.BgnExtn) ≡ rest_after (next_place places.BgnExtn k)) [ Header ↦ refl | _ ↦ refl ]
steps places.EndExtn kind = elim kind as (λ k. behind k (rest_of places.EndExtn) ≡ rest_after (next_place places.EndExtn k)) [ Header ↦ refl | _ ↦ refl ]
steps places.Text kind = elim kind as (λ k. behind k (rest_of places.Text) ≡ rest_after (next_place places.Text k)) [ Header ↦ refl | _ ↦ refl ]
steps places.Xy kind = elim kind as (λ k. behind k (rest_of places.Xy) ≡ rest_after (next_place places.Xy k)) [ Header ↦ refl | _ ↦ refl ]
steps places.Properties kind = elim kind as
    (λ k. behind k (rest_of places.Properties) ≡ rest_after (next_place places.Properties k)) [
      | Header ↦ refl
      | _ ↦
          refl
    ]
steps places.PropValue kind = elim kind as (λ k. behind k (rest_of places.PropValue) ≡ rest_after (next_place places.PropValue k)) [ Header ↦ refl | _ ↦ refl ]
steps (places.Begun forms.Boundary) kind = elim kind as
    (λ k. behind k (rest_of (places.Begun forms.Boundary)) ≡ rest_after (next_place (places.Begun forms.Boundary) k))
    [ Header ↦ refl | _ ↦ refl ]
steps (places.Begun forms.Path) kind = elim kind as
    (λ k. behind k (rest_of (places.Begun forms.Path)) ≡ rest_after (next_place (places.Begun forms.Path) k))
    [ Header ↦ refl | _ ↦ refl ]
steps (places.Begun forms.Sref) kind = elim kind as
    (λ k. behind k (rest_of (places.Begun forms.Sref)) ≡ rest_after (next_place (places.Begun forms.Sref) k))
    [ Header ↦ refl | _ ↦ refl ]
steps (places.Begun forms.Aref) kind = elim kind as
    (λ k. behind k (rest_of (places.Begun forms.Aref)) ≡ rest_after (next_place (places.Begun forms.Aref) k))
    [ Header ↦ refl | _ ↦ refl ]
steps (places.Begun forms.Node) kind = elim kind as
    (λ k. behind k (rest_of (places.Begun forms.Node)) ≡ rest_after (next_place (places.Begun forms.Node) k))
    [ Header ↦ refl | _ ↦ refl ]
steps (places.Begun forms.Box) kind = elim kind as
    (λ k. behind k (rest_of (places.Begun forms.Box)) ≡ rest_after (next_place (places.Begun forms.Box) k)) [
      | Header ↦
          refl
      | _ ↦ refl
    ]
steps (places.Flagged forms.Boundary) kind = elim kind as
    (λ k. behind k (rest_of (places.Flagged forms.Boundary)) ≡ rest_after
    (next_place (places.Flagged forms.Boundary) k)) [ Header ↦ refl | _ ↦ refl ]
steps (places.Flagged forms.Path) kind = elim kind as
    (λ k. behind k (rest_of (places.Flagged forms.Path)) ≡ rest_after (next_place (places.Flagged forms.Path) k))
    [ Header ↦ refl | _ ↦ refl ]
steps (places.Flagged forms.Sref) kind = elim kind as
    (λ k. behind k (rest_of (places.Flagged forms.Sref)) ≡ rest_after (next_place (places.Flagged forms.Sref) k))
    [ Header ↦ refl | _ ↦ refl ]
steps (places.Flagged forms.Aref) kind = elim kind as
    (λ k. behind k (rest_of (places.Flagged forms.Aref)) ≡ rest_after (next_place (places.Flagged forms.Aref) k))
    [ Header ↦ refl | _ ↦ refl ]
steps (places.Flagged forms.Node) kind = elim kind as
    (λ k. behind k (rest_of (places.Flagged forms.Node)) ≡ rest_after (next_place (places.Flagged forms.Node) k))
    [ Header ↦ refl | _ ↦ refl ]
steps (places.Flagged forms.Box) kind = elim kind as
    (λ k. behind k (rest_of (places.Flagged forms.Box)) ≡ rest_after (next_place (places.Flagged forms.Box) k))
    [ Header ↦ refl | _ ↦ refl ]
steps (places.Plexed forms.Boundary) kind = elim kind as
    (λ k. behind k (rest_of (places.Plexed forms.Boundary)) ≡ rest_after (next_place (places.Plexed forms.Boundary) k))
    [ Header ↦ refl | _ ↦ refl ]
steps (places.Plexed forms.Path) kind = elim kind as
    (λ k. behind k (rest_of (places.Plexed forms.Path)) ≡ rest_after (next_place (places.Plexed forms.Path) k))
    [ Header ↦ refl | _ ↦ refl ]
steps (places.Plexed forms.Sref) kind = elim kind as
    (λ k. behind k (rest_of (places.Plexed forms.Sref)) ≡ rest_after (next_place (places.Plexed forms.Sref) k))
    [ Header ↦ refl | _ ↦ refl ]
steps (places.Plexed forms.Aref) kind = elim kind as
    (λ k. behind k (rest_of (places.Plexed forms.Aref)) ≡ rest_after (next_place (places.Plexed forms.Aref) k))
    [ Header ↦ refl | _ ↦ refl ]
steps (places.Plexed forms.Node) kind = elim kind as
    (λ k. behind k (rest_of (places.Plexed forms.Node)) ≡ rest_after (next_place (places.Plexed forms.Node) k))
    [ Header ↦ refl | _ ↦ refl ]
steps (places.Plexed forms.Box) kind = elim kind as
    (λ k. behind k (rest_of (places.Plexed forms.Box)) ≡ rest_after (next_place (places.Plexed forms.Box) k))
    [ Header ↦ refl | _ ↦ refl ]
steps (places.Layered forms.Boundary) kind = elim kind as
    (λ k. behind k (rest_of (places.Layered forms.Boundary)) ≡ rest_after
    (next_place (places.Layered forms.Boundary) k)) [ Header ↦ refl | _ ↦ refl ]
steps (places.Layered forms.Path) kind = elim kind as
    (λ k. behind k (rest_of (places.Layered forms.Path)) ≡ rest_after (next_place (places.Layered forms.Path) k))
    [ Header ↦ refl | _ ↦ refl ]
steps (places.Layered forms.Sref) kind = elim kind as
    (λ k. behind k (rest_of (places.Layered forms.Sref)) ≡ rest_after (next_place (places.Layered forms.Sref) k))
    [ Header ↦ refl | _ ↦ refl ]
steps (places.Layered forms.Aref) kind = elim kind as
    (λ k. behind k (rest_of (places.Layered forms.Aref)) ≡ rest_after (next_place (places.Layered forms.Aref) k))
    [ Header ↦ refl | _ ↦ refl ]
steps (places.Layered forms.Node) kind = elim kind as
    (λ k. behind k (rest_of (places.Layered forms.Node)) ≡ rest_after (next_place (places.Layered forms.Node) k))
    [ Header ↦ refl | _ ↦ refl ]
steps (places.Layered forms.Box) kind = elim kind as
    (λ k. behind k (rest_of (places.Layered forms.Box)) ≡ rest_after (next_place (places.Layered forms.Box) k))
    [ Header ↦ refl | _ ↦ refl ]
steps (places.Named forms.Boundary) kind = elim kind as
    (λ k. behind k (rest_of (places.Named forms.Boundary)) ≡ rest_after (next_place (places.Named forms.Boundary) k))
    [ Header ↦ refl | _ ↦ refl ]
steps (places.Named forms.Path) kind = elim kind as
    (λ k. behind k (rest_of (places.Named forms.Path)) ≡ rest_after (next_place (places.Named forms.Path) k))
    [ Header ↦ refl | _ ↦ refl ]
steps (places.Named forms.Sref) kind = elim kind as
    (λ k. behind k (rest_of (places.Named forms.Sref)) ≡ rest_after (next_place (places.Named forms.Sref) k))
    [ Header ↦ refl | _ ↦ refl ]
steps (places.Named forms.Aref) kind = elim kind as
    (λ k. behind k (rest_of (places.Named forms.Aref)) ≡ rest_after (next_place (places.Named forms.Aref) k))
    [ Header ↦ refl | _ ↦ refl ]
steps (places.Named forms.Node) kind = elim kind as
    (λ k. behind k (rest_of (places.Named forms.Node)) ≡ rest_after (next_place (places.Named forms.Node) k))
    [ Header ↦ refl | _ ↦ refl ]
steps (places.Named forms.Box) kind = elim kind as
    (λ k. behind k (rest_of (places.Named forms.Box)) ≡ rest_after (next_place (places.Named forms.Box) k)) [
      | Header ↦
          refl
      | _ ↦ refl
    ]
steps (places.Transformed forms.Boundary) kind = elim kind as
    (λ k. behind k (rest_of (places.Transformed forms.Boundary)) ≡ rest_after
    (next_place (places.Transformed forms.Boundary) k)) [ Header ↦ refl | _ ↦ refl ]
steps (places.Transformed forms.Path) kind = elim kind as
    (λ k. behind k (rest_of (places.Transformed forms.Path)) ≡ rest_after
    (next_place (places.Transformed forms.Path) k)) [ Header ↦ refl | _ ↦ refl ]
steps (places.Transformed forms.Sref) kind = elim kind as
    (λ k. behind k (rest_of (places.Transformed forms.Sref)) ≡ rest_after
    (next_place (places.Transformed forms.Sref) k)) [ Header ↦ refl | _ ↦ refl ]
steps (places.Transformed forms.Aref) kind = elim kind as
    (λ k. behind k (rest_of (places.Transformed forms.Aref)) ≡ rest_after
    (next_place (places.Transformed forms.Aref) k)) [ Header ↦ refl | _ ↦ refl ]
steps (places.Transformed forms.Node) kind = elim kind as
    (λ k. behind k (rest_of (places.Transformed forms.Node)) ≡ rest_after
    (next_place (places.Transformed forms.Node) k)) [ Header ↦ refl | _ ↦ refl ]
steps (places.Transformed forms.Box) kind = elim kind as
    (λ k. behind k (rest_of (places.Transformed forms.Box)) ≡ rest_after (next_place (places.Transformed forms.Box) k))
    [ Header ↦ refl | _ ↦ refl ]
steps (places.Magnified forms.Boundary) kind = elim kind as
    (λ k. behind k (rest_of (places.Magnified forms.Boundary)) ≡ rest_after
    (next_place (places.Magnified forms.Boundary) k)) [ Header ↦ refl | _ ↦ refl ]
steps (places.Magnified forms.Path) kind = elim kind as
    (λ k. behind k (rest_of (places.Magnified forms.Path)) ≡ rest_after (next_place (places.Magnified forms.Path) k))
    [ Header ↦ refl | _ ↦ refl ]
steps (places.Magnified forms.Sref) kind = elim kind as
    (λ k. behind k (rest_of (places.Magnified forms.Sref)) ≡ rest_after (next_place (places.Magnified forms.Sref) k))
    [ Header ↦ refl | _ ↦ refl ]
steps (places.Magnified forms.Aref) kind = elim kind as
    (λ k. behind k (rest_of (places.Magnified forms.Aref)) ≡ rest_after (next_place (places.Magnified forms.Aref) k))
    [ Header ↦ refl | _ ↦ refl ]
steps (places.Magnified forms.Node) kind = elim kind as
    (λ k. behind k (rest_of (places.Magnified forms.Node)) ≡ rest_after (next_place (places.Magnified forms.Node) k))
    [ Header ↦ refl | _ ↦ refl ]
steps (places.Magnified forms.Box) kind = elim kind as
    (λ k. behind k (rest_of (places.Magnified forms.Box)) ≡ rest_after (next_place (places.Magnified forms.Box) k))
    [ Header ↦ refl | _ ↦ refl ]
steps (places.Angled forms.Boundary) kind = elim kind as
    (λ k. behind k (rest_of (places.Angled forms.Boundary)) ≡ rest_after (next_place (places.Angled forms.Boundary) k))
    [ Header ↦ refl | _ ↦ refl ]
steps (places.Angled forms.Path) kind = elim kind as
    (λ k. behind k (rest_of (places.Angled forms.Path)) ≡ rest_after (next_place (places.Angled forms.Path) k))
    [ Header ↦ refl | _ ↦ refl ]
steps (places.Angled forms.Sref) kind = elim kind as
    (λ k. behind k (rest_of (places.Angled forms.Sref)) ≡ rest_after (next_place (places.Angled forms.Sref) k))
    [ Header ↦ refl | _ ↦ refl ]
steps (places.Angled forms.Aref) kind = elim kind as
    (λ k. behind k (rest_of (places.Angled forms.Aref)) ≡ rest_after (next_place (places.Angled forms.Aref) k))
    [ Header ↦ refl | _ ↦ refl ]
steps (places.Angled forms.Node) kind = elim kind as
    (λ k. behind k (rest_of (places.Angled forms.Node)) ≡ rest_after (next_place (places.Angled forms.Node) k))
    [ Header ↦ refl | _ ↦ refl ]
steps (places.Angled forms.Box) kind = elim kind as
    (λ k. behind k (rest_of (places.Angled forms.Box)) ≡ rest_after (next_place (places.Angled forms.Box) k))
    [ Header ↦ refl | _ ↦ refl ]

pub reached : (place : Place) (kind : Kind) → is_reached place ≡ true → reached_after (next_place place kind) ≡ true
reached places.Header kind e = elim kind as (λ k. reached_after (next_place places.Header k) ≡ true) [ Header ↦ refl | _ ↦ refl ]
reached places.BgnLib kind e = elim kind as (λ k. reached_after (next_place places.BgnLib k) ≡ true) [ Header ↦ refl | _ ↦ refl ]
reached places.LibName kind e = elim kind as (λ k. reached_after (next_place places.LibName k) ≡ true) [ Header ↦ refl | _ ↦ refl ]
reached places.Units kind e = elim kind as (λ k. reached_after (next_place places.Units k) ≡ true) [ Header ↦ refl | _ ↦ refl ]
reached places.Structures kind e = elim kind as (λ k. reached_after (next_place places.Structures k) ≡ true) [ Header ↦ refl | _ ↦ refl ]
reached places.StrName kind e = elim kind as (λ k. reached_after (next_place places.StrName k) ≡ true) [ Header ↦ refl | _ ↦ refl ]
reached places.StrClass kind e = elim kind as (λ k. reached_after (next_place places.StrClass k) ≡ true) [ Header ↦ refl | _ ↦ refl ]
reached places.Elements kind e = elim kind as (λ k. reached_after (next_place places.Elements k) ≡ true) [ Header ↦ refl | _ ↦ refl ]
reached places.End kind e = elim kind as (λ k. reached_after (next_place places.End k) ≡ true) [ Header ↦ refl | _ ↦ refl ]
reached places.PathType kind e = elim kind as (λ k. reached_after (next_place places.PathType k) ≡ true) [ Header ↦ refl | _ ↦ refl ]
reached places.Width kind e = elim kind as (λ k. reached_after (next_place places.Width k) ≡ true) [ Header ↦ refl | _ ↦ refl ]
reached places.BgnExtn kind e = elim kind as (λ k. reached_after (next_place places.BgnExtn k) ≡ true) [ Header ↦ refl | _ ↦ refl ]
reached places.EndExtn kind e = elim kind as (λ k. reached_after (next_place places.EndExtn k) ≡ true) [ Header ↦ refl | _ ↦ refl ]
reached places.Text kind e = elim kind as (λ k. reached_after (next_place places.Text k) ≡ true) [ Header ↦ refl | _ ↦ refl ]
reached places.Xy kind e = elim kind as (λ k. reached_after (next_place places.Xy k) ≡ true) [ Header ↦ refl | _ ↦ refl ]
reached places.Properties kind e = elim kind as (λ k. reached_after (next_place places.Properties k) ≡ true) [ Header ↦ refl | _ ↦ refl ]
reached places.PropValue kind e = elim kind as (λ k. reached_after (next_place places.PropValue k) ≡ true) [ Header ↦ refl | _ ↦ refl ]
reached (places.Begun forms.Boundary) kind e = elim kind as
    (λ k. reached_after (next_place (places.Begun forms.Boundary) k) ≡ true) [ Header ↦ refl | _ ↦ refl ]
reached (places.Begun forms.Path) kind e = elim kind as (λ k. reached_after (next_place (places.Begun forms.Path) k) ≡ true) [ Header ↦ refl | _ ↦ refl ]
reached (places.Begun forms.Sref) kind e = elim kind as (λ k. reached_after (next_place (places.Begun forms.Sref) k) ≡ true) [ Header ↦ refl | _ ↦ refl ]
reached (places.Begun forms.Aref) kind e = elim kind as (λ k. reached_after (next_place (places.Begun forms.Aref) k) ≡ true) [ Header ↦ refl | _ ↦ refl ]
reached (places.Begun forms.Node) kind e = elim kind as (λ k. reached_after (next_place (places.Begun forms.Node) k) ≡ true) [ Header ↦ refl | _ ↦ refl ]
reached (places.Begun forms.Box) kind e = elim kind as (λ k. reached_after (next_place (places.Begun forms.Box) k) ≡ true) [ Header ↦ refl | _ ↦ refl ]
reached (places.Flagged forms.Boundary) kind e = elim kind as
    (λ k. reached_after (next_place (places.Flagged forms.Boundary) k) ≡ true) [ Header ↦ refl | _ ↦ refl ]
reached (places.Flagged forms.Path) kind e = elim kind as (λ k. reached_after (next_place (places.Flagged forms.Path) k) ≡ true) [ Header ↦ refl | _ ↦ refl ]
reached (places.Flagged forms.Sref) kind e = elim kind as (λ k. reached_after (next_place (places.Flagged forms.Sref) k) ≡ true) [ Header ↦ refl | _ ↦ refl ]
reached (places.Flagged forms.Aref) kind e = elim kind as (λ k. reached_after (next_place (places.Flagged forms.Aref) k) ≡ true) [ Header ↦ refl | _ ↦ refl ]
reached (places.Flagged forms.Node) kind e = elim kind as (λ k. reached_after (next_place (places.Flagged forms.Node) k) ≡ true) [ Header ↦ refl | _ ↦ refl ]
reached (places.Flagged forms.Box) kind e = elim kind as (λ k. reached_after (next_place (places.Flagged forms.Box) k) ≡ true) [ Header ↦ refl | _ ↦ refl ]
reached (places.Plexed forms.Boundary) kind e = elim kind as
    (λ k. reached_after (next_place (places.Plexed forms.Boundary) k) ≡ true) [ Header ↦ refl | _ ↦ refl ]
reached (places.Plexed forms.Path) kind e = elim kind as (λ k. reached_after (next_place (places.Plexed forms.Path) k) ≡ true) [ Header ↦ refl | _ ↦ refl ]
reached (places.Plexed forms.Sref) kind e = elim kind as (λ k. reached_after (next_place (places.Plexed forms.Sref) k) ≡ true) [ Header ↦ refl | _ ↦ refl ]
reached (places.Plexed forms.Aref) kind e = elim kind as (λ k. reached_after (next_place (places.Plexed forms.Aref) k) ≡ true) [ Header ↦ refl | _ ↦ refl ]
reached (places.Plexed forms.Node) kind e = elim kind as (λ k. reached_after (next_place (places.Plexed forms.Node) k) ≡ true) [ Header ↦ refl | _ ↦ refl ]
reached (places.Plexed forms.Box) kind e = elim kind as (λ k. reached_after (next_place (places.Plexed forms.Box) k) ≡ true) [ Header ↦ refl | _ ↦ refl ]
reached (places.Layered forms.Boundary) kind e = elim kind as
    (λ k. reached_after (next_place (places.Layered forms.Boundary) k) ≡ true) [ Header ↦ refl | _ ↦ refl ]
reached (places.Layered forms.Path) kind e = elim kind as (λ k. reached_after (next_place (places.Layered forms.Path) k) ≡ true) [ Header ↦ refl | _ ↦ refl ]
reached (places.Layered forms.Sref) kind e = absurd (cc)
reached (places.Layered forms.Aref) kind e = absurd (cc)
reached (places.Layered forms.Node) kind e = elim kind as (λ k. reached_after (next_place (places.Layered forms.Node) k) ≡ true) [ Header ↦ refl | _ ↦ refl ]
reached (places.Layered forms.Box) kind e = elim kind as (λ k. reached_after (next_place (places.Layered forms.Box) k) ≡ true) [ Header ↦ refl | _ ↦ refl ]
reached (places.Named forms.Boundary) kind e = absurd (cc)
reached (places.Named forms.Path) kind e = absurd (cc)
reached (places.Named forms.Sref) kind e = elim kind as (λ k. reached_after (next_place (places.Named forms.Sref) k) ≡ true) [ Header ↦ refl | _ ↦ refl ]
reached (places.Named forms.Aref) kind e = elim kind as (λ k. reached_after (next_place (places.Named forms.Aref) k) ≡ true) [ Header ↦ refl | _ ↦ refl ]
reached (places.Named forms.Node) kind e = absurd (cc)
reached (places.Named forms.Box) kind e = absurd (cc)
reached (places.Transformed forms.Boundary) kind e = absurd (cc)
reached (places.Transformed forms.Path) kind e = absurd (cc)
reached (places.Transformed forms.Sref) kind e = elim kind as
    (λ k. reached_after (next_place (places.Transformed forms.Sref) k) ≡ true) [ Header ↦ refl | _ ↦ refl ]
reached (places.Transformed forms.Aref) kind e = elim kind as
    (λ k. reached_after (next_place (places.Transformed forms.Aref) k) ≡ true) [ Header ↦ refl | _ ↦ refl ]
reached (places.Transformed forms.Node) kind e = absurd (cc)
reached (places.Transformed forms.Box) kind e = absurd (cc)
reached (places.Magnified forms.Boundary) kind e = absurd (cc)
reached (places.Magnified forms.Path) kind e = absurd (cc)
reached (places.Magnified forms.Sref) kind e = elim kind as
    (λ k. reached_after (next_place (places.Magnified forms.Sref) k) ≡ true) [ Header ↦ refl | _ ↦ refl ]
reached (places.Magnified forms.Aref) kind e = elim kind as
    (λ k. reached_after (next_place (places.Magnified forms.Aref) k) ≡ true) [ Header ↦ refl | _ ↦ refl ]
reached (places.Magnified forms.Node) kind e = absurd (cc)
reached (places.Magnified forms.Box) kind e = absurd (cc)
reached (places.Angled forms.Boundary) kind e = absurd (cc)
reached (places.Angled forms.Path) kind e = absurd (cc)
reached (places.Angled forms.Sref) kind e = elim kind as (λ k. reached_after (next_place (places.Angled forms.Sref) k) ≡ true) [ Header ↦ refl | _ ↦ refl ]
reached (places.Angled forms.Aref) kind e = elim kind as (λ k. reached_after (next_place (places.Angled forms.Aref) k) ≡ true) [ Header ↦ refl | _ ↦ refl ]
reached (places.Angled forms.Node) kind e = absurd (cc)
reached (places.Angled forms.Box) kind e = absurd (cc)

pub some_at : (place : Place) → is_reached place ≡ true → has_some (rest_of place) ≡ true
some_at places.Header e = refl
some_at places.BgnLib e = refl
some_at places.LibName e = refl
some_at places.Units e = refl
some_at places.Structures e = refl
some_at places.StrName e = refl
some_at places.StrClass e = refl
some_at places.Elements e = refl
some_at places.End e = refl
some_at places.PathType e = refl
some_at places.Width e = refl
some_at places.BgnExtn e = refl
some_at places.EndExtn e = refl
some_at places.Text e = refl
some_at places.Xy e = refl
some_at places.Properties e = refl
some_at places.PropValue e = refl
some_at (places.Begun forms.Boundary) e = refl
some_at (places.Begun forms.Path) e = refl
some_at (places.Begun forms.Sref) e = refl
some_at (places.Begun forms.Aref) e = refl
some_at (places.Begun forms.Node) e = refl
some_at (places.Begun forms.Box) e = refl
some_at (places.Flagged forms.Boundary) e = refl
some_at (places.Flagged forms.Path) e = refl
some_at (places.Flagged forms.Sref) e = refl
some_at (places.Flagged forms.Aref) e = refl
some_at (places.Flagged forms.Node) e = refl
some_at (places.Flagged forms.Box) e = refl
some_at (places.Plexed forms.Boundary) e = refl
some_at (places.Plexed forms.Path) e = refl
some_at (places.Plexed forms.Sref) e = refl
some_at (places.Plexed forms.Aref) e = refl
some_at (places.Plexed forms.Node) e = refl
some_at (places.Plexed forms.Box) e = refl
some_at (places.Layered forms.Boundary) e = refl
some_at (places.Layered forms.Path) e = refl
some_at (places.Layered forms.Sref) e = absurd (cc)
some_at (places.Layered forms.Aref) e = absurd (cc)
some_at (places.Layered forms.Node) e = refl
some_at (places.Layered forms.Box) e = refl
some_at (places.Named forms.Boundary) e = absurd (cc)
some_at (places.Named forms.Path) e = absurd (cc)
some_at (places.Named forms.Sref) e = refl
some_at (places.Named forms.Aref) e = refl
some_at (places.Named forms.Node) e = absurd (cc)
some_at (places.Named forms.Box) e = absurd (cc)
some_at (places.Transformed forms.Boundary) e = absurd (cc)
some_at (places.Transformed forms.Path) e = absurd (cc)
some_at (places.Transformed forms.Sref) e = refl
some_at (places.Transformed forms.Aref) e = refl
some_at (places.Transformed forms.Node) e = absurd (cc)
some_at (places.Transformed forms.Box) e = absurd (cc)
some_at (places.Magnified forms.Boundary) e = absurd (cc)
some_at (places.Magnified forms.Path) e = absurd (cc)
some_at (places.Magnified forms.Sref) e = refl
some_at (places.Magnified forms.Aref) e = refl
some_at (places.Magnified forms.Node) e = absurd (cc)
some_at (places.Magnified forms.Box) e = absurd (cc)
some_at (places.Angled forms.Boundary) e = absurd (cc)
some_at (places.Angled forms.Path) e = absurd (cc)
some_at (places.Angled forms.Sref) e = refl
some_at (places.Angled forms.Aref) e = refl
some_at (places.Angled forms.Node) e = absurd (cc)
some_at (places.Angled forms.Box) e = absurd (cc)

-- ---- the kinds so far

kinds_last : (kinds : List Kind) (kind : Kind) (rest : List Kind) → kinds ++ (kind ∷ rest) ≡ (kinds ++ kind ∷ []) ++ rest
kinds_last kinds kind rest = sym (append_assoc kinds (kind ∷ []) rest)

-- after these kinds, what may follow is what may follow at the place
pub record LeadsTo (kinds : List Kind) (place : Place) : Type 0 where
  pub reached : is_reached place ≡ true
  pub onward : (rest : List Kind) → IsStreamOrder (kinds ++ rest) → Follows (rest_of place) rest
  pub backward : (rest : List Kind) → Follows (rest_of place) rest → IsStreamOrder (kinds ++ rest)

pub leads_first : LeadsTo [] places.Header
leads_first = record { reached = refl; onward = λ rest f. f; backward = λ rest f. f }

-- the kind may follow
pub leads_next : (kinds : List Kind) (place next : Place) (kind : Kind) → LeadsTo kinds place → next_place place kind ≡ Some next
    → LeadsTo (kinds ++ kind ∷ []) next
leads_next kinds place next kind leads e =
    let rule : behind kind (rest_of place) ≡ rest_of next = steps place kind ∙ ap rest_after e in
    record {
      reached = ap reached_after (sym e) ∙ reached place kind leads.reached;
      onward = λ rest f.
          subst (λ rule. Follows rule rest) rule
          (behind_from kind (rest_of place) rest
          (leads.onward (kind ∷ rest) (subst IsStreamOrder (sym (kinds_last kinds kind rest)) f)));
      backward = λ rest f.
          subst IsStreamOrder (kinds_last kinds kind rest)
          (leads.backward (kind ∷ rest)
          (behind_to kind (rest_of place) rest (subst (λ rule. Follows rule rest) (sym rule) f)));
    }

-- kinds that lead to a place begin a file
pub leads_begin : (kinds : List Kind) (place : Place) → LeadsTo kinds place → IsBeginning kinds
leads_begin kinds place leads =
    let some = some_list (rest_of place) (some_at place leads.reached) in
    (some.0, leads.backward some.0 some.1)

-- the kind may not follow
pub leads_nowhere : (kinds : List Kind) (place : Place) (kind : Kind) → LeadsTo kinds place → next_place place kind ≡ None
    → IsBeginning (kinds ++ kind ∷ []) → ⊥
leads_nowhere kinds place kind leads e begins =
    let rule : behind kind (rest_of place) ≡ Never = steps place kind ∙ ap rest_after e in
    let whole : IsStreamOrder (kinds ++ (kind ∷ begins.0)) = subst IsStreamOrder (sym (kinds_last kinds kind begins.0)) begins.1 in
    let found : Follows (behind kind (rest_of place)) begins.0 = behind_from kind (rest_of place) begins.0 (leads.onward (kind ∷ begins.0) whole) in
    subst (λ rule. Follows rule begins.0) rule found

-- a file ends at ENDLIB
pub leads_end : (kinds : List Kind) → LeadsTo kinds places.End → IsStreamOrder kinds
leads_end kinds leads = subst IsStreamOrder (append-nil kinds) (leads.backward [] refl)

-- ENDLIB leads to the end
pub end_next : (place following : Place) → next_place place EndLib ≡ Some following → following ≡ places.End
end_next places.Header following e = absurd (cc)
end_next places.BgnLib following e = absurd (cc)
end_next places.LibName following e = absurd (cc)
end_next places.Units following e = absurd (cc)
end_next places.Structures following e = cc
end_next places.StrName following e = absurd (cc)
end_next places.StrClass following e = absurd (cc)
end_next places.Elements following e = absurd (cc)
end_next places.End following e = absurd (cc)
end_next places.PathType following e = absurd (cc)
end_next places.Width following e = absurd (cc)
end_next places.BgnExtn following e = absurd (cc)
end_next places.EndExtn following e = absurd (cc)
end_next places.Text following e = absurd (cc)
end_next places.Xy following e = absurd (cc)
end_next places.Properties following e = absurd (cc)
end_next places.PropValue following e = absurd (cc)
end_next (places.Begun forms.Boundary) following e = absurd (cc)
end_next (places.Begun forms.Path) following e = absurd (cc)
end_next (places.Begun forms.Sref) following e = absurd (cc)
end_next (places.Begun forms.Aref) following e = absurd (cc)
end_next (places.Begun forms.Node) following e = absurd (cc)
end_next (places.Begun forms.Box) following e = absurd (cc)
end_next (places.Flagged forms.Boundary) following e = absurd (cc)
end_next (places.Flagged forms.Path) following e = absurd (cc)
end_next (places.Flagged forms.Sref) following e = absurd (cc)
end_next (places.Flagged forms.Aref) following e = absurd (cc)
end_next (places.Flagged forms.Node) following e = absurd (cc)
end_next (places.Flagged forms.Box) following e = absurd (cc)
end_next (places.Plexed forms.Boundary) following e = absurd (cc)
end_next (places.Plexed forms.Path) following e = absurd (cc)
end_next (places.Plexed forms.Sref) following e = absurd (cc)
end_next (places.Plexed forms.Aref) following e = absurd (cc)
end_next (places.Plexed forms.Node) following e = absurd (cc)
end_next (places.Plexed forms.Box) following e = absurd (cc)
end_next (places.Layered forms.Boundary) following e = absurd (cc)
end_next (places.Layered forms.Path) following e = absurd (cc)
end_next (places.Layered forms.Sref) following e = absurd (cc)
end_next (places.Layered forms.Aref) following e = absurd (cc)
end_next (places.Layered forms.Node) following e = absurd (cc)
end_next (places.Layered forms.Box) following e = absurd (cc)
end_next (places.Named forms.Boundary) following e = absurd (cc)
end_next (places.Named forms.Path) following e = absurd (cc)
end_next (places.Named forms.Sref) following e = absurd (cc)
end_next (places.Named forms.Aref) following e = absurd (cc)
end_next (places.Named forms.Node) following e = absurd (cc)
end_next (places.Named forms.Box) following e = absurd (cc)
end_next (places.Transformed forms.Boundary) following e = absurd (cc)
end_next (places.Transformed forms.Path) following e = absurd (cc)
end_next (places.Transformed forms.Sref) following e = absurd (cc)
end_next (places.Transformed forms.Aref) following e = absurd (cc)
end_next (places.Transformed forms.Node) following e = absurd (cc)
end_next (places.Transformed forms.Box) following e = absurd (cc)
end_next (places.Magnified forms.Boundary) following e = absurd (cc)
end_next (places.Magnified forms.Path) following e = absurd (cc)
end_next (places.Magnified forms.Sref) following e = absurd (cc)
end_next (places.Magnified forms.Aref) following e = absurd (cc)
end_next (places.Magnified forms.Node) following e = absurd (cc)
end_next (places.Magnified forms.Box) following e = absurd (cc)
end_next (places.Angled forms.Boundary) following e = absurd (cc)
end_next (places.Angled forms.Path) following e = absurd (cc)
end_next (places.Angled forms.Sref) following e = absurd (cc)
end_next (places.Angled forms.Aref) following e = absurd (cc)
end_next (places.Angled forms.Node) following e = absurd (cc)
end_next (places.Angled forms.Box) following e = absurd (cc)
