-- What the program keeps of the records so far, in words for its own contracts.
use Rattle.std.specs.Prelude.{◌≡◌, ◌≤◌, ◌-◌, ◌^◌, ℕ, ℤ, pos, unsigned_abs, int_lt, Bool, true, false, List, [], ◌∷◌, Option, Some, None, IfSome, length}
use Rattle.half_grid.specs.Halves.{is_even}
use Rattle.half_grid.specs.declared.plane.Point.{Point}
use Rattle.layout_model.specs.Layouts.{IsWithin}
use Rattle.layout_model.specs.Names.{IsName}
use Rattle.layout_model.specs.declared.shapes.Shape.{Shape}
use Rattle.layout_model.specs.declared.cells.Placement.{Placement}
use Rattle.gds_record.specs.Heads.{content_of, IsLengthAllowed}
use Rattle.gds_record.specs.declared.kinds.Kind.{Kind}
use Rattle.gds_record.specs.declared.kinds.Kind.TheVariants.{Boundary, Path, Sref, Aref, Width, Sname, ColRow, PathType, BgnExtn, EndExtn}
use Rattle.gds_record.specs.declared.records.Record.{Record}
use Rattle.gds_reader.specs.declared.elements.Element.{Element}
use Rattle.gds_reader.specs.Past.{element_kind, own_record}
use Rattle.gds_reader.specs.Values.{name_in, number2_in, signed4_in, pair_of, columns_in, rows_in, extension}
use Rattle.gds_reader.specs.Values.{IsReference, KeepsSref, KeepsAref, KeepsBoundary, KeepsGdsiiPath}
use Rattle.gds_reader.specs.Meaning.{orient_of, origin, boundary_shape, path_shapes_of, first_of, array_places, is_drawn}

-- the record's content lies within the bytes and has a length of its kind
pub record IsHeld (bytes : List ℕ) (r : Record) : Type 0 where
  pub ordered : r.first ≤ r.next
  pub within : r.next ≤ length bytes
  pub content : IsLengthAllowed (content_of r.kind) (r.next - r.first)
  pub short : r.next - r.first ≤ 65531

-- what is kept of the element that the last record is in
pub record IsElementOf (bytes : List ℕ) (past : List Record) (e : Element) : Type 0 where
  pub kind : e.kind ≡ element_kind past
  pub pair : e.pair ≡ pair_of bytes past
  pub target : e.target ≡ own_record Sname past
  pub target_held : IfSome e.target (IsHeld bytes)
  pub target_named : IfSome e.target (λ r. IsName (name_in bytes r))
  pub path_type : e.path_type ≡ number2_in bytes (own_record PathType past)
  pub width : e.width ≡ signed4_in bytes (own_record Width past)
  pub begin : e.begin ≡ signed4_in bytes (own_record BgnExtn past)
  pub end : e.end ≡ signed4_in bytes (own_record EndExtn past)
  pub orient : IsReference past → e.orient ≡ orient_of bytes past
  pub columns : e.columns ≡ columns_in bytes (own_record ColRow past)
  pub rows : e.rows ≡ rows_in bytes (own_record ColRow past)

-- an element that begins with a record of this kind
abbrev pub new_element : Option Kind → Element
new_element kind = record {
  kind = kind;
  pair = record { layer = 0; datatype = 0 };
  target = None;
  path_type = 0;
  width = pos 0;
  begin = pos 0;
  end = pos 0;
  orient = record { flip = false; turns = 0; mag = 1 };
  columns = 0;
  rows = 0;
}

-- ---- points

-- a point of a file, in half units: whole units of the file, near 0
pub record IsFilePoint (p : Point) : Type 0 where
  pub even_x : is_even p.x ≡ true
  pub even_y : is_even p.y ≡ true
  pub near : IsWithin (2 ^ 32) p

-- ---- an element by what is kept of it

abbrev pub half_width_kept : Element → ℤ
half_width_kept e = pos (unsigned_abs e.width)

abbrev pub begin_kept : Element → ℤ
begin_kept e = extension e.path_type (half_width_kept e) e.begin

abbrev pub end_kept : Element → ℤ
end_kept e = extension e.path_type (half_width_kept e) e.end

abbrev pub path_kept : Element → List Point → List Shape
path_kept e points =
    path_shapes_of e.pair (int_lt e.width (pos 0)) (half_width_kept e) (begin_kept e) (end_kept e) points

abbrev pub KeepsPathOf : Element → List Point → ℕ → Type 0
KeepsPathOf e points rule = KeepsGdsiiPath (half_width_kept e) (begin_kept e) (end_kept e) points rule

-- the shapes of an element on a wanted pair
abbrev pub shapes_kept : Option Kind → Element → List Point → List Shape
shapes_kept (Some Boundary) e points = boundary_shape e.pair points ∷ []
shapes_kept (Some Path) e points = path_kept e points
shapes_kept _ e points = []

abbrev pub KeepsOf : Option Kind → Element → List Point → ℕ → Type 0
KeepsOf (Some Sref) e points rule = KeepsSref points rule
KeepsOf (Some Aref) e points rule = KeepsAref e.columns e.rows points rule
KeepsOf (Some Boundary) e points rule = KeepsBoundary points rule
KeepsOf (Some Path) e points rule = KeepsPathOf e points rule
KeepsOf _ e points rule = Unit {0}

abbrev pub place_kept : List ℕ → Element → Option Record → Point → List Point → List Placement
place_kept bytes e None at offsets = []
place_kept bytes e (Some r) at offsets = record { target = name_in bytes r; orient = e.orient; at = at; offsets = offsets } ∷ []

-- the placements of an element
abbrev pub placements_kept : Option Kind → List ℕ → Element → List Point → List Placement
placements_kept (Some Sref) bytes e points = place_kept bytes e e.target (first_of points) (origin ∷ [])
placements_kept (Some Aref) bytes e points = place_kept bytes e e.target (first_of points) (array_places e.columns e.rows points)
placements_kept _ bytes e points = []

-- whether an XY is that of a shape on a wanted pair (true) or on another one (false); none where it isn't a shape's
abbrev pub shapes_by : Option Bool → Element → List Point → List Shape
shapes_by (Some true) e points = shapes_kept e.kind e points
shapes_by _ e points = []

-- a shape on another pair keeps all rules
abbrev pub KeepsBy : Option Bool → Element → List Point → ℕ → Type 0
KeepsBy (Some false) e points rule = Unit {0}
KeepsBy _ e points rule = KeepsOf e.kind e points rule

-- there is an answer exactly where the element is a shape
abbrev pub TellsShape : Option Bool → Element → Type 0
TellsShape (Some wanted) e = is_drawn e.kind ≡ true
TellsShape None e = is_drawn e.kind ≡ false
