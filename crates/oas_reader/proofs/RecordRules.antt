-- The rules of records, and what the program keeps of them.
use Rattle.std.proofs.Common.{◌≡◌, ℕ, ◌<◌, Bool, true, false, if◌then◌else◌, Option, Some, None, List, [], ◌∷◌, refl, sym, ap, subst, arith}
use Rattle.std.specs.Prelude.{◌↔◌, IsTrue}
use Rattle.std.proofs.lemmas.List.Elements.{All-nil}
use Rattle.half_grid.specs.declared.plane.Point.{Point}
use Rattle.layout_model.specs.declared.pair.Pair.{Pair}
use Rattle.layout_model.specs.declared.shapes.Shape.{Shape}
use Rattle.oas_record.specs.Taken.{repetition_in}
use Rattle.oas_record.specs.declared.fields.Deltas.{Deltas}
use Rattle.oas_record.specs.declared.records.NameKind.TheVariants as kinds
use Rattle.oas_record.specs.declared.records.OasRecord.{OasRecord}
use Rattle.oas_record.specs.declared.records.OasRecord.TheVariants as records
use Rattle.oas_record.specs.declared.repetition.Rep.{Rep}
use Rattle.oas_record.specs.declared.repetition.Rep.TheVariants as reps
use Rattle.oas_record.specs.declared.shapes.ShapeHead.{ShapeHead}
use Rattle.oas_record.specs.declared.shapes.ShapeKind.{ShapeKind}
use Rattle.oas_record.specs.declared.shapes.ShapeKind.TheVariants as shapes
use Rattle.oas_shapes.specs.Repetitions.{IsDimension, HasDimensionsIn}
use Rattle.oas_shapes.specs.Rules.{IsLowest}
use Rattle.oas_shapes.specs.declared.figures.Brush.{Brush}
use Rattle.oas_shapes.specs.declared.figures.Figure.{Figure}
use Rattle.oas_fields.specs.Values.{begins_cell, or_else, polygon_points_of, path_points_of, repetition_of}
use Rattle.oas_fields.specs.Writes.{repetition_written, repetition_by as the_written}
use Rattle.oas_fields.specs.declared.variables.Variable.{Variable}
use Rattle.oas_fields.specs.declared.variables.Variable.TheVariants.{Layer, Datatype, PolygonPoints, PathHalfWidth, PathStart, PathEnd, PathPoints}
use Rattle.oas_reader.specs.Bodies.{body_of, shape_body}
use Rattle.oas_reader.specs.Drawn.{repetition_kept}
use Rattle.oas_reader.specs.Geometry.{shapes_if, placings_in, KeepsGeometry}
use Rattle.oas_reader.specs.Items.{Item, records_in}
use Rattle.oas_reader.specs.Kept.{fields_at, has_a_pair, KeepsVersionBy, KeepsSchemeBy}
use Rattle.oas_reader.specs.Meaning.{repetition_by, repetition_at, is_wanted, has_pair, shapes_drawn, placings_at, figure_of, at_of, brush_of}
use Rattle.oas_reader.specs.Names.{cell_called}
use Rattle.oas_reader.specs.Reading.{AreItemsAllowed}
use Rattle.oas_reader.specs.Rules.{ArePositionsNear, KeepsOffsets, KeepsName, KeepsMagnification, KeepsAngle}
use Rattle.oas_reader.specs.Rules.{KeepsToOthers, KeepsVersion, KeepsScheme, FigureKeeps, PolygonKeeps, PathKeeps}
use Rattle.oas_reader.specs.Rules.{KindKeeps, KeepsDrawn, KeepsOasisRule}
use Rattle.oas_reader.specs.Taking.{KeepsOwnName, wanting_of}
use Rattle.oas_reader.specs.Undefined.{is_there, is_defined, first_undefined, undefined_of}

-- ---- pairs and cells

pub has_pair_is : (r : OasRecord) → has_a_pair (body_of r) ≡ has_pair r
has_pair_is (records.Name kinds.Cell text number) = refl
has_pair_is (records.Shape head (shapes.Circle radius)) = refl
has_pair_is records.Pad = refl
has_pair_is r = refl

-- a record that begins no cell calls none
pub calls_none : (r : OasRecord) → begins_cell r ≡ false → cell_called r ≡ None
calls_none (records.Cell name) e = absurd (cc)
calls_none r e = refl

-- ---- what is placed and drawn

pub placings_are : (past : List OasRecord) (r : OasRecord)
    → placings_in (body_of r) (fields_at (r ∷ past)) (repetition_at past r) ≡ placings_at past r
placings_are past (records.Name kinds.Cell text number) = refl
placings_are past (records.Placement info cell None x y repetition) = refl
placings_are past (records.Shape head (shapes.Circle radius)) = refl
placings_are past records.Pad = refl
placings_are past r = refl

undrawn : (r : OasRecord) (all : List OasRecord) (offsets : List Point) → has_pair r ≡ false → shapes_drawn r all offsets ≡ []
undrawn (records.Shape head kind) all offsets e = absurd (cc)
undrawn r all offsets e = refl

shapes_by : (has wanted : Bool) (drawn : List Shape) → (has ≡ false → drawn ≡ [])
    → shapes_if (if has then Some wanted else None) drawn ≡ (if wanted then drawn else [])
shapes_by true true drawn none = refl
shapes_by true false drawn none = refl
shapes_by false true drawn none = sym (none refl)
shapes_by false false drawn none = refl

pub shapes_wanted : (wanted : List Pair) (past : List OasRecord) (r : OasRecord) (offsets : List Point)
    → shapes_if (wanting_of wanted past r) (shapes_drawn r (r ∷ past) offsets)
    ≡ (if is_wanted wanted (r ∷ past) then shapes_drawn r (r ∷ past) offsets else [])
shapes_wanted wanted past r offsets =
    shapes_by (has_pair r) (is_wanted wanted (r ∷ past)) (shapes_drawn r (r ∷ past) offsets) (undrawn r (r ∷ past) offsets)

-- ---- repetitions

pub repetition_is : (written last : Option Rep) → repetition_kept (is_there written) last ≡ repetition_by written last
repetition_is None last = refl
repetition_is (Some rep) last = refl

in_force : (past : List OasRecord) (r : OasRecord) → begins_cell r ≡ false
    → repetition_of (r ∷ past) ≡ or_else (repetition_written r) (repetition_of past)
unfolding repetition_of
in_force past r e = rw e refl

-- a repetition as it is written is allowed where the one in force is
written_allowed : (written last : Option Rep) → HasDimensionsIn (repetition_by written (or_else (the_written written) last)) → HasDimensionsIn written
written_allowed None last h = tt
written_allowed (Some reps.Same) last h = All-nil IsDimension
written_allowed (Some rep) last h = h

-- and the one in force where it is, and the last one was
force_allowed : (written last : Option Rep) → HasDimensionsIn written → HasDimensionsIn last
    → HasDimensionsIn (repetition_by written (or_else (the_written written) last))
force_allowed None last h before = tt
force_allowed (Some reps.Same) last h before = before
force_allowed (Some rep) last h before = h

written_kept : (past : List OasRecord) (r : OasRecord) → begins_cell r ≡ false
    → HasDimensionsIn (repetition_at past r) → HasDimensionsIn (repetition_in r)
written_kept past r e h =
    written_allowed (repetition_in r) (repetition_of past) (subst (λ q. HasDimensionsIn (repetition_by (repetition_in r) q)) (in_force past r e) h)

force_kept : (past : List OasRecord) (r : OasRecord) → begins_cell r ≡ false → HasDimensionsIn (repetition_of past)
    → HasDimensionsIn (repetition_in r) → HasDimensionsIn (repetition_at past r)
force_kept past r e before h =
    subst (λ q. HasDimensionsIn (repetition_by (repetition_in r) q)) (sym (in_force past r e)) (force_allowed (repetition_in r) (repetition_of past) h before)

-- ---- dimensions of shapes

figure_dimension : (figure : Figure) (at : Point) (rep : Option Rep) (rule : ℕ) → FigureKeeps (Some figure) at rep rule → rule ≡ 11 → HasDimensionsIn rep
figure_dimension figure at rep rule k e = k.dimension e

polygon_dimension : (points : Option Deltas) (at : Point) (rep : Option Rep) (rule : ℕ) → is_there points ≡ true → PolygonKeeps points at rep rule
    → rule ≡ 11 → HasDimensionsIn rep
polygon_dimension None at rep rule there k e = absurd (cc)
polygon_dimension (Some points) at rep rule there k e = k.dimension e

path_dimension : (points : Option Deltas) (at : Point) (brush : Brush) (rep : Option Rep) (rule : ℕ) → is_there points ≡ true
    → PathKeeps points at brush rep rule → rule ≡ 11 → HasDimensionsIn rep
path_dimension None at brush rep rule there k e = absurd (cc)
path_dimension (Some points) at brush rep rule there k e = k.dimension e

-- a variable that is defined, and the next ones
step : (b : Bool) (variable : Variable) (rest : Option Variable) → (if b then rest else Some variable) ≡ None → (b ≡ true) × (rest ≡ None)
step true variable rest e = (refl, e)
step false variable rest e = absurd (cc)

defined_step : (all : List OasRecord) (variable : Variable) (variables : List Variable) → first_undefined all (variable ∷ variables) ≡ None
    → (is_defined all variable ≡ true) × (first_undefined all variables ≡ None)
defined_step all variable variables e = step (is_defined all variable) variable (first_undefined all variables) e

third : (all : List OasRecord) (a b c : Variable) (rest : List Variable) → first_undefined all (a ∷ b ∷ c ∷ rest) ≡ None → is_defined all c ≡ true
third all a b c rest e =
    let one = defined_step all a (b ∷ c ∷ rest) e in
    let two = defined_step all b (c ∷ rest) one.1 in
    (defined_step all c rest two.1).0

sixth : (all : List OasRecord) (a b c d f g : Variable) (rest : List Variable)
    → first_undefined all (a ∷ b ∷ c ∷ d ∷ f ∷ g ∷ rest) ≡ None → is_defined all g ≡ true
sixth all a b c d f g rest e =
    let one = defined_step all a (b ∷ c ∷ d ∷ f ∷ g ∷ rest) e in
    let two = defined_step all b (c ∷ d ∷ f ∷ g ∷ rest) one.1 in
    let three = defined_step all c (d ∷ f ∷ g ∷ rest) two.1 in
    third all d f g rest three.1

-- ---- all rules of a record

-- what is known of a record before its geometry
pub record IsLookedAt (bytes : List ℕ) (past : List OasRecord) (r : OasRecord) (dims : Bool) (rule : ℕ) : Type 0 where
  pub positions : rule ≡ 1 → ArePositionsNear (r ∷ past)
  pub version : KeepsVersionBy bytes (body_of r)
  pub scheme : KeepsSchemeBy (body_of r)
  pub dimensions : IsTrue dims ↔ HasDimensionsIn (repetition_in r)
  pub defined : undefined_of past r ≡ None
  pub own : rule ≡ 2 → KeepsOwnName bytes r

keeps_all : (bytes : List ℕ) (wanted : List Pair) (past : List OasRecord) (r : OasRecord) (rule : ℕ) → (rule ≡ 1 → ArePositionsNear (r ∷ past))
    → (rule ≡ 1 → KeepsOffsets past r) → (rule ≡ 2 → KeepsName bytes r) → (rule ≡ 4 → KeepsMagnification r) → (rule ≡ 5 → KeepsAngle r)
    → (rule ≡ 7 → KeepsToOthers (is_wanted wanted (r ∷ past)) r) → (rule ≡ 9 → KeepsVersion bytes r)
    → (rule ≡ 10 → KeepsScheme r) → (rule ≡ 11 → HasDimensionsIn (repetition_in r))
    → (IsTrue (is_wanted wanted (r ∷ past)) → KeepsDrawn r (r ∷ past) (repetition_at past r) rule) → KeepsOasisRule bytes wanted past r rule
keeps_all bytes wanted past r rule positions offsets name magnification angle other version scheme dimension drawn = record {
  positions = positions;
  offsets = offsets;
  name = name;
  magnification = magnification;
  angle = angle;
  other = other;
  version = version;
  scheme = scheme;
  dimension = dimension;
  drawn = drawn;
}

-- on a wanted pair, or not
either : {A : Type 0} (wanted : Bool) → (IsTrue wanted → A) → ((Some wanted ≡ Some true → ⊥) → A) → A
either true on off = on refl
either false on off = off (λ e. absurd (cc))

shape_begins : (head : ShapeHead) (kind : ShapeKind) → begins_cell (records.Shape head kind) ≡ false
shape_begins head (shapes.Circle radius) = refl
shape_begins head kind = refl

-- all rules of a shape: those of its dimensions, of CIRCLE and XGEOMETRY, and of what is drawn
shape_all : (bytes : List ℕ) (wanted : List Pair) (past : List OasRecord) (head : ShapeHead) (kind : ShapeKind) (dims : Bool) (rule : ℕ)
    → IsLookedAt bytes past (records.Shape head kind) dims rule
    → ((Some (is_wanted wanted (records.Shape head kind ∷ past)) ≡ Some true → ⊥) → rule ≡ 11 → IsTrue dims)
    → (IsTrue (is_wanted wanted (records.Shape head kind ∷ past)) → rule ≡ 11 → HasDimensionsIn (repetition_at past (records.Shape head kind)))
    → (rule ≡ 7 → KeepsToOthers (is_wanted wanted (records.Shape head kind ∷ past)) (records.Shape head kind))
    → (IsTrue (is_wanted wanted (records.Shape head kind ∷ past))
    → KindKeeps head kind (records.Shape head kind ∷ past) (repetition_at past (records.Shape head kind)) rule)
    → KeepsOasisRule bytes wanted past (records.Shape head kind) rule
shape_all bytes wanted past head kind dims rule l off on other drawn =
    let r = records.Shape head kind in
    keeps_all bytes wanted past r rule l.positions (λ e. tt) (λ e. tt) (λ e. tt) (λ e. tt) other (λ e. tt) (λ e. tt)
    (λ e. either (is_wanted wanted (r ∷ past)) (λ yes. written_kept past r (shape_begins head kind) (on yes e)) (λ no. l.dimensions.0 (off no e)))
    drawn

shape_kept : (bytes : List ℕ) (wanted : List Pair) (past : List OasRecord) (head : ShapeHead) (kind : ShapeKind) (dims : Bool) (rule : ℕ)
    → IsLookedAt bytes past (records.Shape head kind) dims rule
    → (rule ≡ 11 → KeepsGeometry bytes (shape_body head.info kind) dims (Some (is_wanted wanted (records.Shape head kind ∷ past)))
    (fields_at (records.Shape head kind ∷ past)) (repetition_at past (records.Shape head kind)) 7)
    → KeepsGeometry bytes (shape_body head.info kind) dims (Some (is_wanted wanted (records.Shape head kind ∷ past)))
    (fields_at (records.Shape head kind ∷ past)) (repetition_at past (records.Shape head kind)) rule
    → KeepsOasisRule bytes wanted past (records.Shape head kind) rule
shape_kept bytes wanted past head (shapes.Polygon points) dims rule l s g =
    let there = third (records.Shape head (shapes.Polygon points) ∷ past) Layer Datatype PolygonPoints _ l.defined in
    shape_all bytes wanted past head (shapes.Polygon points) dims rule l g.dimension
    (λ on. polygon_dimension _ _ _ rule there (g.drawn (ap Some on))) (λ e. tt) (λ on. g.drawn (ap Some on))
shape_kept bytes wanted past head (shapes.Path half_width extension start end points) dims rule l s g =
    let kind = shapes.Path half_width extension start end points in
    let there = sixth (records.Shape head kind ∷ past) Layer Datatype PathHalfWidth PathStart PathEnd PathPoints _ l.defined in
    shape_all bytes wanted past head kind dims rule l g.dimension
    (λ on. path_dimension _ _ _ _ rule there (g.drawn (ap Some on))) (λ e. tt) (λ on. g.drawn (ap Some on))
shape_kept bytes wanted past head (shapes.Circle radius) dims rule l s g =
    shape_all bytes wanted past head (shapes.Circle radius) dims rule l g.dimension
    (λ on e. absurd ((s e).drawn (ap Some on) refl)) (λ e on. g.drawn (ap Some on) e) (λ on. tt)
shape_kept bytes wanted past head (shapes.XGeometry attribute text) dims rule l s g =
    shape_all bytes wanted past head (shapes.XGeometry attribute text) dims rule l g.dimension
    (λ on e. absurd ((s e).drawn (ap Some on) refl)) (λ e on. g.drawn (ap Some on) e) (λ on. tt)
shape_kept bytes wanted past head kind dims rule l s g =
    shape_all bytes wanted past head kind dims rule l g.dimension
    (λ on. figure_dimension _ _ _ rule (g.drawn (ap Some on))) (λ e. tt) (λ on. g.drawn (ap Some on))

-- a record that keeps the rules of its geometry keeps all
pub keeps_geometry : (bytes : List ℕ) (wanted : List Pair) (past : List OasRecord) (r : OasRecord) (dims : Bool) (rule : ℕ)
    → IsLookedAt bytes past r dims rule
    → (rule ≡ 11 → KeepsGeometry bytes (body_of r) dims (wanting_of wanted past r) (fields_at (r ∷ past)) (repetition_at past r) 7)
    → KeepsGeometry bytes (body_of r) dims (wanting_of wanted past r) (fields_at (r ∷ past)) (repetition_at past r) rule
    → KeepsOasisRule bytes wanted past r rule
keeps_geometry bytes wanted past (records.Start version unit offset_flag tables) dims rule l s g =
    keeps_all bytes wanted past _ rule l.positions (λ e. tt) (λ e. tt) (λ e. tt) (λ e. tt) (λ e. tt) (λ e. l.version) (λ e. tt) (λ e. tt) (λ e. tt)
keeps_geometry bytes wanted past (records.End tables padding scheme validation) dims rule l s g =
    keeps_all bytes wanted past _ rule l.positions (λ e. tt) (λ e. tt) (λ e. tt) (λ e. tt) (λ e. tt) (λ e. tt) (λ e. l.scheme) (λ e. tt) (λ e. tt)
keeps_geometry bytes wanted past (records.Name kinds.Cell text number) dims rule l s g =
    keeps_all bytes wanted past _ rule l.positions (λ e. tt) l.own (λ e. tt) (λ e. tt) (λ e. tt) (λ e. tt) (λ e. tt) (λ e. tt) (λ e. tt)
keeps_geometry bytes wanted past (records.Cell name) dims rule l s g =
    keeps_all bytes wanted past _ rule l.positions (λ e. tt) l.own (λ e. tt) (λ e. tt) (λ e. tt) (λ e. tt) (λ e. tt) (λ e. tt) (λ e. tt)
keeps_geometry bytes wanted past (records.Placement info cell None x y repetition) dims rule l s g =
    keeps_all bytes wanted past _ rule l.positions g.near g.name (λ e. tt) (λ e. tt) (λ e. tt) (λ e. tt) (λ e. tt)
    (λ e. written_kept past (records.Placement info cell None x y repetition) refl (g.dimension e)) (λ e. tt)
keeps_geometry bytes wanted past (records.Placement info cell (Some turn) x y repetition) dims rule l s g =
    keeps_all bytes wanted past _ rule l.positions g.near g.name g.magnification g.angle (λ e. tt) (λ e. tt) (λ e. tt)
    (λ e. written_kept past (records.Placement info cell (Some turn) x y repetition) refl (g.dimension e)) (λ e. tt)
keeps_geometry bytes wanted past (records.Text info text textlayer texttype x y repetition) dims rule l s g =
    keeps_all bytes wanted past _ rule l.positions (λ e. tt) (λ e. tt) (λ e. tt) (λ e. tt) (λ e. tt) (λ e. tt) (λ e. tt)
    (λ e. l.dimensions.0 (g.dimension (λ e. absurd (cc)) e)) (λ e. tt)
keeps_geometry bytes wanted past (records.Shape head kind) dims rule l s g = shape_kept bytes wanted past head kind dims rule l s g
keeps_geometry bytes wanted past r dims rule l s g =
    keeps_all bytes wanted past r rule l.positions (λ e. tt) (λ e. tt) (λ e. tt) (λ e. tt) (λ e. tt) (λ e. tt) (λ e. tt) (λ e. tt) (λ e. tt)

some_is : (b : Bool) → Some b ≡ Some true → IsTrue b
some_is true e = refl
some_is false e = absurd (cc)

shape_geometry : (bytes : List ℕ) (wanted : List Pair) (past : List OasRecord) (head : ShapeHead) (kind : ShapeKind) (dims : Bool) (rule : ℕ)
    → (IsTrue dims ↔ HasDimensionsIn head.repetition) → KeepsOasisRule bytes wanted past (records.Shape head kind) rule
    → KeepsGeometry bytes (shape_body head.info kind) dims (Some (is_wanted wanted (records.Shape head kind ∷ past)))
    (fields_at (records.Shape head kind ∷ past)) (repetition_at past (records.Shape head kind)) rule
shape_geometry bytes wanted past head (shapes.Circle radius) dims rule d k =
    record { drawn = λ on seven. k.other seven (some_is _ on); dimension = λ off e. d.1 (k.dimension e) }
shape_geometry bytes wanted past head (shapes.XGeometry attribute text) dims rule d k =
    record { drawn = λ on seven. k.other seven (some_is _ on); dimension = λ off e. d.1 (k.dimension e) }
shape_geometry bytes wanted past head kind dims rule d k =
    record { drawn = λ on. k.drawn (some_is _ on); dimension = λ off e. d.1 (k.dimension e) }

-- a record that keeps all rules keeps those of its geometry
pub geometry_keeps : (bytes : List ℕ) (wanted : List Pair) (past : List OasRecord) (r : OasRecord) (dims : Bool) (rule : ℕ)
    → (IsTrue dims ↔ HasDimensionsIn (repetition_in r)) → HasDimensionsIn (repetition_of past) → KeepsOasisRule bytes wanted past r rule
    → KeepsGeometry bytes (body_of r) dims (wanting_of wanted past r) (fields_at (r ∷ past)) (repetition_at past r) rule
geometry_keeps bytes wanted past (records.Name kinds.Cell text number) dims rule d before k =
    record { drawn = λ on. absurd (cc); dimension = λ off e. d.1 (k.dimension e) }
geometry_keeps bytes wanted past (records.Placement info cell None x y repetition) dims rule d before k = record {
  near = k.offsets;
  name = k.name;
  magnification = λ e. tt;
  angle = λ e. tt;
  dimension = λ e. force_kept past (records.Placement info cell None x y repetition) refl before (k.dimension e);
}
geometry_keeps bytes wanted past (records.Placement info cell (Some turn) x y repetition) dims rule d before k = record {
  near = k.offsets;
  name = k.name;
  magnification = k.magnification;
  angle = k.angle;
  dimension = λ e. force_kept past (records.Placement info cell (Some turn) x y repetition) refl before (k.dimension e);
}
geometry_keeps bytes wanted past (records.Shape head kind) dims rule d before k = shape_geometry bytes wanted past head kind dims rule d k
geometry_keeps bytes wanted past r dims rule d before k = record { drawn = λ on. absurd (cc); dimension = λ off e. d.1 (k.dimension e) }

-- one that breaks a rule of its geometry has no name of its own to look at
pub own_kept : (bytes : List ℕ) (wanted : List Pair) (past : List OasRecord) (r : OasRecord) (dims : Bool) (rule : ℕ)
    → (IsTrue dims ↔ HasDimensionsIn (repetition_in r))
    → (KeepsGeometry bytes (body_of r) dims (wanting_of wanted past r) (fields_at (r ∷ past)) (repetition_at past r) rule → ⊥) → KeepsOwnName bytes r
own_kept bytes wanted past (records.Name kinds.Cell text number) dims rule d wrong =
    absurd (wrong (record { drawn = λ on. absurd (cc); dimension = λ off e. d.1 tt }))
own_kept bytes wanted past (records.Cell name) dims rule d wrong = absurd (wrong (record { drawn = λ on. absurd (cc); dimension = λ off e. d.1 tt }))
own_kept bytes wanted past r dims rule d wrong = tt

-- ---- rules that are broken before

figure_below : (figure : Option Figure) (at : Point) (rep : Option Rep) (rule : ℕ) → rule < 1 → FigureKeeps figure at rep rule
figure_below None at rep rule less = tt
figure_below (Some figure) at rep rule less = record {
  near = λ e. absurd (omega arith);
  edges = λ e. absurd (omega arith);
  dimension = λ e. absurd (omega arith);
}

polygon_below : (points : Option Deltas) (at : Point) (rep : Option Rep) (rule : ℕ) → rule < 1 → PolygonKeeps points at rep rule
polygon_below None at rep rule less = tt
polygon_below (Some points) at rep rule less = record {
  near = λ e. absurd (omega arith);
  edges = λ e. absurd (omega arith);
  dimension = λ e. absurd (omega arith);
}

path_below : (points : Option Deltas) (at : Point) (brush : Brush) (rep : Option Rep) (rule : ℕ) → rule < 1 → PathKeeps points at brush rep rule
path_below None at brush rep rule less = tt
path_below (Some points) at brush rep rule less = record {
  near = λ e. absurd (omega arith);
  drawn = λ e. absurd (omega arith);
  dimension = λ e. absurd (omega arith);
}

kind_below : (head : ShapeHead) (kind : ShapeKind) (all : List OasRecord) (rep : Option Rep) (rule : ℕ) → rule < 1 → KindKeeps head kind all rep rule
kind_below head (shapes.Polygon points) all rep rule less = polygon_below (polygon_points_of all) (at_of all) rep rule less
kind_below head (shapes.Path half_width extension start end points) all rep rule less =
    path_below (path_points_of all) (at_of all) (brush_of all) rep rule less
kind_below head kind all rep rule less = figure_below (figure_of head kind all) (at_of all) rep rule less

-- there is no rule 0
drawn_below : (r : OasRecord) (all : List OasRecord) (rep : Option Rep) (rule : ℕ) → rule < 1 → KeepsDrawn r all rep rule
drawn_below (records.Shape head kind) all rep rule less = kind_below head kind all rep rule less
drawn_below r all rep rule less = tt

pub positions_lowest : (bytes : List ℕ) (wanted : List Pair) (past : List OasRecord) (r : OasRecord) → (ArePositionsNear (r ∷ past) → ⊥)
    → IsLowest (KeepsOasisRule bytes wanted past r) 1
positions_lowest bytes wanted past r wrong = record {
  broken = λ k. wrong (k.positions refl);
  lower = λ other less.
      keeps_all bytes wanted past r other (λ e. absurd (omega arith)) (λ e. absurd (omega arith)) (λ e. absurd (omega arith)) (λ e. absurd (omega arith))
      (λ e. absurd (omega arith)) (λ e. absurd (omega arith)) (λ e. absurd (omega arith)) (λ e. absurd (omega arith)) (λ e. absurd (omega arith))
      (λ on. drawn_below r (r ∷ past) (repetition_at past r) other less);
}

pub version_lowest : (bytes : List ℕ) (wanted : List Pair) (past : List OasRecord) (r : OasRecord) → (KeepsVersionBy bytes (body_of r) → ⊥)
    → ArePositionsNear (r ∷ past) → IsLowest (KeepsOasisRule bytes wanted past r) 9
version_lowest bytes wanted past (records.Start version unit offset_flag tables) wrong near = record {
  broken = λ k. wrong (k.version refl);
  lower = λ other less.
      keeps_all bytes wanted past (records.Start version unit offset_flag tables) other (λ e. near) (λ e. tt) (λ e. tt)
      (λ e. tt) (λ e. tt) (λ e. tt) (λ e. absurd (omega arith)) (λ e. tt) (λ e. tt) (λ e. tt);
}
version_lowest bytes wanted past (records.Name kinds.Cell text number) wrong near = absurd (wrong tt)
version_lowest bytes wanted past (records.Shape head (shapes.Circle radius)) wrong near = absurd (wrong tt)
version_lowest bytes wanted past r wrong near = absurd (wrong tt)

pub scheme_lowest : (bytes : List ℕ) (wanted : List Pair) (past : List OasRecord) (r : OasRecord) → (KeepsSchemeBy (body_of r) → ⊥)
    → ArePositionsNear (r ∷ past) → IsLowest (KeepsOasisRule bytes wanted past r) 10
scheme_lowest bytes wanted past (records.End tables padding scheme validation) wrong near = record {
  broken = λ k. wrong (k.scheme refl);
  lower = λ other less.
      keeps_all bytes wanted past (records.End tables padding scheme validation) other (λ e. near) (λ e. tt) (λ e. tt)
      (λ e. tt) (λ e. tt) (λ e. tt) (λ e. tt) (λ e. absurd (omega arith)) (λ e. tt) (λ e. tt);
}
scheme_lowest bytes wanted past (records.Name kinds.Cell text number) wrong near = absurd (wrong tt)
scheme_lowest bytes wanted past (records.Shape head (shapes.Circle radius)) wrong near = absurd (wrong tt)
scheme_lowest bytes wanted past r wrong near = absurd (wrong tt)

last_allowed : (written last : Option Rep) → HasDimensionsIn written → HasDimensionsIn last → HasDimensionsIn (or_else (the_written written) last)
last_allowed None last h before = before
last_allowed (Some reps.Same) last h before = before
last_allowed (Some rep) last h before = h

-- the last repetition of records that keep the rules has allowed dimensions
written_last : (past : List OasRecord) (r : OasRecord) → HasDimensionsIn (repetition_in r) → HasDimensionsIn (repetition_of past)
    → HasDimensionsIn (or_else (repetition_written r) (repetition_of past))
written_last past r h before = last_allowed (repetition_in r) (repetition_of past) h before

repetition_behind : (past : List OasRecord) (r : OasRecord) (b : Bool) → begins_cell r ≡ b
    → repetition_of (r ∷ past) ≡ (if b then None else or_else (repetition_written r) (repetition_of past))
unfolding repetition_of
repetition_behind past r b e = rw e refl

allowed_behind : (past : List OasRecord) (r : OasRecord) (b : Bool) → begins_cell r ≡ b → HasDimensionsIn (repetition_in r)
    → HasDimensionsIn (repetition_of past) → HasDimensionsIn (repetition_of (r ∷ past))
allowed_behind past r true e h before = subst HasDimensionsIn (sym (repetition_behind past r true e)) tt
allowed_behind past r false e h before = subst HasDimensionsIn (sym (repetition_behind past r false e)) (written_last past r h before)

nothing_last : repetition_of [] ≡ None
unfolding repetition_of
nothing_last = refl

pub dimensions_behind : (bytes : List ℕ) (unit : ℕ) (wanted : List Pair) (past : List Item) (at : ℕ) → AreItemsAllowed bytes unit wanted past at
    → HasDimensionsIn (repetition_of (records_in past))
dimensions_behind bytes unit wanted [] at allowed = subst HasDimensionsIn (sym nothing_last) tt
dimensions_behind bytes unit wanted (last ∷ past) at allowed =
    allowed_behind (records_in past) last.r (begins_cell last.r) refl ((allowed.1.rules 11).dimension refl)
    (dimensions_behind bytes unit wanted past last.at allowed.2)
