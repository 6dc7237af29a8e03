-- What a record draws or places, by what the program keeps of it.
use Rattle.std.specs.Prelude.{◌≡◌, ◌+◌, ℕ, Bool, true, false, nat_eq, List, Option, Some, None}
use Rattle.geo_stream.specs.declared.refusal.Refusal.{Refusal}
use Rattle.geo_stream.specs.declared.refusal.Refusal.TheVariants.{Fault, NoMemory}
use Rattle.half_grid.specs.declared.plane.Point.{Point}
use Rattle.layout_model.specs.declared.cells.Counts.{Counts}
use Rattle.layout_model.specs.declared.pair.Pair.{Pair}
use Rattle.layout_model.specs.declared.shapes.Shape.{Shape}
use Rattle.oas_record.specs.declared.fields.Deltas.{Deltas}
use Rattle.oas_record.specs.declared.repetition.Rep.{Rep}
use Rattle.oas_fields.specs.Values.{or_zero}
use Rattle.oas_fields.specs.declared.fields.Fields.{Fields}
use Rattle.oas_shapes.specs.Repetitions.{offsets_in}
use Rattle.oas_shapes.specs.Rules.{IsLowest}
use Rattle.oas_shapes.specs.Short.{HasFewPoints, HasFewVertices}
use Rattle.oas_shapes.specs.declared.drawing.Undrawn.{Undrawn}
use Rattle.oas_shapes.specs.declared.drawing.Undrawn.TheVariants as undrawns
use Rattle.oas_shapes.specs.declared.figures.Brush.{Brush}
use Rattle.oas_shapes.specs.declared.figures.Figure.{Figure}
use Rattle.oas_shapes.specs.declared.figures.Figure.TheVariants as figures
use Rattle.oas_reader.specs.Meaning.{or_none, point_at, trapezoid, figure_shapes, polygon_shapes, path_shapes}
use Rattle.oas_reader.specs.Rules.{FigureKeeps, PolygonKeeps, PathKeeps}
use Rattle.oas_reader.specs.declared.bodies.Body.{Body}
use Rattle.oas_reader.specs.declared.bodies.Body.TheVariants as bodies
use Rattle.oas_reader.specs.declared.refusing.OasBad.{OasBad}
use Rattle.oas_reader.specs.declared.refusing.OasBad.TheVariants as faults

-- ---- values that are there

abbrev pub pair_in : Fields → Pair
pair_in fields = record { layer = or_none fields.layer; datatype = or_none fields.datatype }

abbrev pub at_in : Fields → Point
at_in fields = point_at fields.geometry

abbrev pub brush_in : Fields → Brush
brush_in fields = record {
  half_width = or_none fields.half_width;
  start = or_zero fields.start;
  end = or_zero fields.end;
}

-- the repetition in force, where one is written
abbrev pub repetition_kept : Bool → Option Rep → Option Rep
repetition_kept true last = last
repetition_kept false last = None

-- ---- shapes

abbrev pub figure_in : Body → Fields → Option Figure
figure_in bodies.Rectangle fields = Some (figures.Rectangle (or_none fields.width) (or_none fields.height))
figure_in (bodies.Trapezoid is_upright a b) fields =
    Some (trapezoid is_upright (or_none fields.width) (or_none fields.height) a b)
figure_in bodies.Ctrapezoid fields =
    Some (figures.Ctrapezoid (or_none fields.kind) (or_none fields.width) (or_none fields.height))
figure_in _ fields = None

-- the shapes of a body on a wanted pair
abbrev pub shapes_in : Body → Fields → Option Rep → List Shape
shapes_in bodies.Polygon fields rep = polygon_shapes fields.polygon_points (pair_in fields) (at_in fields) (offsets_in rep)
shapes_in bodies.Path fields rep =
    path_shapes fields.path_points (pair_in fields) (at_in fields) (brush_in fields) (offsets_in rep)
shapes_in body fields rep = figure_shapes (figure_in body fields) (pair_in fields) (at_in fields) (offsets_in rep)

-- it keeps the rule
abbrev pub KeepsDrawnIn : Body → Fields → Option Rep → ℕ → Type 0
KeepsDrawnIn bodies.Polygon fields rep rule = PolygonKeeps fields.polygon_points (at_in fields) rep rule
KeepsDrawnIn bodies.Path fields rep rule = PathKeeps fields.path_points (at_in fields) (brush_in fields) rep rule
KeepsDrawnIn body fields rep rule = FigureKeeps (figure_in body fields) (at_in fields) rep rule

-- CIRCLE and XGEOMETRY keep none
abbrev pub KeepsWantedIn : Body → Fields → Option Rep → ℕ → Type 0
KeepsWantedIn bodies.Undrawn fields rep rule = rule ≡ 7 → ⊥
KeepsWantedIn body fields rep rule = KeepsDrawnIn body fields rep rule

-- the point list of a POLYGON or a PATH is short: it is gone through without memory
abbrev pub HasShortPolygon : Option Deltas → Type 0
HasShortPolygon None = Unit {0}
HasShortPolygon (Some points) = HasFewVertices points

abbrev pub HasShortPath : Option Deltas → Type 0
HasShortPath None = Unit {0}
HasShortPath (Some points) = HasFewPoints points

abbrev pub HasShortList : Body → Fields → Type 0
HasShortList bodies.Polygon fields = HasShortPolygon fields.polygon_points
HasShortList bodies.Path fields = HasShortPath fields.path_points
HasShortList body fields = Unit {0}

-- ---- counts

abbrev pub with_kept : Counts → Counts
with_kept counts = record counts { kept = counts.kept + 1 }

abbrev pub with_other : Counts → Counts
with_other counts = record counts { other = counts.other + 1 }

abbrev pub with_body : Body → Counts → Counts
with_body bodies.Text counts = record counts { texts = counts.texts + 1 }
with_body bodies.Property counts = record counts { properties = counts.properties + 1 }
with_body _ counts = counts

abbrev pub with_record : Option Bool → Body → Counts → Counts
with_record (Some true) body counts = with_kept counts
with_record (Some false) body counts = with_other counts
with_record None body counts = with_body body counts

-- ---- refusals

-- the lowest rule that isn't kept, at this offset
abbrev pub IsRefusedBy : (ℕ → Type 0) → ℕ → OasBad → Type 0
IsRefusedBy Kept at bad = (rule : ℕ) × (bad ≡ faults.Value at rule) × IsLowest Kept rule

-- the refusal at this offset of what can't be drawn or placed
abbrev pub bad_at : Undrawn → ℕ → Refusal OasBad
bad_at (undrawns.Rule rule) at = Fault (faults.Value at rule)
bad_at undrawns.NoMemory at = NoMemory

-- it comes before those of the name and of the turning
abbrev pub is_first : Undrawn → Bool
is_first (undrawns.Rule rule) = nat_eq rule 1
is_first undrawns.NoMemory = true
