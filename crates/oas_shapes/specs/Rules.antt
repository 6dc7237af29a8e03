-- The rules that the values of a shape must keep, by their numbers: 1 nothing is more than 2^40 grid steps from 0, 6 each
-- edge is level, upright or goes up or down by 45 degrees, 8 a path can be drawn, 11 a repetition's dimension is at most
-- 16,777,216.
use Rattle.std.specs.Prelude.{◌≡◌, ◌≢◌, ◌<◌, ◌≤◌, ◌^◌, ℕ, pos, Option, List, All}
use Rattle.half_grid.specs.Halves.{twice}
use Rattle.half_grid.specs.Outlines.{HasGridEdges}
use Rattle.half_grid.specs.declared.plane.Point.{Point}
use Rattle.layout_model.specs.Paths.{IsDrawable}
use Rattle.oas_record.specs.declared.fields.Deltas.{Deltas}
use Rattle.oas_record.specs.declared.repetition.Rep.{Rep}
use Rattle.oas_shapes.specs.Plane.{IsLength, IsNearInHalves}
use Rattle.oas_shapes.specs.Figures.{IsSized}
use Rattle.oas_shapes.specs.Repetitions.{offsets_of, offsets_in, HasDimensions, HasDimensionsIn}
use Rattle.oas_shapes.specs.Outlines.{figure_outline, polygon_outline, path_points, half_of}
use Rattle.oas_shapes.specs.declared.figures.Figure.{Figure}
use Rattle.oas_shapes.specs.declared.figures.Brush.{Brush}

abbrev pub AreNear : List Point → Type 0
AreNear points = All IsNearInHalves points

pub record IsBrush (brush : Brush) : Type 0 where
  pub half_width : brush.half_width ≤ 2 ^ 40
  pub start : IsLength brush.start
  pub end : IsLength brush.end

-- ---- by record

-- the repetition of a placement keeps the rule
pub record KeepsRepetition (rep : Rep) (rule : ℕ) : Type 0 where
  pub near : rule ≡ 1 → AreNear (offsets_of rep)
  pub dimension : rule ≡ 11 → HasDimensions rep

-- a shape of this outline with this repetition, or none, keeps the rule
pub record KeepsShape (outline : List Point) (rep : Option Rep) (rule : ℕ) : Type 0 where
  pub near : rule ≡ 1 → AreNear (offsets_in rep)
  pub edges : rule ≡ 6 → HasGridEdges outline
  pub dimension : rule ≡ 11 → HasDimensionsIn rep

-- a RECTANGLE, a TRAPEZOID or a CTRAPEZOID at this position with this repetition, or none, keeps the rule
pub record KeepsFigure (at : Point) (figure : Figure) (rep : Option Rep) (rule : ℕ) : Type 0 where
  pub near : rule ≡ 1 → IsSized figure × AreNear (figure_outline at figure) × AreNear (offsets_in rep)
  pub edges : rule ≡ 6 → HasGridEdges (figure_outline at figure)
  pub dimension : rule ≡ 11 → HasDimensionsIn rep

pub record KeepsPolygon (at : Point) (deltas : Deltas) (rep : Option Rep) (rule : ℕ) : Type 0 where
  pub near : rule ≡ 1 → AreNear (polygon_outline at deltas) × AreNear (offsets_in rep)
  pub edges : rule ≡ 6 → HasGridEdges (polygon_outline at deltas)
  pub dimension : rule ≡ 11 → HasDimensionsIn rep

-- one without width is drawn wherever it goes
abbrev pub IsPathDrawn : Point → Brush → Deltas → Type 0
IsPathDrawn at brush deltas =
    half_of brush ≢ pos 0 → IsDrawable (path_points at deltas) (half_of brush) (twice brush.start) (twice brush.end)

pub record KeepsOasisPath (at : Point) (brush : Brush) (deltas : Deltas) (rep : Option Rep) (rule : ℕ) : Type 0 where
  pub near : rule ≡ 1 → IsBrush brush × AreNear (path_points at deltas) × AreNear (offsets_in rep)
  pub drawn : rule ≡ 8 → IsPathDrawn at brush deltas
  pub dimension : rule ≡ 11 → HasDimensionsIn rep

-- this rule isn't kept, and those with lower numbers are
pub record IsLowest (Kept : ℕ → Type 0) (rule : ℕ) : Type 0 where
  pub broken : ¬ Kept rule
  pub lower : (other : ℕ) → other < rule → Kept other
