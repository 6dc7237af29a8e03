-- Which rule is the lowest that a shape breaks.
use Rattle.std.proofs.Common.{ℕ, refl, arith}
use Rattle.std.specs.Prelude.{Option}
use Rattle.half_grid.specs.declared.plane.Point.{Point}
use Rattle.oas_record.specs.declared.fields.Deltas.{Deltas}
use Rattle.oas_record.specs.declared.repetition.Rep.{Rep}
use Rattle.oas_shapes.specs.Figures.{IsSized}
use Rattle.oas_shapes.specs.Outlines.{figure_outline, polygon_outline, path_points}
use Rattle.oas_shapes.specs.Rules.{AreNear, IsBrush, KeepsShape, KeepsFigure, KeepsPolygon, KeepsOasisPath, IsLowest}
use Rattle.oas_shapes.specs.Brushes.{KeepsCourse, halves_of}
use Rattle.oas_shapes.specs.declared.figures.Figure.{Figure}
use Rattle.oas_shapes.specs.declared.figures.Brush.{Brush}

-- ---- figures and polygons, whose sizes and outlines are near

pub figure_keeps : (at : Point) (figure : Figure) (rep : Option Rep) → IsSized figure → AreNear (figure_outline at figure) → (rule : ℕ)
    → KeepsShape (figure_outline at figure) rep rule → KeepsFigure at figure rep rule
figure_keeps at figure rep sized near rule k = record { near = λ e. (sized, near, k.near e); edges = k.edges; dimension = k.dimension }

keeps_figure : (at : Point) (figure : Figure) (rep : Option Rep) (rule : ℕ) → KeepsFigure at figure rep rule
    → KeepsShape (figure_outline at figure) rep rule
keeps_figure at figure rep rule k = record { near = λ e. (k.near e).2; edges = k.edges; dimension = k.dimension }

pub figure_lowest : (at : Point) (figure : Figure) (rep : Option Rep) → IsSized figure → AreNear (figure_outline at figure) → (rule : ℕ)
    → IsLowest (KeepsShape (figure_outline at figure) rep) rule → IsLowest (KeepsFigure at figure rep) rule
figure_lowest at figure rep sized near rule low = record {
  broken = λ kept. low.broken (keeps_figure at figure rep rule kept);
  lower = λ other less. figure_keeps at figure rep sized near other (low.lower other less);
}

pub polygon_keeps : (at : Point) (deltas : Deltas) (rep : Option Rep) → AreNear (polygon_outline at deltas) → (rule : ℕ)
    → KeepsShape (polygon_outline at deltas) rep rule → KeepsPolygon at deltas rep rule
polygon_keeps at deltas rep near rule k = record { near = λ e. (near, k.near e); edges = k.edges; dimension = k.dimension }

keeps_polygon : (at : Point) (deltas : Deltas) (rep : Option Rep) (rule : ℕ) → KeepsPolygon at deltas rep rule
    → KeepsShape (polygon_outline at deltas) rep rule
keeps_polygon at deltas rep rule k = record { near = λ e. (k.near e).1; edges = k.edges; dimension = k.dimension }

pub polygon_lowest : (at : Point) (deltas : Deltas) (rep : Option Rep) → AreNear (polygon_outline at deltas) → (rule : ℕ)
    → IsLowest (KeepsShape (polygon_outline at deltas) rep) rule → IsLowest (KeepsPolygon at deltas rep) rule
polygon_lowest at deltas rep near rule low = record {
  broken = λ kept. low.broken (keeps_polygon at deltas rep rule kept);
  lower = λ other less. polygon_keeps at deltas rep near other (low.lower other less);
}

pub polygon_far : (at : Point) (deltas : Deltas) (rep : Option Rep) → ¬ AreNear (polygon_outline at deltas) → IsLowest (KeepsPolygon at deltas rep) 1
polygon_far at deltas rep far = record {
  broken = λ kept. far (kept.near refl).0;
  lower = λ other less. record {
    near = λ e. absurd (omega (arith, less, e));
    edges = λ e. absurd (omega (arith, less, e));
    dimension = λ e. absurd (omega (arith, less, e));
  };
}

-- ---- paths

pub path_keeps : (at : Point) (brush : Brush) (deltas : Deltas) (rep : Option Rep) → IsBrush brush → AreNear (path_points at deltas) → (rule : ℕ)
    → KeepsCourse (halves_of brush) (path_points at deltas) rep rule → KeepsOasisPath at brush deltas rep rule
path_keeps at brush deltas rep short near rule k = record { near = λ e. (short, near, k.near e); drawn = k.drawn; dimension = k.dimension }

keeps_path : (at : Point) (brush : Brush) (deltas : Deltas) (rep : Option Rep) (rule : ℕ) → KeepsOasisPath at brush deltas rep rule
    → KeepsCourse (halves_of brush) (path_points at deltas) rep rule
keeps_path at brush deltas rep rule k = record { near = λ e. (k.near e).2; drawn = k.drawn; dimension = k.dimension }

pub path_lowest : (at : Point) (brush : Brush) (deltas : Deltas) (rep : Option Rep) → IsBrush brush → AreNear (path_points at deltas) → (rule : ℕ)
    → IsLowest (KeepsCourse (halves_of brush) (path_points at deltas) rep) rule → IsLowest (KeepsOasisPath at brush deltas rep) rule
path_lowest at brush deltas rep short near rule low = record {
  broken = λ kept. low.broken (keeps_path at brush deltas rep rule kept);
  lower = λ other less. path_keeps at brush deltas rep short near other (low.lower other less);
}
