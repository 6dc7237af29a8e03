-- The shape of a rectangle or a trapezoid.
use Rattle.half_grid.specs.declared.plane.Point.{Point}
use Rattle.layout_model.specs.declared.pair.Pair.{Pair}
use Rattle.layout_model.specs.declared.shapes.Shape.{Shape}
use Rattle.oas_record.specs.declared.fields.Deltas.{Deltas}
use Rattle.oas_shapes.specs.declared.figures.Brush.{Brush}
use Rattle.oas_shapes.specs.Rules.{KeepsPolygon, KeepsOasisPath}
use Rattle.std.proofs.Common.{◌++◌, ◌∙◌, ◌≡◌, ℕ, Option, Some, List, [], ◌∷◌, sym, ap, subst}
use Rattle.oas_record.specs.declared.repetition.Rep.{Rep}
use Rattle.oas_shapes.specs.Outlines.{figure_outline, outline_shape}
use Rattle.oas_shapes.specs.Repetitions.{offsets_in}
use Rattle.oas_shapes.specs.Rules.{KeepsFigure, IsLowest}
use Rattle.oas_shapes.specs.Short.{HasFewPoints, HasFewVertices}
use Rattle.oas_shapes.specs.declared.figures.Figure.{Figure}
use Rattle.oas_fields.specs.declared.fields.Fields.{Fields}
use Rattle.oas_reader.specs.Drawn.{pair_in, at_in, brush_in, figure_in, shapes_in, HasShortPolygon, HasShortPath, HasShortList, KeepsDrawnIn}
use Rattle.oas_reader.specs.Meaning.{figure_shapes}
use Rattle.oas_reader.specs.Rules.{FigureKeeps, PolygonKeeps, PathKeeps}
use Rattle.oas_reader.specs.declared.bodies.Body.{Body}
use Rattle.oas_reader.specs.declared.bodies.Body.TheVariants as bodies

pub figure_drawn : (body : Body) (fields : Fields) (rep : Option Rep) (figure : Figure) → figure_in body fields ≡ Some figure
    → shapes_in body fields rep ≡ outline_shape (pair_in fields) (figure_outline (at_in fields) figure) (offsets_in rep) ∷ []
figure_drawn bodies.Polygon fields rep figure e = absurd (cc)
figure_drawn bodies.Path fields rep figure e = absurd (cc)
figure_drawn body fields rep figure e = ap (λ f. figure_shapes f (pair_in fields) (at_in fields) (offsets_in rep)) e

pub figure_keeps : (body : Body) (fields : Fields) (rep : Option Rep) (figure : Figure) (rule : ℕ) → figure_in body fields ≡ Some figure
    → KeepsFigure (at_in fields) figure rep rule → KeepsDrawnIn body fields rep rule
figure_keeps bodies.Polygon fields rep figure rule e k = absurd (cc)
figure_keeps bodies.Path fields rep figure rule e k = absurd (cc)
figure_keeps body fields rep figure rule e k = subst (λ f. FigureKeeps f (at_in fields) rep rule) (sym e) k

pub figure_kept : (body : Body) (fields : Fields) (rep : Option Rep) (figure : Figure) (rule : ℕ) → figure_in body fields ≡ Some figure
    → KeepsDrawnIn body fields rep rule → KeepsFigure (at_in fields) figure rep rule
figure_kept bodies.Polygon fields rep figure rule e k = absurd (cc)
figure_kept bodies.Path fields rep figure rule e k = absurd (cc)
figure_kept body fields rep figure rule e k = subst (λ f. FigureKeeps f (at_in fields) rep rule) e k

pub figure_lowest : (body : Body) (fields : Fields) (rep : Option Rep) (figure : Figure) (rule : ℕ) → figure_in body fields ≡ Some figure
    → IsLowest (KeepsFigure (at_in fields) figure rep) rule → IsLowest (KeepsDrawnIn body fields rep) rule
figure_lowest body fields rep figure rule e low = record {
  broken = λ kept. low.broken (figure_kept body fields rep figure rule e kept);
  lower = λ other less. figure_keeps body fields rep figure other e (low.lower other less);
}

-- ---- by what a call is handed

pub figure_added : (body : Body) (fields : Fields) (rep copied : Option Rep) (figure : Figure) (pair : Pair) (at : Point) (old : List Shape)
    → figure_in body fields ≡ Some figure → pair ≡ pair_in fields → at ≡ at_in fields → copied ≡ rep
    → old ++ outline_shape pair (figure_outline at figure) (offsets_in copied) ∷ [] ≡ old ++ shapes_in body fields rep
figure_added body fields rep copied figure pair at old e p a r =
    ap (λ q. old ++ outline_shape q (figure_outline at figure) (offsets_in copied) ∷ []) p
    ∙ ap (λ q. old ++ outline_shape (pair_in fields) (figure_outline q figure) (offsets_in copied) ∷ []) a
    ∙ ap (λ q. old ++ outline_shape (pair_in fields) (figure_outline (at_in fields) figure) (offsets_in q) ∷ []) r
    ∙ ap (λ shapes. old ++ shapes) (sym (figure_drawn body fields rep figure e))

pub figure_keeps_by : (body : Body) (fields : Fields) (rep copied : Option Rep) (figure : Figure) (at : Point) (rule : ℕ)
    → figure_in body fields ≡ Some figure → at ≡ at_in fields → copied ≡ rep → KeepsFigure at figure copied rule → KeepsDrawnIn body fields rep rule
figure_keeps_by body fields rep copied figure at rule e a r k =
    figure_keeps body fields rep figure rule e
    (subst (λ q. KeepsFigure (at_in fields) figure q rule) r (subst (λ q. KeepsFigure q figure copied rule) a k))

pub figure_lowest_by : (body : Body) (fields : Fields) (rep copied : Option Rep) (figure : Figure) (at : Point) (rule : ℕ)
    → figure_in body fields ≡ Some figure → at ≡ at_in fields → copied ≡ rep → IsLowest (KeepsFigure at figure copied) rule
    → IsLowest (KeepsDrawnIn body fields rep) rule
figure_lowest_by body fields rep copied figure at rule e a r low =
    figure_lowest body fields rep figure rule e
    (subst (λ q. IsLowest (KeepsFigure (at_in fields) figure q) rule) r (subst (λ q. IsLowest (KeepsFigure q figure copied) rule) a low))

polygon_keeps : (body : Body) (fields : Fields) (rep : Option Rep) (points : Deltas) (rule : ℕ)
    → body ≡ bodies.Polygon → fields.polygon_points ≡ Some points → KeepsPolygon (at_in fields) points rep rule → KeepsDrawnIn body fields rep rule
polygon_keeps body fields rep points rule b p k =
    subst (λ q. KeepsDrawnIn q fields rep rule) (sym b) (subst (λ q. PolygonKeeps q (at_in fields) rep rule) (sym p) k)

pub polygon_keeps_by : (body : Body) (fields : Fields) (rep copied : Option Rep) (points : Deltas) (at : Point) (rule : ℕ)
    → body ≡ bodies.Polygon → fields.polygon_points ≡ Some points → at ≡ at_in fields → copied ≡ rep
    → KeepsPolygon at points copied rule → KeepsDrawnIn body fields rep rule
polygon_keeps_by body fields rep copied points at rule b p a r k =
    polygon_keeps body fields rep points rule b p
    (subst (λ q. KeepsPolygon (at_in fields) points q rule) r (subst (λ q. KeepsPolygon q points copied rule) a k))

pub polygon_few : (body : Body) (fields : Fields) (points : Deltas) → body ≡ bodies.Polygon → fields.polygon_points ≡ Some points
    → HasShortList body fields → HasFewVertices points
polygon_few body fields points b p short = subst HasShortPolygon p (subst (λ q. HasShortList q fields) b short)

polygon_kept : (body : Body) (fields : Fields) (rep : Option Rep) (points : Deltas) (rule : ℕ)
    → body ≡ bodies.Polygon → fields.polygon_points ≡ Some points → KeepsDrawnIn body fields rep rule → KeepsPolygon (at_in fields) points rep rule
polygon_kept body fields rep points rule b p k =
    subst (λ q. PolygonKeeps q (at_in fields) rep rule) p (subst (λ q. KeepsDrawnIn q fields rep rule) b k)

pub polygon_lowest : (body : Body) (fields : Fields) (rep copied : Option Rep) (points : Deltas) (at : Point) (rule : ℕ)
    → body ≡ bodies.Polygon → fields.polygon_points ≡ Some points → at ≡ at_in fields → copied ≡ rep
    → IsLowest (KeepsPolygon at points copied) rule → IsLowest (KeepsDrawnIn body fields rep) rule
polygon_lowest body fields rep copied points at rule b p a r low =
    let same : IsLowest (KeepsPolygon (at_in fields) points rep) rule =
    subst (λ q. IsLowest (KeepsPolygon (at_in fields) points q) rule) r (subst (λ q. IsLowest (KeepsPolygon q points copied) rule) a low) in
    record {
      broken = λ kept. same.broken (polygon_kept body fields rep points rule b p kept);
      lower = λ other less. polygon_keeps body fields rep points other b p (same.lower other less);
    }

path_keeps : (body : Body) (fields : Fields) (rep : Option Rep) (points : Deltas) (rule : ℕ)
    → body ≡ bodies.Path → fields.path_points ≡ Some points → KeepsOasisPath (at_in fields) (brush_in fields) points rep rule → KeepsDrawnIn body fields rep rule
path_keeps body fields rep points rule b p k =
    subst (λ q. KeepsDrawnIn q fields rep rule) (sym b) (subst (λ q. PathKeeps q (at_in fields) (brush_in fields) rep rule) (sym p) k)

pub path_keeps_by : (body : Body) (fields : Fields) (rep copied : Option Rep) (points : Deltas) (brush : Brush) (at : Point) (rule : ℕ)
    → body ≡ bodies.Path → fields.path_points ≡ Some points → at ≡ at_in fields → brush ≡ brush_in fields → copied ≡ rep
    → KeepsOasisPath at brush points copied rule → KeepsDrawnIn body fields rep rule
path_keeps_by body fields rep copied points brush at rule b p a w r k =
    path_keeps body fields rep points rule b p
    (subst (λ q. KeepsOasisPath (at_in fields) (brush_in fields) points q rule) r
    (subst (λ q. KeepsOasisPath (at_in fields) q points copied rule) w (subst (λ q. KeepsOasisPath q brush points copied rule) a k)))

pub path_few : (body : Body) (fields : Fields) (points : Deltas) → body ≡ bodies.Path → fields.path_points ≡ Some points
    → HasShortList body fields → HasFewPoints points
path_few body fields points b p short = subst HasShortPath p (subst (λ q. HasShortList q fields) b short)

path_kept : (body : Body) (fields : Fields) (rep : Option Rep) (points : Deltas) (rule : ℕ)
    → body ≡ bodies.Path → fields.path_points ≡ Some points → KeepsDrawnIn body fields rep rule → KeepsOasisPath (at_in fields) (brush_in fields) points rep rule
path_kept body fields rep points rule b p k =
    subst (λ q. PathKeeps q (at_in fields) (brush_in fields) rep rule) p (subst (λ q. KeepsDrawnIn q fields rep rule) b k)

pub path_lowest : (body : Body) (fields : Fields) (rep copied : Option Rep) (points : Deltas) (brush : Brush) (at : Point) (rule : ℕ)
    → body ≡ bodies.Path → fields.path_points ≡ Some points → at ≡ at_in fields → brush ≡ brush_in fields → copied ≡ rep
    → IsLowest (KeepsOasisPath at brush points copied) rule → IsLowest (KeepsDrawnIn body fields rep) rule
path_lowest body fields rep copied points brush at rule b p a w r low =
    let same : IsLowest (KeepsOasisPath (at_in fields) (brush_in fields) points rep) rule =
    subst (λ q. IsLowest (KeepsOasisPath (at_in fields) (brush_in fields) points q) rule) r
    (subst (λ q. IsLowest (KeepsOasisPath (at_in fields) q points copied) rule) w (subst (λ q. IsLowest (KeepsOasisPath q brush points copied) rule) a low)) in
    record {
      broken = λ kept. same.broken (path_kept body fields rep points rule b p kept);
      lower = λ other less. path_keeps body fields rep points other b p (same.lower other less);
    }
