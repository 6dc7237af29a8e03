-- The shapes of outlines and of paths are on the grid.
use Rattle.std.proofs.Common.{◌≡◌, ◌^◌, ℕ, ◌<◌, ℤ, pos, true, false, cond, List, [], length, get_or, refl, sym, ap, subst, arith}
use Rattle.std.specs.Prelude.{All, ◌≢◌}
use Rattle.std.specs.Ordering.{int_eq}
use Rattle.std.proofs.lemmas.Int.{ints}
use Rattle.std.proofs.lemmas.List.Elements.{All-map, All-weaker}
use Rattle.half_grid.specs.Outlines.{IsClosed, HasGridEdges}
use Rattle.half_grid.specs.declared.plane.Point.{Point}
use Rattle.half_grid.proofs.ForCallers.{int_eq_true, int_eq_false}
use Rattle.layout_model.specs.Layouts.{IsWithin, AreOffsets, IsShapeOnGrid}
use Rattle.layout_model.specs.PathLaws.{IsOutline}
use Rattle.layout_model.specs.Paths.{IsDrawable, drawn_path, rectangles, rectangle_shape}
use Rattle.layout_model.specs.Slants.{IsFirstSlant}
use Rattle.layout_model.specs.declared.paths.PathBad.{PathBad}
use Rattle.layout_model.specs.declared.paths.PathBad.TheVariants as paths
use Rattle.layout_model.specs.declared.pair.Pair.{Pair}
use Rattle.layout_model.specs.declared.shapes.Shape.{Shape}
use Rattle.oas_shapes.specs.Plane.{origin, IsNearInHalves}
use Rattle.oas_shapes.specs.Outlines.{outline_shape}
use Rattle.oas_shapes.specs.Rules.{AreNear}
use Rattle.oas_shapes.specs.Brushes.{IsDrawn, drawn_by, undrawn_by}
use Rattle.oas_shapes.specs.declared.paths.Halves.{Halves}
use Rattle.oas_shapes.specs.declared.drawing.Undrawn.TheVariants as undrawn

near_within : (p : Point) → IsNearInHalves p → IsWithin (2 ^ 42) p
near_within p n = record {
  x_low = omega (arith, ints, n.x_low);
  x_high = omega (arith, ints, n.x_high);
  y_low = omega (arith, ints, n.y_low);
  y_high = omega (arith, ints, n.y_high);
}

pub on_grid : (pair : Pair) (outline offsets : List Point) → IsClosed outline → HasGridEdges outline → AreNear outline → AreOffsets offsets
    → IsShapeOnGrid (outline_shape pair outline offsets)
on_grid pair outline offsets closed edges near placed = record {
  closed = closed;
  edges = edges;
  near = All-weaker IsNearInHalves (IsWithin (2 ^ 42)) near_within outline near;
  offsets = placed;
}

pub slanted : (points : List Point) (k : ℕ) → IsFirstSlant points k → ¬ HasGridEdges points
slanted points k slant edges = slant.slanted (origin, origin) (edges k (origin, origin) slant.inside)

-- ---- paths

pub path_items : (pair : Pair) (b : Halves) (points offsets : List Point) (items : List Shape) → (b.half ≡ pos 0 → items ≡ [])
    → (b.half ≢ pos 0 → items ≡ drawn_path pair offsets false points b.half b.begin b.end) → items ≡ drawn_by pair b points offsets
path_items pair b points offsets items none some =
    elim (int_eq b.half (pos 0)) as (λ v. int_eq b.half (pos 0) ≡ v → items ≡ cond v [] (drawn_path pair offsets false points b.half b.begin b.end)) [
      | true ↦ λ e. none (int_eq_true b.half (pos 0) e)
      | false ↦ λ e. some (int_eq_false b.half (pos 0) e)
    ] refl

drawn_offsets : (pair : Pair) (offsets points : List Point) (half begin end : ℤ)
    → All (λ (s : Shape). s.offsets ≡ offsets) (drawn_path pair offsets false points half begin end)
drawn_offsets pair offsets points half begin end =
    All-map (λ (s : Shape). s.offsets ≡ offsets) (rectangle_shape pair offsets false) (rectangles points half begin end) (λ k d lt. refl)

grid_of : (shape : Shape) (offsets : List Point) → AreOffsets offsets → IsOutline shape.points → shape.offsets ≡ offsets → IsShapeOnGrid shape
grid_of shape offsets placed outline e = record {
  closed = outline.closed;
  edges = outline.edges;
  near = outline.near;
  offsets = subst AreOffsets (sym e) placed;
}

pub path_grid : (pair : Pair) (b : Halves) (points offsets : List Point) (items : List Shape) → AreOffsets offsets
    → items ≡ drawn_by pair b points offsets → All (λ shape. IsOutline shape.points) items → All IsShapeOnGrid items
path_grid pair b points offsets items placed is outlines =
    elim (int_eq b.half (pos 0)) as (λ v. items ≡ cond v [] (drawn_path pair offsets false points b.half b.begin b.end) → All IsShapeOnGrid items) [
      | true ↦ λ e k d lt. absurd (let none : length items ≡ 0 = ap length e in omega arith)
      | false ↦ λ e k d lt.
          let shapes = drawn_path pair offsets false points b.half b.begin b.end in
          let within : k < length shapes = subst (λ (xs : List Shape). k < length xs) e lt in
          let same : (get_or items k d).offsets ≡ offsets =
          subst (λ (xs : List Shape). (get_or xs k d).offsets ≡ offsets) (sym e) (drawn_offsets pair offsets points b.half b.begin b.end k d within) in
          grid_of (get_or items k d) offsets placed (outlines k d lt) same
    ] is

undrawn_rule : (b : Halves) (points : List Point) (rule : ℕ) → b.half ≢ pos 0 → ¬ IsDrawable points b.half b.begin b.end
    → undrawn.Rule 8 ≡ undrawn.Rule rule → (rule ≡ 8) × ¬ IsDrawn b points
undrawn_rule b points rule wide none e =
    let same : 8 ≡ rule = cc in (sym same, λ drawn. none (drawn wide))

pub path_broken : (b : Halves) (points : List Point) (bad : PathBad) (rule : ℕ) → undrawn_by bad ≡ undrawn.Rule rule → b.half ≢ pos 0
    → (bad ≢ paths.NoMemory → ¬ IsDrawable points b.half b.begin b.end) → (rule ≡ 8) × ¬ IsDrawn b points
path_broken b points paths.NoMemory rule e wide none = absurd (cc)
path_broken b points paths.NoLength rule e wide none = undrawn_rule b points rule wide (none (λ x. absurd (cc))) e
path_broken b points (paths.Diagonal k) rule e wide none = undrawn_rule b points rule wide (none (λ x. absurd (cc))) e
path_broken b points (paths.TurnBack k) rule e wide none = undrawn_rule b points rule wide (none (λ x. absurd (cc))) e
path_broken b points paths.EmptyEnd rule e wide none = undrawn_rule b points rule wide (none (λ x. absurd (cc))) e

pub wanting_path : (bad : PathBad) → undrawn_by bad ≡ undrawn.NoMemory → bad ≡ paths.NoMemory
wanting_path paths.NoMemory e = refl
wanting_path paths.NoLength e = absurd (cc)
wanting_path (paths.Diagonal k) e = absurd (cc)
wanting_path (paths.TurnBack k) e = absurd (cc)
wanting_path paths.EmptyEnd e = absurd (cc)
