-- The rectangles of a path's list at another position: they are those of the path there, and it keeps the rules there as well.
use Rattle.std.proofs.Common.{◌≡◌, ℕ, pos, true, false, cond, List, [], ◌++◌, map, refl, sym, ap, subst, ◌∙◌, inl, inr, Some}
use Rattle.std.specs.Prelude.{All, Option, Result, Ok, Err, OnOk, IfSome}
use Rattle.std.specs.Ordering.{int_eq}
use Rattle.std.proofs.lemmas.Bool.{cases_Bool}
use Rattle.std.proofs.lemmas.List.Elements.{All-nil, All-append}
use Rattle.half_grid.proofs.ForCallers.{int_eq_true}
use Rattle.half_grid.specs.declared.plane.Point.{Point}
use Rattle.layout_model.specs.Images.{moved}
use Rattle.layout_model.specs.Layouts.{AreOffsets, IsShapeOnGrid}
use Rattle.layout_model.specs.PathLaws.{IsOutline}
use Rattle.layout_model.specs.Paths.{IsDrawable, HasEmptyEnd, extended, segments_of, drawn_path}
use Rattle.layout_model.specs.Segments.{moved_segment, AreNearAfter}
use Rattle.layout_model.specs.declared.pair.Pair.{Pair}
use Rattle.layout_model.specs.declared.shapes.Shape.{Shape}
use Rattle.layout_model.proofs.ForCallers.{path_there, drawable_there, segments_near, path_outlines}
use Rattle.oas_record.specs.declared.fields.Deltas.{Deltas}
use Rattle.oas_record.specs.declared.repetition.Rep.{Rep}
use Rattle.oas_shapes.specs.Brushes.{halves_of, AreHalves, IsDrawn, IsNotCutShort, drawn_by, along_by, KeepsCourse}
use Rattle.oas_shapes.specs.Moves.{way_between, low_corner, high_corner}
use Rattle.oas_shapes.specs.Outlines.{path_points, path_shapes_of}
use Rattle.oas_shapes.specs.PathLists.{IsItsPath, IsPathOf, KeepsOffsets}
use Rattle.oas_shapes.specs.Plane.{IsNearInHalves}
use Rattle.oas_shapes.specs.Rules.{AreNear, IsLowest}
use Rattle.oas_shapes.specs.declared.figures.Brush.{Brush}
use Rattle.oas_shapes.specs.declared.path_lists.MadePath.{MadePath}
use Rattle.oas_shapes.specs.declared.paths.Halves.{Halves}
use Rattle.oas_shapes.proofs.MoveLemmas.{points_moved, near_by_corners}
use Rattle.oas_shapes.proofs.ShapeLemmas.{path_grid}

-- ---- the shapes

-- along moved segments they are those of the path that is moved so
along_drawn : (pair : Pair) (b : Halves) (points offsets : List Point) (m : Point) → (b.half ≡ pos 0 → ⊥)
    → along_by pair b (map (moved_segment m) (segments_of points)) offsets ≡ drawn_by pair b (map (moved m) points) offsets
along_drawn pair b points offsets m wide =
    let path = drawn_path pair offsets false (map (moved m) points) b.half b.begin b.end in
    path_there m pair offsets false points b.half b.begin b.end
    ∙ elim (cases_Bool (int_eq b.half (pos 0))) as (λ _. path ≡ cond (int_eq b.half (pos 0)) [] path) [
      | inl none ↦ absurd (wide (int_eq_true b.half (pos 0) none))
      | inr some ↦ rw some refl
    ]

-- one without width has none
pub drawn_none : (pair : Pair) (b : Halves) (points offsets : List Point) → b.half ≡ pos 0 → drawn_by pair b points offsets ≡ []
drawn_none pair b points offsets none = rw none refl

outlines_by : (pair : Pair) (b : Halves) (points offsets : List Point) → AreHalves b → AreNear points
    → All (λ (shape : Shape). IsOutline shape.points) (drawn_by pair b points offsets)
outlines_by pair b points offsets h near =
    elim (int_eq b.half (pos 0)) as (λ v. All (λ (shape : Shape). IsOutline shape.points)
    (cond v [] (drawn_path pair offsets false points b.half b.begin b.end))) [
      | true ↦ All-nil (λ (shape : Shape). IsOutline shape.points)
      | false ↦ path_outlines pair offsets false points b.half b.begin b.end near h.half h.begin h.end
    ]

-- the shapes of a path that is near 0 are on the grid
pub all_on_grid : (pair : Pair) (b : Halves) (points offsets : List Point) (old : List Shape) → AreHalves b → AreNear points → AreOffsets offsets
    → All IsShapeOnGrid old → All IsShapeOnGrid (old ++ drawn_by pair b points offsets)
all_on_grid pair b points offsets old h near placed before =
    All-append IsShapeOnGrid old (drawn_by pair b points offsets) before
    (path_grid pair b points offsets (drawn_by pair b points offsets) placed refl (outlines_by pair b points offsets h near))

-- ---- at another position

pub near_there : (d : Deltas) (made : MadePath) (to : Point) → IsItsPath d made → IsNearInHalves (moved (way_between made.at to) (low_corner made.hull))
    → IsNearInHalves (moved (way_between made.at to) (high_corner made.hull)) → AreNear (path_points to d)
near_there d made to is low high =
    subst AreNear (points_moved made.at to d) (near_by_corners (path_points made.at d) (way_between made.at to) made.hull is.hull low high)

drawn_there : (d : Deltas) (made : MadePath) (to : Point) (b : Halves) (path : List (Point × Point)) → IsPathOf (path_points made.at d) path
    → IsNotCutShort b path → IsDrawn b (path_points to d)
drawn_there d made to b path is ends = λ wide.
    subst (λ points. IsDrawable points b.half b.begin b.end) (points_moved made.at to d)
    (drawable_there (way_between made.at to) (path_points made.at d) b.half b.begin b.end is.course
    (λ empty. ends (subst (λ segments. HasEmptyEnd (extended b.half b.begin b.end segments)) (sym is.segments) empty)))

shapes_there : (pair : Pair) (d : Deltas) (made : MadePath) (to : Point) (b : Halves) (offsets : List Point) (path : List (Point × Point))
    → IsPathOf (path_points made.at d) path → (b.half ≡ pos 0 → ⊥)
    → along_by pair b (map (moved_segment (way_between made.at to)) path) offsets ≡ drawn_by pair b (path_points to d) offsets
shapes_there pair d made to b offsets path is wide =
    ap (λ segments. along_by pair b (map (moved_segment (way_between made.at to)) segments) offsets) is.segments
    ∙ along_drawn pair b (path_points made.at d) offsets (way_between made.at to) wide
    ∙ ap (λ points. drawn_by pair b points offsets) (points_moved made.at to d)

-- the same as a record's path is added
pub added : (pair : Pair) (d : Deltas) (made : MadePath) (to : Point) (brush : Brush) (b : Halves) (offsets : List Point) (by : Point)
    (path : List (Point × Point)) → IsPathOf (path_points made.at d) path → b ≡ halves_of brush → (b.half ≡ pos 0 → ⊥) → by ≡ way_between made.at to
    → along_by pair b (map (moved_segment by) path) offsets ≡ path_shapes_of pair to brush d offsets
added pair d made to brush b offsets by path is same wide way =
    ap (λ m. along_by pair b (map (moved_segment m) path) offsets) way
    ∙ shapes_there pair d made to b offsets path is wide ∙ ap (λ c. drawn_by pair c (path_points to d) offsets) same

pub reach_by : (d : Deltas) (made : MadePath) (to by : Point) (path : List (Point × Point)) → IsPathOf (path_points made.at d) path
    → by ≡ way_between made.at to → AreNear (path_points to d) → AreNearAfter by path
reach_by d made to by path is way near =
    let there : AreNear (map (moved (way_between made.at to)) (path_points made.at d)) = subst AreNear (sym (points_moved made.at to d)) near in
    let segments : AreNearAfter (way_between made.at to) path =
    subst (AreNearAfter (way_between made.at to)) (sym is.segments) (segments_near (way_between made.at to) (path_points made.at d) there) in
    subst (λ m. AreNearAfter m path) (sym way) segments

-- the path that was kept
pub its_path : (d : Deltas) (made : MadePath) (path : List (Point × Point)) → IsItsPath d made → made.path ≡ Some path → IsPathOf (path_points made.at d) path
its_path d made path is some = subst (λ o. IfSome o (IsPathOf (path_points made.at d))) some is.path

pub near_by : (d : Deltas) (made : MadePath) (to by : Point) → IsItsPath d made → by ≡ way_between made.at to
    → IsNearInHalves (moved by (low_corner made.hull)) → IsNearInHalves (moved by (high_corner made.hull)) → AreNear (path_points to d)
near_by d made to by is way low high =
    near_there d made to is (subst (λ m. IsNearInHalves (moved m (low_corner made.hull))) way low)
    (subst (λ m. IsNearInHalves (moved m (high_corner made.hull))) way high)

pub drawn_by_brush : (d : Deltas) (made : MadePath) (to : Point) (brush : Brush) (b : Halves) (path : List (Point × Point))
    → IsPathOf (path_points made.at d) path → b ≡ halves_of brush → IsNotCutShort b path → IsDrawn (halves_of brush) (path_points to d)
drawn_by_brush d made to brush b path is same ends = subst (λ c. IsDrawn c (path_points to d)) same (drawn_there d made to b path is ends)

pub drawn_without_width : (brush : Brush) (b : Halves) (points : List Point) → b ≡ halves_of brush → b.half ≡ pos 0 → IsDrawn (halves_of brush) points
drawn_without_width brush b points same none = λ wide. absurd (wide (ap (λ (c : Halves). c.half) (sym same) ∙ none))

pub on_ok_two : {V E : Type 0} (P Q R : Type 0) (r : Result V E) → (P → Q → R) → OnOk r P → OnOk r Q → OnOk r R
on_ok_two P Q R (Ok v) f p q = f p q
on_ok_two P Q R (Err e) f p q = tt

-- ---- the rules

pub course_keeps : (b : Halves) (points : List Point) (rep : Option Rep) → IsDrawn b points → (rule : ℕ) → KeepsOffsets rep rule → KeepsCourse b points rep rule
course_keeps b points rep drawn rule k = record { near = k.near; drawn = λ eight. drawn; dimension = k.dimension }

keeps_offsets : (b : Halves) (points : List Point) (rep : Option Rep) (rule : ℕ) → KeepsCourse b points rep rule → KeepsOffsets rep rule
keeps_offsets b points rep rule k = record { near = k.near; dimension = k.dimension }

pub course_lowest : (b : Halves) (points : List Point) (rep : Option Rep) → IsDrawn b points → (rule : ℕ) → IsLowest (KeepsOffsets rep) rule
    → IsLowest (KeepsCourse b points rep) rule
course_lowest b points rep drawn rule low = record {
  broken = λ kept. low.broken (keeps_offsets b points rep rule kept);
  lower = λ other less. course_keeps b points rep drawn other (low.lower other less);
}
