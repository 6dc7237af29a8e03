-- Paths by their lengths in half units.
use Rattle.std.specs.Prelude.{◌≡◌, ◌≢◌, ◌≤ℤ◌, ℕ, pos, false, if◌then◌else◌, Option, List, []}
use Rattle.std.specs.Ordering.{int_eq}
use Rattle.half_grid.specs.Halves.{twice}
use Rattle.half_grid.specs.declared.plane.Point.{Point}
use Rattle.layout_model.specs.PathBounds.{IsNearOnPath}
use Rattle.layout_model.specs.Paths.{IsDrawable, HasEmptyEnd, extended, drawn_path, drawn_along}
use Rattle.layout_model.specs.declared.pair.Pair.{Pair}
use Rattle.layout_model.specs.declared.shapes.Shape.{Shape}
use Rattle.layout_model.specs.declared.stretches.Brush.{Brush as Lengths}
use Rattle.layout_model.specs.declared.paths.PathBad.{PathBad}
use Rattle.layout_model.specs.declared.paths.PathBad.TheVariants as paths
use Rattle.oas_record.specs.declared.repetition.Rep.{Rep}
use Rattle.oas_shapes.specs.Outlines.{half_of}
use Rattle.oas_shapes.specs.Repetitions.{offsets_in, HasDimensionsIn}
use Rattle.oas_shapes.specs.Rules.{AreNear}
use Rattle.oas_shapes.specs.declared.figures.Brush.{Brush}
use Rattle.oas_shapes.specs.declared.paths.Halves.{Halves}
use Rattle.oas_shapes.specs.declared.drawing.Undrawn.{Undrawn}
use Rattle.oas_shapes.specs.declared.drawing.Undrawn.TheVariants as undrawn

abbrev pub halves_of : Brush → Halves
halves_of b = record { half = half_of b; begin = twice b.start; end = twice b.end }

pub record AreHalves (b : Halves) : Type 0 where
  pub low : pos 0 ≤ℤ b.half
  pub half : IsNearOnPath b.half
  pub begin : IsNearOnPath b.begin
  pub end : IsNearOnPath b.end

abbrev pub IsDrawn : Halves → List Point → Type 0
IsDrawn b points = b.half ≢ pos 0 → IsDrawable points b.half b.begin b.end

abbrev pub drawn_by : Pair → Halves → List Point → List Point → List Shape
drawn_by pair b points offsets = if int_eq b.half (pos 0) then [] else drawn_path pair offsets false points b.half b.begin b.end

-- the same along these segments, where there is a width
abbrev pub along_by : Pair → Halves → List (Point × Point) → List Point → List Shape
along_by pair b segments offsets = drawn_along pair offsets false segments b.half b.begin b.end

-- neither the first nor the last rectangle along these segments is empty
abbrev pub IsNotCutShort : Halves → List (Point × Point) → Type 0
IsNotCutShort b segments = HasEmptyEnd (extended b.half b.begin b.end segments) → ⊥

abbrev pub lengths_of : Halves → Lengths
lengths_of b = record { half = b.half; begin = b.begin; end = b.end }

-- a path that can't be drawn breaks its rule
abbrev pub undrawn_by : PathBad → Undrawn
undrawn_by paths.NoMemory = undrawn.NoMemory
undrawn_by paths.NoLength = undrawn.Rule 8
undrawn_by (paths.Diagonal k) = undrawn.Rule 8
undrawn_by (paths.TurnBack k) = undrawn.Rule 8
undrawn_by paths.EmptyEnd = undrawn.Rule 8

-- a path of these points with this repetition, or none, keeps the rule
pub record KeepsCourse (b : Halves) (points : List Point) (rep : Option Rep) (rule : ℕ) : Type 0 where
  pub near : rule ≡ 1 → AreNear (offsets_in rep)
  pub drawn : rule ≡ 8 → IsDrawn b points
  pub dimension : rule ≡ 11 → HasDimensionsIn rep
