-- The segments that are kept with a point list of paths.
use Rattle.std.specs.Prelude.{◌≡◌, ℕ, Option, Some, None, List, IfSome}
use Rattle.half_grid.specs.declared.plane.Point.{Point}
use Rattle.layout_model.specs.Hulls.{IsLeastBoxOf}
use Rattle.layout_model.specs.Paths.{IsCourse, segments_of}
use Rattle.oas_record.specs.declared.fields.Deltas.{Deltas}
use Rattle.oas_record.specs.declared.repetition.Rep.{Rep}
use Rattle.oas_shapes.specs.Outlines.{path_points}
use Rattle.oas_shapes.specs.Plane.{IsNearInSteps}
use Rattle.oas_shapes.specs.Repetitions.{offsets_in, HasDimensionsIn}
use Rattle.oas_shapes.specs.Rules.{AreNear}
use Rattle.oas_shapes.specs.declared.path_lists.MadePath.{MadePath}

-- a path that is kept of these points: they are one for some lengths, and these are its segments
pub record IsPathOf (points : List Point) (path : List (Point × Point)) : Type 0 where
  pub course : IsCourse points
  pub segments : path ≡ segments_of points

-- what is kept of a list at the position where it was made; the list is near 0 there
pub record IsItsPath (deltas : Deltas) (made : MadePath) : Type 0 where
  pub at : IsNearInSteps made.at
  pub near : AreNear (path_points made.at deltas)
  pub hull : IsLeastBoxOf (path_points made.at deltas) made.hull
  pub path : IfSome made.path (IsPathOf (path_points made.at deltas))

-- nothing was made, or that is kept of it
abbrev pub IsMadePath : Deltas → Option MadePath → Type 0
IsMadePath deltas None = Unit {0}
IsMadePath deltas (Some made) = IsItsPath deltas made

-- the repetition of a path, or none, keeps the rule
pub record KeepsOffsets (rep : Option Rep) (rule : ℕ) : Type 0 where
  pub near : rule ≡ 1 → AreNear (offsets_in rep)
  pub dimension : rule ≡ 11 → HasDimensionsIn rep
