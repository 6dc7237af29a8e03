-- A stream of mirror images stands for the images of the trapezoids of its source, in order. Each image is within
-- reach.
use Rattle.std.specs.Prelude.{ℤ, ◌≡◌, All, List, map}
use Rattle.half_grid.specs.Trapezoids.{Trapezoid}
use Rattle.tone_mirror.specs.Mirrors.{mirrored_trapezoid, HasImageWithinReach}

pub record StandsForImages {S : Type 0} (source_for : S → List Trapezoid → Type 0) (m : ℤ) (source : S) (images : List Trapezoid) : Type 0 where
  pub traps : List Trapezoid
  pub given : source_for source traps
  pub within : All (HasImageWithinReach m) traps
  pub is : images ≡ map (mirrored_trapezoid m) traps
