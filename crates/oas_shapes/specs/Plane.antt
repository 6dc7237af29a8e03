-- Points and moves in grid steps, and the same in half units.
use Rattle.std.specs.Prelude.{◌^◌, ◌≤ℤ◌, ℕ, ℤ, pos, neg_ℤ, List, [], ◌∷◌}
use Rattle.half_grid.specs.Halves.{twice}
use Rattle.half_grid.specs.declared.plane.Point.{Point}
use Rattle.layout_model.specs.Images.{moved}
use Rattle.layout_model.specs.Layouts.{IsWithin}

abbrev pub point : ℤ → ℤ → Point
point x y = record { x = x; y = y }

abbrev pub origin : Point
origin = point (pos 0) (pos 0)

-- a distance to the right, and one upward
abbrev pub east : ℕ → Point
east n = point (pos n) (pos 0)

abbrev pub north : ℕ → Point
north n = point (pos 0) (pos n)

-- from grid steps to half units
abbrev pub doubled : Point → Point
doubled p = point (twice p.x) (twice p.y)

-- a place, and those that are reached from it by these moves, one after the other
abbrev pub places_along : Point → List Point → List Point
places_along place [] = place ∷ []
places_along place (move ∷ moves) = place ∷ places_along (moved place move) moves

-- a coordinate, or a length along a path: at most 2^40 grid steps from 0
pub record IsLength (z : ℤ) : Type 0 where
  pub low : neg_ℤ (pos (2 ^ 40)) ≤ℤ z
  pub high : z ≤ℤ pos (2 ^ 40)

-- a point at most 2^40 grid steps from 0
abbrev pub IsNearInSteps : Point → Type 0
IsNearInSteps p = IsWithin (2 ^ 40) p

-- the same of a point in half units
abbrev pub IsNearInHalves : Point → Type 0
IsNearInHalves p = IsWithin (2 ^ 41) p
