-- A layout with the cell of each placement.
use Rattle.std.specs.Prelude.{◌≡◌, ◌<◌, ℕ, nat_eq, List, Option, Some, map, slice_get, position}
use Rattle.std.specs.Borrow.{Bor}
use Rattle.std.specs.Cmp.Lexicographic.{pointwise}
use Rattle.layout_model.specs.declared.cells.Placement.{Placement}

-- what references point to
abbrev pub pointed : {X : Type 0} → List (Bor X) → List X
pointed xs = map (λ x. x.now) xs

-- the place of each placement's target among names
abbrev pub places_among : List (List ℕ) → List Placement → List (Option ℕ)
places_among names placements = map (λ placement. position (pointwise nat_eq placement.target) names) placements

-- each cell of a list of targets is below the bound
abbrev pub AreTargetsBelow : ℕ → List (Option ℕ) → Type 0
AreTargetsBelow bound targets = (k m : ℕ) → slice_get targets k ≡ Some (Some m) → m < bound
