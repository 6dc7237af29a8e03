-- Trapezoids that reach one row from below, from left to right, and which of them go on above it.
use Rattle.std.specs.Prelude.{ℕ, ◌≡◌, ◌<◌, ◌≤ℤ◌, ◌<ℤ◌, Bool, true, false, List, [], ◌∷◌, ◌++◌, All, map, Option, Some, None, length, slice_index_or}
use Rattle.std.specs.List.{list_any}
use Rattle.half_grid.specs.Trapezoids.{Trapezoid}
use Rattle.deck_plan.specs.Stacks.{goes_on, lengthened, ended}
use Rattle.band_areas.specs.Cuts.{top_place}
use Rattle.band_areas.specs.declared.stacks.Stack.{Stack}

-- the second has the top of the first, and stands right of it in the row below that
pub record IsRightAtTop (z next : Trapezoid) : Type 0 where
  pub top : next.y1 ≡ z.y1
  pub right : top_place z <ℤ top_place next

-- all have one top, and stand from left to right
abbrev pub AreGrowing : List Trapezoid → Type 0
AreGrowing [] = Unit {0}
AreGrowing (z ∷ zs) = All (IsRightAtTop z) zs × AreGrowing zs

-- the number of the one that goes on in the trapezoid above, or that none does
abbrev pub IsNumberBelow : List Trapezoid → Trapezoid → Option ℕ → Type 0
IsNumberBelow growing above None = All (λ z. goes_on z above ≡ false) growing
IsNumberBelow growing above (Some at) = (at < length growing) × ((d : Trapezoid) → goes_on (slice_index_or growing at d) above ≡ true)

-- none ends above one that follows
abbrev pub TopsAscend : List Trapezoid → Type 0
TopsAscend [] = Unit {0}
TopsAscend (z ∷ zs) = All (λ next. z.y1 ≤ℤ next.y1) zs × TopsAscend zs

-- of each whether it goes on in some of the trapezoids above
abbrev pub going_on : List Trapezoid → List Trapezoid → List Bool
going_on growing above = map (λ z. list_any (goes_on z) above) growing

-- What comes of growing trapezoids and of the joined list of the rows above: those that end there, and those of the
-- list, lengthened, first the ones that end below some top, or all of them.
pub record IsStack (growing strip : List Trapezoid) (stack : Stack) : Type 0 where
  pub ended : stack.ended.items ≡ ended strip growing
  pub above : stack.below.items ++ stack.growing.items ≡ map (lengthened growing) strip
