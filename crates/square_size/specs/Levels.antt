-- The horizontal sides of a list's trapezoids, and the search for those that overlap one.
--
-- Two horizontal sides at one Y overlap where each begins left of the end of the other. The top sides of a list that is
-- joined stand by ascending Y; those of one Y have ascending left ends and ascending right ends. So among those that stand
-- before the right end of a side, the last ones overlap it, down to the first that doesn't.
use Rattle.std.specs.Prelude.{◌≡◌, ◌≤◌, ◌<◌, ◌+◌, ◌⊎◌, ℕ, ◌≤ℤ◌, ◌<ℤ◌, Bool, true, false, Some, List, length, get_or, slice_get}
use Rattle.half_grid.specs.Lines.{x_on}
use Rattle.half_grid.specs.Trapezoids.{Trapezoid}
use Rattle.square_size.specs.declared.levels.Level.{Level}

-- the bottom and the top side of a trapezoid
abbrev pub bottom_level : Trapezoid → Level
bottom_level z = record { y = z.y0; x0 = x_on z.left z.y0; x1 = x_on z.right z.y0 }

abbrev pub top_level : Trapezoid → Level
top_level z = record { y = z.y1; x0 = x_on z.left z.y1; x1 = x_on z.right z.y1 }

-- one side may stand somewhere before the other
pub record IsNoLater (a b : Level) : Type 0 where
  pub ys : a.y ≤ℤ b.y
  pub starts : a.y ≡ b.y → a.x0 ≤ℤ b.x0
  pub ends : a.y ≡ b.y → a.x1 ≤ℤ b.x1

-- by ascending Y, and those of one Y with ascending left and right ends
abbrev pub AreInOrder : List Level → Type 0
AreInOrder levels = (j k : ℕ) (a b : Level) → j ≤ k → slice_get levels j ≡ Some a → slice_get levels k ≡ Some b → IsNoLater a b

-- a side lies lower than another, or at its Y and begins left of its right end
abbrev pub IsBefore : Level → Level → Type 0
IsBefore a side = (a.y <ℤ side.y) ⊎ ((a.y ≡ side.y) × (a.x0 <ℤ side.x1))

-- a side lies lower than another, or ends where that begins or further left
abbrev pub EndsBefore : Level → Level → Type 0
EndsBefore a side = (a.y <ℤ side.y) ⊎ (a.x1 ≤ℤ side.x0)

-- so many of the sides, which are in order, are before one
pub record IsRank (levels : List Level) (side : Level) (rank : ℕ) : Type 0 where
  pub within : rank ≤ length levels
  pub last : (j : ℕ) (a : Level) → j + 1 ≡ rank → slice_get levels j ≡ Some a → IsBefore a side
  pub next : (a : Level) → slice_get levels rank ≡ Some a → IsBefore a side → ⊥

-- two sides share more than a point
pub record AreOverlapping (a b : Level) : Type 0 where
  pub ys : a.y ≡ b.y
  pub starts : a.x0 <ℤ b.x1
  pub ends : b.x0 <ℤ a.x1

-- of each two of the list of which one's top side overlaps the bottom side of the other, and that other is one of the first so
-- many, both are marked
abbrev pub AreMarkedTo : List Trapezoid → List Bool → ℕ → Type 0
AreMarkedTo traps marks n = (j k : ℕ) (y z : Trapezoid) → k < n → slice_get traps j ≡ Some y → slice_get traps k ≡ Some z
    → AreOverlapping (top_level y) (bottom_level z) → (get_or marks j false ≡ true) × (get_or marks k false ≡ true)

-- a trapezoid that isn't marked has neither a top side that overlaps the bottom side of one of the list, nor a bottom side
-- that overlaps a top side
pub record AreMarksOf (traps : List Trapezoid) (marks : List Bool) : Type 0 where
  pub many : length marks ≡ length traps
  pub apart : (j k : ℕ) (y z : Trapezoid) → slice_get traps j ≡ Some y → slice_get traps k ≡ Some z
      → AreOverlapping (top_level y) (bottom_level z) → (get_or marks j false ≡ true) × (get_or marks k false ≡ true)
