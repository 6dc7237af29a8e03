-- Which stripes a shot meets, counted from the first stripe of all, and the numbers of the shots that meet one.
use Rattle.std.specs.Prelude.{ℕ, suc, ℤ, pos, ◌+ℤ◌, ◌-ℤ◌, ◌*ℤ◌, ◌≤ℤ◌, ◌≡◌, Bool, ◌&&◌}
use Rattle.std.specs.Prelude.{nat_eq, nat_le, nat_lt, cond, List, [], ◌∷◌, slice_get, Some, unsigned_abs, ◌<◌}
use Rattle.std.specs.Int.{int_div_euclid}
use Rattle.half_grid.specs.Reach.{IsWithinReach}
use Rattle.half_grid.specs.Trapezoids.{Trapezoid}
use Rattle.field_split.specs.Fields.{IsInStretch}

-- the stripe of a row
abbrev pub place_of : ℤ → ℤ → ℤ → ℕ
place_of size first y = unsigned_abs (int_div_euclid y size -ℤ first)

-- the stripes of the shot's first and of its last row
abbrev pub begin_at : ℤ → ℤ → Trapezoid → ℕ
begin_at size first z = place_of size first z.y0

abbrev pub end_at : ℤ → ℤ → Trapezoid → ℕ
end_at size first z = place_of size first (z.y1 -ℤ pos 1)

-- the shot has rows of so many stripes alone
pub record IsPlaced (size first : ℤ) (count : ℕ) (z : Trapezoid) : Type 0 where
  pub low : (first *ℤ size) ≤ℤ z.y0
  pub high : z.y1 ≤ℤ ((first +ℤ pos count) *ℤ size)

-- each of so many stripes from the first on has a row within reach
abbrev pub HaveRows : ℤ → ℤ → ℕ → Type 0
HaveRows size first count = (place : ℕ) → place < count → (y : ℤ) × IsWithinReach y × IsInStretch size (first +ℤ pos place) y

-- it begins in the stripe, comes into it from below, has a row there, or goes on above it
abbrev pub begins : ℤ → ℤ → ℕ → Trapezoid → Bool
begins size first place z = nat_eq (begin_at size first z) place

abbrev pub comes_in : ℤ → ℤ → ℕ → Trapezoid → Bool
comes_in size first place z = nat_lt (begin_at size first z) place && nat_le place (end_at size first z)

abbrev pub meets : ℤ → ℤ → ℕ → Trapezoid → Bool
meets size first place z = nat_le (begin_at size first z) place && nat_le place (end_at size first z)

abbrev pub goes_on : ℤ → ℤ → ℕ → Trapezoid → Bool
goes_on size first place z = nat_lt place (end_at size first z)

-- the numbers of the shots for which the test holds, where the first shot has the number n
abbrev pub numbers : (Trapezoid → Bool) → ℕ → List Trapezoid → List ℕ
numbers test n [] = []
numbers test n (z ∷ shots) = cond (test z) (n ∷ numbers test (suc n) shots) (numbers test (suc n) shots)

-- the shot of this number
abbrev pub HasNumber : List Trapezoid → ℕ → Trapezoid → Type 0
HasNumber shots n z = slice_get shots n ≡ Some z
