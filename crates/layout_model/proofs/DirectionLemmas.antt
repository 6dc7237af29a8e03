-- Directions between points.
use Rattle.std.proofs.Common.{◌≡◌, ℤ, pos, ◌≤ℤ◌, Bool, true, false, not, refl, arith}
use Rattle.std.proofs.lemmas.Int.{ints}
use Rattle.std.proofs.lemmas.Bool.{and_parts}
use Rattle.half_grid.specs.declared.plane.Point.{Point}
use Rattle.half_grid.proofs.ForCallers.{int_eq_true}
use Rattle.layout_model.specs.declared.directions.Direction.{Direction}
use Rattle.layout_model.specs.declared.directions.Direction.TheVariants.{Still, East, West, North, South}
use Rattle.layout_model.specs.Paths.{direction_of, are_one, later, same_point, point_at, distance_along}
use Rattle.layout_model.specs.Walks.{is_direction, is_turn}

one_point : (x y u v : ℤ) → x ≡ u → y ≡ v → point_at x y ≡ point_at u v
one_point x y u v e f = rw (e, f) refl

pub same_is : (a b : Point) → same_point a b ≡ true → a ≡ b
same_is a b h =
    let tests = and_parts _ _ h in
    one_point a.x a.y b.x b.y (int_eq_true a.x b.x tests.0) (int_eq_true a.y b.y tests.1)

pub same_self : (a : Point) → same_point a a ≡ true
same_self a = grind (arith, ints)

pub still_self : (a : Point) → direction_of a a ≡ Still
still_self a = grind (arith, ints)

pub other_direction : (a b : Point) → same_point a b ≡ false → is_direction (direction_of a b) ≡ true
other_direction a b h = grind (arith, ints)

pub later_direction : (d e : Direction) → is_direction e ≡ true → later d e ≡ e
later_direction d Still h = absurd (let bad : ⊥ = cc in bad)
later_direction d East h = refl
later_direction d West h = refl
later_direction d North h = refl
later_direction d South h = refl

pub later_first : (e : Direction) → later Still e ≡ e
later_first Still = refl
later_first East = refl
later_first West = refl
later_first North = refl
later_first South = refl

pub turn_still : (d : Direction) → is_turn d Still ≡ false
turn_still Still = refl
turn_still East = refl
turn_still West = refl
turn_still North = refl
turn_still South = refl

pub turn_by : (d e : Direction) (b : Bool) → is_direction d ≡ true → is_direction e ≡ true → are_one d e ≡ b → is_turn d e ≡ not b
turn_by d e b hd he h = rw (hd, he, h) refl

-- no distance in the direction from a to b is below 0
pub distance_low : (a b : Point) (d : Direction) → direction_of a b ≡ d → pos 0 ≤ℤ distance_along d a b
distance_low a b Still h = omega (arith, ints)
distance_low a b East h = grind (arith, ints)
distance_low a b West h = grind (arith, ints)
distance_low a b North h = grind (arith, ints)
distance_low a b South h = grind (arith, ints)

-- where there is no direction, X stays as it is
pub still_x : (a b : Point) → direction_of a b ≡ Still → a.x ≡ b.x
still_x a b h = grind (arith, ints)
