-- A grid's places on an axis, and the first of them in an interval.
use Rattle.std.proofs.Common.{◌≡◌, ◌<◌, ◌≤◌, ◌*◌, ◌%◌, ◌/◌, ℕ, ℤ, pos, ◌+ℤ◌, ◌*ℤ◌, Option, Some, None, MatchOption, ◌∙◌, ap, sym, subst, refl, arith}
use Rattle.std.proofs.Math.IntN.{zero-*ℤ}
use Rattle.std.proofs.lemmas.Int.{ints}
use Rattle.std.proofs.lemmas.Option.{same_Some}
use Rattle.half_grid.specs.Reach.{IsWithinReach, IsPointWithinReach}
use Rattle.half_grid.specs.declared.plane.Point.{Point}
use Rattle.layout_model.specs.Grids.{IsGrid, grid_place, grid_places, nth_place}
use Rattle.layout_model.specs.Intervals.{along, IsBetween, HasNoneIn, IsFirstIn}
use Rattle.layout_model.specs.Strides.{IsNearby, HasNoneBetween, IsFirstBetween, Finds}
use Rattle.layout_model.specs.declared.intervals.Axis.{Axis}
use Rattle.layout_model.specs.declared.intervals.Axis.TheVariants.{X, Y}
use Rattle.layout_model.specs.declared.intervals.Interval.{Interval}
use Rattle.layout_model.proofs.GridLemmas.{grid_nth}
use Rattle.layout_model.proofs.HullLemmas.{column_inside, row_inside}

pub along_within : (axis : Axis) (p : Point) → IsPointWithinReach p → IsWithinReach (along axis p)
along_within X p h = h.x
along_within Y p h = h.y

pub along_grid : (axis : Axis) (u v : Point) (a b : ℕ) → along axis (grid_place u v a b) ≡ (pos a *ℤ along axis u) +ℤ (pos b *ℤ along axis v)
along_grid X u v a b = refl
along_grid Y u v a b = refl

-- ---- the steps of a grid

same_reach : (y z : ℤ) → y ≡ z → IsWithinReach y → IsWithinReach z
same_reach y z e h = subst IsWithinReach e h

pub columns_reach : (nu nv : ℕ) (u v : Point) (axis : Axis) → IsGrid nu nv u v → (a : ℕ) → a < nu → IsWithinReach (pos a *ℤ along axis u)
columns_reach nu nv u v axis grid a inside =
    let some = grid.some_rows in
    let z = zero-*ℤ (along axis v) in
    same_reach (along axis (grid_place u v a 0)) (pos a *ℤ along axis u)
    (along_grid axis u v a 0 ∙ omega (arith, ints, z))
    (along_within axis (grid_place u v a 0) (grid.reach a 0 inside (omega arith)))

pub rows_reach : (nu nv : ℕ) (u v : Point) (axis : Axis) → IsGrid nu nv u v → (b : ℕ) → b < nv → IsWithinReach (pos b *ℤ along axis v)
rows_reach nu nv u v axis grid b inside =
    let some = grid.some_columns in
    let z = zero-*ℤ (along axis u) in
    same_reach (along axis (grid_place u v 0 b)) (pos b *ℤ along axis v)
    (along_grid axis u v 0 b ∙ omega (arith, ints, z))
    (along_within axis (grid_place u v 0 b) (grid.reach 0 b (omega arith) inside))

pub one_step : (z : ℤ) → IsWithinReach (pos 1 *ℤ z) → IsNearby z
one_step z h =
    let a = h.low in
    let b = h.high in
    record { low = omega (arith, ints, a); high = omega (arith, ints, b) }

-- the same steps, as far as places take them
abbrev pub IsSameStep : ℕ → ℤ → ℤ → Type 0
IsSameStep count step other = (a : ℕ) → a < count → (pos a *ℤ step) ≡ (pos a *ℤ other)

pub marks_same : (nu nv : ℕ) (u v : Point) (axis : Axis) (ru rv : ℤ) (a b : ℕ) → IsSameStep nu ru (along axis u)
    → IsSameStep nv rv (along axis v) → a < nu → b < nv
    → (pos a *ℤ ru) +ℤ (pos b *ℤ rv) ≡ along axis (grid_place u v a b)
marks_same nu nv u v axis ru rv a b su sv ha hb =
    let e = su a ha in
    let f = sv b hb in
    ap (λ z. z +ℤ (pos b *ℤ rv)) e ∙ ap (λ z. (pos a *ℤ along axis u) +ℤ z) f ∙ sym (along_grid axis u v a b)

pub marks_reach : (nu nv : ℕ) (u v : Point) (axis : Axis) (ru rv : ℤ) → IsGrid nu nv u v → IsSameStep nu ru (along axis u) → IsSameStep nv rv (along axis v)
    → (a b : ℕ) → a < nu → b < nv → IsWithinReach ((pos a *ℤ ru) +ℤ (pos b *ℤ rv))
marks_reach nu nv u v axis ru rv grid su sv a b ha hb =
    subst IsWithinReach (sym (marks_same nu nv u v axis ru rv a b su sv ha hb)) (along_within axis (grid_place u v a b) (grid.reach a b ha hb))

pub marks_nth : (nu nv : ℕ) (u v : Point) (axis : Axis) (ru rv : ℤ) (k : ℕ) → 1 ≤ nu → IsSameStep nu ru (along axis u)
    → IsSameStep nv rv (along axis v) → k < nu * nv
    → (pos (k % nu) *ℤ ru) +ℤ (pos (k / nu) *ℤ rv) ≡ along axis (nth_place nu u v k)
marks_nth nu nv u v axis ru rv k some su sv inside = marks_same nu nv u v axis ru rv (k % nu) (k / nu) su sv
    (column_inside nu k some) (row_inside nu nv k some inside)

-- ---- from coordinates by number to places of a list

pub none_listed : (interval : Interval) (nu nv : ℕ) (u v : Point) (f : ℕ → ℤ) (from end : ℕ) → end ≤ nu * nv
    → ((k : ℕ) → k < nu * nv → f k ≡ along interval.axis (nth_place nu u v k))
    → HasNoneBetween interval f from end → HasNoneIn interval (grid_places nu nv u v) from end
none_listed interval nu nv u v f from end few same none = λ k p after before here between.
    let inside : k < nu * nv = omega arith in
    let is = same_Some (nth_place nu u v k) p (sym (grid_nth nu nv u v k inside) ∙ here) in
    none k after before (subst (IsBetween interval.low interval.high) (sym (same k inside ∙ ap (along interval.axis) is)) between)

pub found_listed : (interval : Interval) (nu nv : ℕ) (u v : Point) (f : ℕ → ℤ) (from k : ℕ)
    → ((k : ℕ) → k < nu * nv → f k ≡ along interval.axis (nth_place nu u v k))
    → IsFirstBetween interval f from (nu * nv) k → IsFirstIn interval (grid_places nu nv u v) from k
found_listed interval nu nv u v f from k same found =
    let inside = found.before in
    record {
      after = found.after;
      place = nth_place nu u v k;
      here = grid_nth nu nv u v k inside;
      inside = subst (IsBetween interval.low interval.high) (same k inside) found.inside;
      none = none_listed interval nu nv u v f from k (omega arith) same found.none;
    }

pub listed : (interval : Interval) (nu nv : ℕ) (u v : Point) (f : ℕ → ℤ) (from : ℕ) (found : Option ℕ)
    → ((k : ℕ) → k < nu * nv → f k ≡ along interval.axis (nth_place nu u v k))
    → Finds interval f from (nu * nv) found
    → MatchOption found (HasNoneIn interval (grid_places nu nv u v) from (nu * nv))
    (IsFirstIn interval (grid_places nu nv u v) from)
listed interval nu nv u v f from None same found = none_listed interval nu nv u v f from (nu * nv) (omega arith) same found
listed interval nu nv u v f from (Some k) same found = found_listed interval nu nv u v f from k same found
