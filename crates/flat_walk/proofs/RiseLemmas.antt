-- Where the places of a placement bring a cell's rows into a window.
use Rattle.std.proofs.Common.{◌≡◌, ◌≤◌, ◌<◌, ◌+◌, ◌*◌, ◌/◌, ◌^◌, ℕ, ℤ, zero, suc, pos, negsuc, neg_ℤ, ◌+ℤ◌, ◌-ℤ◌, ◌*ℤ◌}
use Rattle.std.proofs.Common.{◌≤ℤ◌, ◌<ℤ◌, Bool, true, false, refl, sym, ap, subst, ◌∙◌, arith, int_lt}
use Rattle.std.specs.Int.{int_min, int_max, int_div_euclid}
use Rattle.std.proofs.Math.IntN.{pos-*ℤ-pos, pos-*ℤ-negsuc}
use Rattle.std.proofs.Math.Nat.{mul-div-le, lt-mul-div-succ}
use Rattle.std.proofs.lemmas.Int.{ints, clamps, by_lt_z}
use Rattle.half_grid.specs.Windows.{RowRange}
use Rattle.half_grid.specs.declared.plane.Point.{Point}
use Rattle.layout_model.specs.Images.{IsOrient, image_of, moved, turned, flipped, enlarged}
use Rattle.layout_model.specs.Intervals.{along, IsBetween, IsInInterval}
use Rattle.layout_model.specs.Layouts.{IsWithin}
use Rattle.layout_model.specs.declared.intervals.Axis.{Axis}
use Rattle.layout_model.specs.declared.intervals.Axis.TheVariants.{X, Y}
use Rattle.layout_model.specs.declared.intervals.Interval.{Interval}
use Rattle.layout_model.specs.declared.orient.Orient.{Orient}
use Rattle.flat_walk.specs.Poses.{oriented}
use Rattle.flat_walk.specs.Rises.{upward, is_upright, signed, meets_at, IsRange, IsAmid}
use Rattle.flat_walk.specs.declared.rows.Rows.{Rows}
use Rattle.flat_walk.proofs.Motions.{mul_up}
use Rattle.flat_walk.proofs.PointLemmas.{image_within, moved_within}

-- ---- how far up

rise_by : (turns : ℕ) (flip : Bool) (q : Point) → turns < 4 → (turned turns (flipped flip q)).y ≡ signed (is_upright turns flip) (along (upward turns) q)
rise_by zero true q h = refl
rise_by zero false q h = refl
rise_by (suc zero) true q h = refl
rise_by (suc zero) false q h = refl
rise_by (suc (suc zero)) true q h = omega (arith, ints)
rise_by (suc (suc zero)) false q h = refl
rise_by (suc (suc (suc zero))) true q h = refl
rise_by (suc (suc (suc zero))) false q h = refl
rise_by (suc (suc (suc (suc turns)))) flip q h = absurd (omega arith)

along_enlarged : (axis : Axis) (mag : ℕ) (p : Point) → along axis (enlarged mag p) ≡ pos mag *ℤ along axis p
along_enlarged X mag p = refl
along_enlarged Y mag p = refl

along_moved : (axis : Axis) (at p : Point) → along axis (moved at p) ≡ along axis p +ℤ along axis at
along_moved X at p = refl
along_moved Y at p = refl

rise_is : (orient : Orient) (p : Point) → orient.turns < 4
    → (oriented orient p).y ≡ signed (is_upright orient.turns orient.flip)
    (pos orient.mag *ℤ along (upward orient.turns) p)
rise_is orient p turns = rise_by orient.turns orient.flip (enlarged orient.mag p) turns ∙ ap
    (signed (is_upright orient.turns orient.flip)) (along_enlarged (upward orient.turns) orient.mag p)

-- ---- ranges

pub directed_on : (forward : Bool) (range : Rows) → forward ≡ true → (z : ℤ) → IsAmid range (signed forward z) → IsAmid range z
directed_on forward range on z = subst (λ b. IsAmid range (signed b z) → IsAmid range z) (sym on) (λ h. h)

pub directed_off : (forward : Bool) (range back : Rows) → forward ≡ false → back.low ≡ neg_ℤ range.high
    → back.high ≡ neg_ℤ range.low → (z : ℤ) → IsAmid range (signed forward z) → IsAmid back z
directed_off forward range back off low high z = subst (λ b. IsAmid range (signed b z) → IsAmid back z) (sym off) turned_back
  where
    turned_back : IsAmid range (neg_ℤ z) → IsAmid back z
    turned_back h = let a = h.above in let b = h.below in record { above = omega (arith, ints, b, low); below = omega (arith, ints, a, high) }

-- ---- rounding down

floor_under : (a : ℤ) (m : ℕ) → 1 ≤ m → (pos m *ℤ int_div_euclid a (pos m)) ≤ℤ a
floor_under (pos a) m some = rw (pos-*ℤ-pos m (a / m)) (let h = mul-div-le a m in omega (arith, ints, h))
floor_under (negsuc a) m some = rw (pos-*ℤ-negsuc m (a / m))
    (let h = lt-mul-div-succ a {b = m} (omega arith) in let e : m * (a / m + 1) ≡ m * suc (a / m) = omega arith in
    omega (arith, ints, h, e))

less_one : (q : ℕ) → negsuc q +ℤ pos 1 ≡ neg_ℤ (pos q)
less_one q = omega (arith, ints)

neg_times : (m q : ℕ) → pos m *ℤ neg_ℤ (pos q) ≡ neg_ℤ (pos (m * q))
neg_times m zero = rw (pos-*ℤ-pos m 0) (let e : m * 0 ≡ 0 = omega arith in rw e refl)
neg_times m (suc q) = pos-*ℤ-negsuc m q

floor_over : (a : ℤ) (m : ℕ) → 1 ≤ m → a <ℤ (pos m *ℤ (int_div_euclid a (pos m) +ℤ pos 1))
floor_over (pos a) m some =
    let h = lt-mul-div-succ a {b = m} (omega arith) in
    subst (λ z. pos a <ℤ z) (sym (pos-*ℤ-pos m (a / m + 1))) (omega (arith, ints, h))
floor_over (negsuc a) m some =
    let h = mul-div-le a m in
    subst (λ z. negsuc a <ℤ z) (sym (ap (λ z. pos m *ℤ z) (less_one (a / m)) ∙ neg_times m (a / m))) (omega (arith, ints, h))

by_order : (a b : ℤ) → (a <ℤ b → ⊥) → b ≤ℤ a
by_order a b never = by_lt_z a b (λ less. absurd (never less)) (λ reached. reached)

-- a number whose multiple is above is above the quotient
above_floor : (a z : ℤ) (m : ℕ) → 1 ≤ m → a <ℤ (pos m *ℤ z) → (int_div_euclid a (pos m) +ℤ pos 1) ≤ℤ z
above_floor a z m some h = by_order z (int_div_euclid a (pos m) +ℤ pos 1) (λ less. (
    let under = floor_under a m some in
    let up = mul_up m z (int_div_euclid a (pos m)) (omega (arith, ints, less)) in
    absurd (omega (arith, ints, under, up, h))
    ))

-- a number whose multiple is not above is not above the quotient
under_floor : (a z : ℤ) (m : ℕ) → 1 ≤ m → (pos m *ℤ z) ≤ℤ a → z ≤ℤ int_div_euclid a (pos m)
under_floor a z m some h = by_order (int_div_euclid a (pos m)) z (λ less. (
    let over = floor_over a m some in
    let up = mul_up m (int_div_euclid a (pos m) +ℤ pos 1) z (omega (arith, ints, less)) in
    absurd (omega (arith, ints, over, up, h))
    ))

-- ---- all together

lt_true : (x y : ℤ) → int_lt x y ≡ true → x <ℤ y
lt_true x y h = grind (arith, ints)

false_by : (b : Bool) → (b ≡ true → ⊥) → b ≡ false
false_by true never = absurd (never refl)
false_by false never = refl

-- rows that come into the window are amid the range of the window's rows within reach
amid_window : (w : RowRange) (rows wanted gap range : Rows) (o up : ℤ)
    → wanted.low ≡ int_min (int_max w.y0 (neg_ℤ (pos (2 ^ 60)))) (pos (2 ^ 60))
    → wanted.high ≡ int_min (int_max w.y1 (neg_ℤ (pos (2 ^ 60)))) (pos (2 ^ 60))
    → gap.low ≡ wanted.low -ℤ rows.high → gap.high ≡ wanted.high -ℤ rows.low → range.low ≡ gap.low -ℤ up → range.high ≡ gap.high -ℤ up
    → IsRange (2 ^ 58) rows → neg_ℤ (pos (2 ^ 59)) ≤ℤ (o +ℤ up) → (o +ℤ up) ≤ℤ pos (2 ^ 59) → meets_at w rows (o +ℤ up) ≡ true → IsAmid range o
amid_window w rows wanted gap range o up wl wh gl gh rl rh near low high met =
    let less = lt_true (int_max w.y0 (rows.low +ℤ (o +ℤ up))) (int_min w.y1 (rows.high +ℤ (o +ℤ up))) met in
    let first : w.y0 <ℤ (rows.high +ℤ (o +ℤ up)) = omega (arith, ints, clamps, less) in
    let last : (rows.low +ℤ (o +ℤ up)) <ℤ w.y1 = omega (arith, ints, clamps, less) in
    let a = near.low_near in
    let b = near.low_far in
    let c = near.high_near in
    let d = near.high_far in
    let from : wanted.low <ℤ (rows.high +ℤ (o +ℤ up)) = omega (arith, ints, clamps, wl, first, c, low) in
    let to : (rows.low +ℤ (o +ℤ up)) <ℤ wanted.high = omega (arith, ints, clamps, wh, last, b, high) in
    record { above = omega (arith, ints, from, gl, rl); below = omega (arith, ints, to, gh, rh) }

-- a coordinate whose multiple is amid the range is in the interval of its quotients, less a move
in_interval : (range whole quotients : Rows) (interval : Interval) (axis : Axis) (mag : ℕ) (by p : Point) → 1 ≤ mag
    → whole.low ≡ range.low → whole.high ≡ range.high -ℤ pos 1
    → quotients.low ≡ int_div_euclid whole.low (pos mag) → quotients.high ≡ int_div_euclid whole.high (pos mag)
    → interval.axis ≡ axis → interval.low ≡ (quotients.low +ℤ pos 1) -ℤ along axis by → interval.high ≡ quotients.high -ℤ along axis by
    → IsAmid range (pos mag *ℤ along axis (moved p by)) → IsInInterval interval p
in_interval range whole quotients interval axis mag by p some wl wh ql qh ia il ih amid =
    let a = amid.above in
    let b = amid.below in
    let low = above_floor whole.low (along axis (moved p by)) mag some (omega (arith, ints, wl, a)) in
    let high = under_floor whole.high (along axis (moved p by)) mag some (omega (arith, ints, wh, b)) in
    let both = along_moved axis p by in
    subst (λ x. IsBetween interval.low interval.high (along x p)) (sym ia)
    (record { above = omega (arith, ints, low, ql, il, both); below = omega (arith, ints, high, qh, ih, both) })

-- the image of a place is near
place_near : (outer : Orient) (at by p : Point) → IsOrient outer → IsWithin (2 ^ 54) at → IsWithin (2 ^ 41) by
    → IsWithin (2 ^ 41) p → IsWithin (2 ^ 54 + 16 * (2 ^ 41 + 2 ^ 41)) (image_of outer at (moved p by))
place_near outer at by p o a b h = image_within outer (2 ^ 54) (2 ^ 41 + 2 ^ 41) at (moved p by) o.factor a (moved_within (2 ^ 41) (2 ^ 41) p by h b)

pub places_off : (outer : Orient) (at by p : Point) (w : RowRange) (rows wanted gap range turned_range whole quotients : Rows) (interval : Interval)
    → wanted.low ≡ int_min (int_max w.y0 (neg_ℤ (pos (2 ^ 60)))) (pos (2 ^ 60)) → wanted.high ≡ int_min (int_max w.y1 (neg_ℤ (pos (2 ^ 60)))) (pos (2 ^ 60))
    → gap.low ≡ wanted.low -ℤ rows.high → gap.high ≡ wanted.high -ℤ rows.low → range.low ≡ gap.low -ℤ at.y → range.high ≡ gap.high -ℤ at.y
    → ((z : ℤ) → IsAmid range (signed (is_upright outer.turns outer.flip) z) → IsAmid turned_range z)
    → whole.low ≡ turned_range.low → whole.high ≡ turned_range.high -ℤ pos 1
    → quotients.low ≡ int_div_euclid whole.low (pos outer.mag) → quotients.high ≡ int_div_euclid whole.high (pos outer.mag)
    → interval.axis ≡ upward outer.turns → interval.low ≡ (quotients.low +ℤ pos 1) -ℤ along (upward outer.turns) by
    → interval.high ≡ quotients.high -ℤ along (upward outer.turns) by
    → IsOrient outer → IsWithin (2 ^ 54) at → IsWithin (2 ^ 41) by → IsRange (2 ^ 58) rows → IsWithin (2 ^ 41) p → ¬ IsInInterval interval p
    → meets_at w rows (image_of outer at (moved p by)).y ≡ false
places_off outer at by p w rows wanted gap range turned_range whole quotients interval wl wh gl gh rl rh turn cl ch ql
    qh ia il ih o near_at near_by near_rows near_p out =
    let near = place_near outer at by p o near_at near_by near_p in
    let low = near.y_low in
    let high = near.y_high in
    false_by (meets_at w rows (image_of outer at (moved p by)).y) (λ met. (
    let amid = amid_window w rows wanted gap range (oriented outer (moved p by)).y at.y wl wh gl gh rl rh near_rows
    (omega (arith, ints, low)) (omega (arith, ints, high)) met in
    let risen = subst (IsAmid range) (rise_is outer (moved p by) o.turns) amid in
    out (in_interval turned_range whole quotients interval (upward outer.turns) outer.mag by p o.enlarges cl ch ql qh ia il ih (turn _ risen))
    ))
