use Rattle.std.proofs.Common.{◌≤ℤ◌, ◌-ℤ◌, inl, inr, subst, arith, w32, w64, FitsSigned, rules}
use Rattle.std.proofs.lemmas.Int.{ints, to_z-of_z}
use Rattle.flat_walk.specs.ShortBoxes.{side_of}
use Rattle.flat_walk.proofs.ShortLemmas.{number_fits, difference_fits, one_is_up, side_rises}
use Rattle.flat_walk.proofs.short_boxes.ShortBox.meets.Goals as goal

pub returns : goal.returns
returns c = λ apart.
    let sides = c.self.inside in
    let rows = c.args.rows in
    let low : FitsSigned w32 rows.low = search rules in
    let high : FitsSigned w32 rows.high = search rules in
    let bottom : FitsSigned w32 sides.y0 = search rules in
    let top : FitsSigned w32 sides.y1 = search rules in
    let low_fits = number_fits _ low in
    let high_fits = number_fits _ high in
    let bottom_fits = number_fits _ bottom in
    let top_fits = number_fits _ top in
    let above = difference_fits _ _ bottom high in
    let below = difference_fits _ _ low top in
    let most : FitsSigned w64 c.max.result = search rules in
    let value = simp to_z-of_z at c.max.ensures.value in
    let up = simp to_z-of_z at apart in
    elim (one_is_up (sides.y0 -ℤ rows.high) (rows.low -ℤ sides.y1) c.max.result value up) [
      | inl off ↦ inl (subst (λ box. side_of rows.high ≤ℤ box.y0) c.self.view_is
          (side_rises rows.high sides.y0 (record { low = omega (arith, ints, high); high = omega (arith, ints, high) }) c.self.invariant.y0
          (omega (arith, ints, off))))
      | inr off ↦ inr (subst (λ box. box.y1 ≤ℤ side_of rows.low) c.self.view_is
          (side_rises sides.y1 rows.low c.self.invariant.y1 (record { low = omega (arith, ints, low); high = omega (arith, ints, low) })
          (omega (arith, ints, off))))
    ]
