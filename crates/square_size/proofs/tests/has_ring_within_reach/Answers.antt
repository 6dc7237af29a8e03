use Rattle.std.proofs.Common.{◌≡◌, true, false, ℤ, pos, neg_ℤ, ◌^◌, ◌≤ℤ◌, ◌+ℤ◌, ◌-ℤ◌, arith, w64, FitsSigned, rules}
use Rattle.std.proofs.lemmas.Int.{ints, to_z-of_z}
use Rattle.std.specs.Prelude.{int_le, int_lt}
use Rattle.square_size.proofs.tests.has_ring_within_reach.Goals as goal

is_le : (x y : ℤ) → int_le x y ≡ true → x ≤ℤ y
is_le x y h = grind (arith, ints)

not_lt : (x y : ℤ) → int_lt x y ≡ false → y ≤ℤ x
not_lt x y h = grind (arith, ints)

pub returns : goal.returns
returns c = λ inside.
    let shot = c.y0.ensures.shot in
    let r = c.requires.rectangle in
    let y0 = c.y0.result in
    let y1 = c.y1.result in
    let x0 = c.least_x.result in
    let x1 = c.greatest_x.result in
    let dx : FitsSigned w64 c.args.dx = c.ranges.dx in
    let dy : FitsSigned w64 c.args.dy = c.ranges.dy in
    let f0 : FitsSigned w64 c.y0.result = search rules in
    let f1 : FitsSigned w64 c.y1.result = search rules in
    let f2 : FitsSigned w64 c.least_x.result = search rules in
    let f3 : FitsSigned w64 c.greatest_x.result = search rules in
    let g0 : FitsSigned w64 (c.y0.result -ℤ c.args.dy) = omega (arith, ints, c.y0.ensures.value, shot.reach.y0, r.rows, c.requires.rows) in
    let g1 : FitsSigned w64 (c.y1.result +ℤ c.args.dy) = omega (arith, ints, c.y1.ensures.value, shot.reach.y1, r.rows, c.requires.rows) in
    let g2 : FitsSigned w64 (c.least_x.result -ℤ c.args.dx) = omega (arith, ints, c.least_x.ensures.reach, r.columns, c.requires.columns) in
    let g3 : FitsSigned w64 (c.greatest_x.result +ℤ c.args.dx) = omega (arith, ints, c.greatest_x.ensures.reach, r.columns, c.requires.columns) in
    let bottom = not_lt (y0 -ℤ c.args.dy) (neg_ℤ (pos (2 ^ 44))) (simp to_z-of_z at c.if-y0-dy.false) in
    let top = not_lt (pos (2 ^ 44)) (y1 +ℤ c.args.dy) (simp to_z-of_z at c.if-y1-dy-gt-REACH.false) in
    let left = not_lt (x0 -ℤ c.args.dx) (neg_ℤ (pos (2 ^ 44))) (simp to_z-of_z at c.if-least_x-dx.false) in
    let right = is_le (x1 +ℤ c.args.dx) (pos (2 ^ 44)) (simp to_z-of_z at inside) in
    record {
      left = rw (← c.least_x.ensures.value) (record { low = left; high = omega (arith, ints, c.least_x.ensures.reach, r.columns) });
      right = rw (← c.greatest_x.ensures.value) (record { low = omega (arith, ints, c.greatest_x.ensures.reach, r.columns); high = right });
      bottom = rw (← c.y0.ensures.value) (record { low = bottom; high = omega (arith, ints, c.y0.ensures.value, shot.reach.y0.high, r.rows) });
      top = rw (← c.y1.ensures.value) (record { low = omega (arith, ints, c.y1.ensures.value, shot.reach.y1.low, r.rows); high = top });
    }
