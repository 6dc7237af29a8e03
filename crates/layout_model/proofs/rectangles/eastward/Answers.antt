use Rattle.std.proofs.Common.{◌≡◌, ◌+ℤ◌, ◌-ℤ◌, w64, to_z, of_z, arith}
use Rattle.std.proofs.lemmas.Int.{ints}
use Rattle.layout_model.proofs.DrawLemmas.{rectangle_at}
use Rattle.layout_model.proofs.rectangles.eastward.Goals as goal

pub returns : goal.returns
returns c =
    let x0 : to_z w64 (of_z w64 c.less.result) ≡ c.args.s.from.x -ℤ c.args.s.before = omega (arith, ints, c.less.ensures) in
    let y0 : to_z w64 (of_z w64 c.less-2.result) ≡ c.args.s.from.y -ℤ c.args.s.half = omega (arith, ints, c.less-2.ensures) in
    let x1 : to_z w64 (of_z w64 c.more.result) ≡ c.args.s.to.x +ℤ c.args.s.after = omega (arith, ints, c.more.ensures) in
    let y1 : to_z w64 (of_z w64 c.more-2.result) ≡ c.args.s.from.y +ℤ c.args.s.half = omega (arith, ints, c.more-2.ensures) in
    rectangle_at _ _ _ _ _ _ _ _ x0 y0 x1 y1
