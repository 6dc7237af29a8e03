use Rattle.std.proofs.Common.{arith, ◌≡◌, pos, ◌+ℤ◌, ◌-ℤ◌, w64, FitsSigned, false, sym, ◌∙◌}
use Rattle.std.specs.Int.{w128}
use Rattle.std.proofs.lemmas.Int.{ints, to_z-of_z}
use Rattle.half_grid.specs.Halves.{is_even}
use Rattle.half_grid.proofs.Halves.{half_odd, half_low, half_high}
use Rattle.half_grid.proofs.rows.diagonal_of.Goals as goal

pub returns : goal.returns
returns c =
    let column : FitsSigned w64 c.args.column = c.ranges.column in
    let row : FitsSigned w64 c.args.row = c.ranges.row in
    let sum : FitsSigned w64 (c.args.column +ℤ c.args.row) = omega (arith, ints) in
    let next : FitsSigned w64 ((c.args.column +ℤ c.args.row) +ℤ pos 1) = omega (arith, ints) in
    let difference : FitsSigned w64 (c.args.column -ℤ c.args.row) = omega (arith, ints) in
    let wide : FitsSigned w128 (c.args.column -ℤ c.args.row) = omega (arith, ints) in
    let half_is = simp to_z-of_z at c.half_of-2.ensures in
    let test = simp to_z-of_z at c.is_even_number.ensures in
    let odd : is_even (c.args.column -ℤ c.args.row) ≡ false = sym test ∙ c.if-is_even_number.false in
    omega (
      arith,
      ints,
      half_odd (c.args.column -ℤ c.args.row) odd,
      half_low
          ((c.args.column +ℤ c.args.row) +ℤ pos 1),
      half_high ((c.args.column +ℤ c.args.row) +ℤ pos 1),
    )
