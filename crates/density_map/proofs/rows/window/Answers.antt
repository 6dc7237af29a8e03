use Rattle.std.proofs.Common.{◌+ℤ◌, ◌*ℤ◌, FitsSigned, w64, refl, arith, rules}
use Rattle.std.proofs.lemmas.Int.{ints, to_z-of_z}
use Rattle.density_map.proofs.FloorLemmas.{next_side, fits_near, window_is, window_near}
use Rattle.density_map.proofs.rows.window.Goals as goal

pub returns-clause-value : goal.returns-clause-value
returns-clause-value c =
    let size = c.args.strip.now.size in
    let x = c.args.columns.now.first *ℤ c.args.strip.now.size in
    let y = c.args.strip.now.row *ℤ c.args.strip.now.size in
    let next_x = next_side c.args.columns.now.first c.args.strip.now.size in
    let next_y = next_side c.args.strip.now.row c.args.strip.now.size in
    let fc : FitsSigned w64 c.args.columns.now.first = search rules in
    let fs : FitsSigned w64 c.args.strip.now.size = search rules in
    let fr : FitsSigned w64 c.args.strip.now.row = search rules in
    let fx : FitsSigned w64 (c.args.columns.now.first *ℤ c.args.strip.now.size) = fits_near x
    (omega (arith, ints, c.requires.left.low)) (omega (arith, ints, c.requires.left.high)) in
    let fy : FitsSigned w64 (c.args.strip.now.row *ℤ c.args.strip.now.size) = fits_near y
    (omega (arith, ints, c.requires.reach.low))
    (omega (arith, ints, c.requires.reach.high, next_y, c.requires.size.low)) in
    let gx : FitsSigned w64 ((c.args.columns.now.first *ℤ c.args.strip.now.size) +ℤ c.args.strip.now.size) = fits_near
    (x +ℤ size) (omega (arith, ints, c.requires.right.low, next_x))
    (omega (arith, ints, c.requires.right.high, next_x)) in
    let gy : FitsSigned w64 ((c.args.strip.now.row *ℤ c.args.strip.now.size) +ℤ c.args.strip.now.size) = fits_near
    (y +ℤ size) (omega (arith, ints, c.requires.reach.low, c.requires.size.low))
    (omega (arith, ints, c.requires.reach.high, next_y)) in
    simp to_z-of_z (window_is c.args.strip.now.size c.args.columns.now.first c.args.strip.now.row
    (c.args.columns.now.first *ℤ c.args.strip.now.size) (c.args.strip.now.row *ℤ c.args.strip.now.size)
    ((c.args.columns.now.first *ℤ c.args.strip.now.size) +ℤ c.args.strip.now.size)
    ((c.args.strip.now.row *ℤ c.args.strip.now.size) +ℤ c.args.strip.now.size) refl refl refl refl)

pub returns-clause-near : goal.returns-clause-near
returns-clause-near c =
    let size = c.args.strip.now.size in
    let x = c.args.columns.now.first *ℤ c.args.strip.now.size in
    let y = c.args.strip.now.row *ℤ c.args.strip.now.size in
    let next_x = next_side c.args.columns.now.first c.args.strip.now.size in
    let next_y = next_side c.args.strip.now.row c.args.strip.now.size in
    let fc : FitsSigned w64 c.args.columns.now.first = search rules in
    let fs : FitsSigned w64 c.args.strip.now.size = search rules in
    let fr : FitsSigned w64 c.args.strip.now.row = search rules in
    let fx : FitsSigned w64 (c.args.columns.now.first *ℤ c.args.strip.now.size) = fits_near x
    (omega (arith, ints, c.requires.left.low)) (omega (arith, ints, c.requires.left.high)) in
    let fy : FitsSigned w64 (c.args.strip.now.row *ℤ c.args.strip.now.size) = fits_near y
    (omega (arith, ints, c.requires.reach.low))
    (omega (arith, ints, c.requires.reach.high, next_y, c.requires.size.low)) in
    let gx : FitsSigned w64 ((c.args.columns.now.first *ℤ c.args.strip.now.size) +ℤ c.args.strip.now.size) = fits_near
    (x +ℤ size) (omega (arith, ints, c.requires.right.low, next_x))
    (omega (arith, ints, c.requires.right.high, next_x)) in
    let gy : FitsSigned w64 ((c.args.strip.now.row *ℤ c.args.strip.now.size) +ℤ c.args.strip.now.size) = fits_near
    (y +ℤ size) (omega (arith, ints, c.requires.reach.low, c.requires.size.low))
    (omega (arith, ints, c.requires.reach.high, next_y)) in
    simp to_z-of_z (window_near c.args.strip.now.size c.args.columns.now.first c.args.strip.now.row c.requires.size
    c.requires.reach c.requires.left c.requires.right)
