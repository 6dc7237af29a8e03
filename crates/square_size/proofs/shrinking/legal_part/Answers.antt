use Rattle.std.proofs.Common.{arith, ◌≤ℤ◌, ◌<ℤ◌, ◌+ℤ◌, pos, w64, FitsSigned, rules}
use Rattle.std.proofs.lemmas.Int.{ints, to_z-of_z}
use Rattle.half_grid.specs.Trapezoids.{bottom_of, top_of}
use Rattle.square_size.specs.Shrinking.{rows_of}
use Rattle.square_size.proofs.BandLemmas.{in_found, in_none, none_between, none_where_flat, whole_is_shot, sides_small}
use Rattle.square_size.proofs.shrinking.legal_part.Goals as goal

pub returns-then-top-le0 : goal.returns-then-top-le0
returns-then-top-le0 c = λ t.
    let z = rows_of c.args.band.now in
    let bottom : bottom_of z ≤ℤ pos 0 = omega (arith, ints) in
    let top : top_of z ≤ℤ pos 0 = omega (arith, ints) in
    in_none z t (none_between z t bottom top)

pub returns-then-bottom-le0 : goal.returns-then-bottom-le0
returns-then-bottom-le0 c = λ t.
    let z = rows_of c.args.band.now in
    let bottom : bottom_of z ≤ℤ pos 0 = omega (arith, ints) in
    let top : top_of z ≤ℤ pos 0 = omega (arith, ints) in
    in_none z t (none_between z t bottom top)

pub overflow_add-bottom : goal.overflow_add-bottom
overflow_add-bottom c =
    let z = rows_of c.args.band.now in
    let rows : c.args.band.now.y0 <ℤ c.args.band.now.y1 = omega (arith, ints) in
    let bottom : pos 0 ≤ℤ bottom_of z = omega (arith, ints) in
    let top : pos 0 ≤ℤ top_of z = omega (arith, ints) in
    let small = sides_small z c.requires rows bottom top in
    omega (arith, ints, small.0, small.1)

pub returns-then-bottom-top-le0 : goal.returns-then-bottom-top-le0
returns-then-bottom-top-le0 c = λ t.
    let z = rows_of c.args.band.now in
    let rows : c.args.band.now.y0 <ℤ c.args.band.now.y1 = omega (arith, ints) in
    let bottom : pos 0 ≤ℤ bottom_of z = omega (arith, ints) in
    let top : pos 0 ≤ℤ top_of z = omega (arith, ints) in
    let small = sides_small z c.requires rows bottom top in
    let flat : (bottom_of z +ℤ top_of z) ≤ℤ pos 0 = omega (arith, ints, small.0, small.1) in
    in_none z t (none_where_flat z t bottom top flat)

pub of-requires : goal.of-requires
of-requires c =
    let z = rows_of c.args.band.now in
    let y0 : FitsSigned w64 c.args.band.now.y0 = search rules in
    let y1 : FitsSigned w64 c.args.band.now.y1 = search rules in
    let rows : c.args.band.now.y0 <ℤ c.args.band.now.y1 = omega (arith, ints) in
    let bottom : pos 0 ≤ℤ bottom_of z = omega (arith, ints) in
    let top : pos 0 ≤ℤ top_of z = omega (arith, ints) in
    let small = sides_small z c.requires rows bottom top in
    let wide : pos 0 <ℤ (bottom_of z +ℤ top_of z) = omega (arith, ints, small.0, small.1) in
    simp to_z-of_z (whole_is_shot z c.requires rows bottom top wide)

pub returns : goal.returns
returns c = λ t.
    let y0 : FitsSigned w64 c.args.band.now.y0 = search rules in
    let y1 : FitsSigned w64 c.args.band.now.y1 = search rules in
    let made = simp to_z-of_z at c.of.ensures in
    in_found (rows_of c.args.band.now) _ c.of.result t made (λ h. h, λ h. h)
