use Rattle.std.proofs.Common.{rules, ◌≡◌, subst, ◌+ℤ◌, ◌-ℤ◌, pos, arith, FitsSigned, w64}
use Rattle.std.proofs.lemmas.Int.{ints, to_z-of_z}
use Rattle.half_grid.specs.Lines.{x_on}
use Rattle.half_grid.specs.declared.plane.Line.{Line}
use Rattle.band_areas.proofs.stacks.x_below.Goals as goal

-- the sum, and what it is
record Sum (c : goal.After-struct_told-1) : Type 0 where
  first : FitsSigned w64 c.bottom_left.result
  second : FitsSigned w64 c.tilt-tilt.result.at
  both : FitsSigned w64 (c.bottom_left.result +ℤ c.tilt-tilt.result.at)

sum : (c : goal.After-struct_told-1) → Sum c
sum c =
    let x = c.bottom_left.ensures.reach in
    let low = c.tilt-tilt.ensures.low in
    let high = c.tilt-tilt.ensures.high in
    record { first = search rules; second = search rules; both = omega (arith, ints, x.low, x.high, low, high) }

pub returns-clause-is : goal.returns-clause-is
returns-clause-is c =
    let s = sum c in
    let a = s.first in
    let b = s.second in
    let d = s.both in
    let line = c.left.ensures.value in
    let is = c.tilt-tilt.ensures.is c.args.trap.now.y0 in
    let there = subst (λ (l : Line). x_on l (c.args.trap.now.y0 -ℤ pos 1) ≡ x_on l c.args.trap.now.y0 +ℤ c.tilt-tilt.result.at) line is in
    let x = c.bottom_left.ensures.value in
    simp to_z-of_z (omega (arith, ints, there, x))

pub returns-clause-low : goal.returns-clause-low
returns-clause-low c =
    let s = sum c in
    let a = s.first in
    let b = s.second in
    let d = s.both in
    let x = c.bottom_left.ensures.reach in
    let low = c.tilt-tilt.ensures.low in
    simp to_z-of_z (omega (arith, ints, x.low, low))

pub returns-clause-high : goal.returns-clause-high
returns-clause-high c =
    let s = sum c in
    let a = s.first in
    let b = s.second in
    let d = s.both in
    let x = c.bottom_left.ensures.reach in
    let high = c.tilt-tilt.ensures.high in
    simp to_z-of_z (omega (arith, ints, x.high, high))
