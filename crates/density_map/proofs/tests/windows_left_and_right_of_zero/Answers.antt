use Rattle.std.proofs.Common.{pos, ap, arith}
use Rattle.std.proofs.lemmas.Int.{ints}
use Rattle.half_grid.specs.Trapezoids.{Trapezoid}
use Rattle.density_map.proofs.TestLemmas.{first_apart, second_apart}
use Rattle.density_map.proofs.tests.windows_left_and_right_of_zero.Goals as goal

pub add-requires : goal.add-requires
add-requires g c = first_apart c.new-map.result (pos 64) (pos 0) c.trap.result c.new-map.ensures

pub add-requires-2 : goal.add-requires-2
add-requires-2 g c =
    let first = ap (λ (z : Trapezoid). z.y1) c.trap.ensures in
    let second = ap (λ (z : Trapezoid). z.y0) c.trap-2.ensures in
    second_apart c.new-map.result c.add.new.map (pos 64)
    (pos 0) c.trap.result c.trap-2.result c.new-map.ensures c.add.ensures (omega (arith, ints, first, second))
