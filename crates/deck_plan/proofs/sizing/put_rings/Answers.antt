use Rattle.std.proofs.Common.{◌≡◌, ◌+◌, ◌∙◌, ◌∷◌, ◌++◌, ◌^◌, drop, drop_of_length-le, flat_map, sym, subst, ap, w64, FitsSigned}
use Rattle.std.proofs.lemmas.Int.{to_z-of_z}
use Rattle.std.proofs.lemmas.List.{drop_more}
use Rattle.half_grid.specs.Trapezoids.{Trapezoid}
use Rattle.square_size.specs.Edges.{edges_of_grown}
use Rattle.deck_plan.specs.Bounds.{HasCornersUpTo}
use Rattle.deck_plan.proofs.Sizes.{ring_within, ring_put, rings_put}
use Rattle.deck_plan.proofs.sizing.put_rings.Goals as goal

pub put_grown-requires-clause-reach : goal.put_grown-requires-clause-reach
put_grown-requires-clause-reach c =
    let dx : FitsSigned w64 c.args.dx = c.ranges.dx in
    let dy : FitsSigned w64 c.args.dy = c.ranges.dy in
    let near = subst (HasCornersUpTo (2 ^ 43)) (sym c.trap-item.is) (c.requires.near c.loop-trap.trap-index c.trap-item.result c.loop-trap-test.true) in
    simp to_z-of_z (ring_within c.args.dx c.args.dy c.trap-item.result c.requires.sizing near)

pub loop-trap-preserved : goal.loop-trap-preserved
loop-trap-preserved c =
    let dx : FitsSigned w64 c.args.dx = c.ranges.dx in
    let dy : FitsSigned w64 c.args.dy = c.ranges.dy in
    let first : drop c.loop-trap.trap-index c.args.traps.now ≡ c.trap-item.result ∷ drop (c.loop-trap.trap-index + 1) c.args.traps.now =
    drop_more c.args.traps.now c.loop-trap.trap-index c.trap-item.result c.loop-trap-test.true ∙ ap
    (λ (w : Trapezoid). w ∷ drop (c.loop-trap.trap-index + 1) c.args.traps.now) (sym c.trap-item.is) in
    let before = simp to_z-of_z at c.loop-trap.invariant in
    let put = simp to_z-of_z at c.in_ok-put_grown.ensures in
    simp to_z-of_z (ring_put c.args.dx c.args.dy c.trap-item.result (drop c.loop-trap.trap-index c.args.traps.now)
    (drop (c.loop-trap.trap-index + 1) c.args.traps.now) c.loop-trap.edges.items c.put_grown.new.edges.items
    (c.args.edges.now.items ++ flat_map (edges_of_grown c.args.dx c.args.dy) c.args.traps.now) first put before)

pub returns : goal.returns
returns c =
    let dx : FitsSigned w64 c.args.dx = c.ranges.dx in
    let dy : FitsSigned w64 c.args.dy = c.ranges.dy in
    let before = simp to_z-of_z at c.loop-trap.invariant in
    rings_put c.args.dx c.args.dy (drop c.loop-trap.trap-index c.args.traps.now) c.loop-trap.edges.items
    (c.args.edges.now.items ++ flat_map (edges_of_grown c.args.dx c.args.dy) c.args.traps.now)
    (drop_of_length-le c.args.traps.now c.loop-trap-test.false) before
