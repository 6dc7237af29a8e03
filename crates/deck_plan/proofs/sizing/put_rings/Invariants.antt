use Rattle.std.proofs.Common.{◌≡◌, ◌++◌, drop, flat_map}
use Rattle.square_size.specs.Edges.{edges_of_grown}
use Rattle.deck_plan.proofs.sizing.put_rings.Given as goal

-- the edges so far, and those of the rings that are still to come
abbrev pub invariant-loop-trap : goal.invariant-loop-trap
invariant-loop-trap l =
    l.edges.items ++ flat_map (edges_of_grown l.dx l.dy) (drop l.trap-index l.traps) ≡ l.fn.edges.items ++ flat_map (edges_of_grown l.dx l.dy) l.traps
