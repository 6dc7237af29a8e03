use Rattle.std.proofs.Common.{◌∙◌, ◌++◌, List, ap, flat_map, w64, FitsSigned}
use Rattle.std.proofs.lemmas.Int.{to_z-of_z}
use Rattle.half_grid.specs.Edges.{EdgeParts}
use Rattle.square_size.specs.Edges.{edges_of_grown}
use Rattle.deck_plan.proofs.sizing.rings.Goals as goal

pub returns : goal.returns
returns c =
    let dx : FitsSigned w64 c.args.dx = c.ranges.dx in
    let dy : FitsSigned w64 c.args.dy = c.ranges.dy in
    let put = simp to_z-of_z at c.in_ok-put_rings.ensures in
    put ∙ ap (λ (es : List EdgeParts). es ++ flat_map (edges_of_grown c.args.dx c.args.dy) c.args.traps.now) c.new-edges.ensures.items
