use Rattle.std.proofs.Common.{◌≡◌, w64, FitsSigned, flat_map}
use Rattle.std.proofs.lemmas.Int.{to_z-of_z}
use Rattle.std.proofs.lemmas.Result.{IfOk-weaker}
use Rattle.half_grid.specs.Nearness.{IsGrown}
use Rattle.square_size.specs.EdgeLaws.{IsInSome}
use Rattle.square_size.specs.Edges.{edges_of_grown}
use Rattle.deck_plan.specs.Lists.{HasArea}
use Rattle.deck_plan.proofs.Sizes.{grown_has, grown_balanced}
use Rattle.deck_plan.proofs.sizing.grown_at_once.Goals as goal

edges_are : (c : goal.In_ok-edges) → c.in_ok-edges.edges.items ≡ flat_map (edges_of_grown c.args.dx c.args.dy) c.args.traps.now
edges_are c =
    let dx : FitsSigned w64 c.args.dx = c.ranges.dx in
    let dy : FitsSigned w64 c.args.dy = c.ranges.dy in
    simp to_z-of_z at c.in_ok-edges.ensures

pub unite-requires : goal.unite-requires
unite-requires c = grown_balanced c.args.dx c.args.dy c.requires.sizing.rectangle c.args.traps.now c.requires.legal
    c.in_ok-edges.edges.items (edges_are c) c.args.window

pub returns : goal.returns
returns c =
    IfOk-weaker c.unite.result _ (λ grown. HasArea c.args.window (IsGrown c.args.dx c.args.dy (IsInSome c.args.traps.now)) grown.items)
    (λ grown joined. grown_has c.args.dx c.args.dy c.requires.sizing.rectangle c.args.traps.now c.requires.legal
    c.in_ok-edges.edges.items (edges_are c.before) c.args.window grown.items joined)
    c.unite.ensures
