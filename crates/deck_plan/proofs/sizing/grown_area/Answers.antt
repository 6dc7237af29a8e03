use Rattle.std.proofs.Common.{◌≡◌, w64, FitsSigned, flat_map}
use Rattle.std.proofs.lemmas.Int.{to_z-of_z}
use Rattle.square_size.specs.Edges.{edges_of_grown}
use Rattle.deck_plan.proofs.Sizes.{grown_has, grown_balanced}
use Rattle.deck_plan.proofs.sizing.grown_area.Goals as goal

pub unite_within-requires : goal.unite_within-requires
unite_within-requires c =
    let dx : FitsSigned w64 c.args.dx = c.ranges.dx in
    let dy : FitsSigned w64 c.args.dy = c.ranges.dy in
    let edges : c.in_ok-edges.edges.items ≡ flat_map (edges_of_grown c.args.dx c.args.dy) c.args.traps.now =
    simp to_z-of_z at c.in_ok-edges.ensures in
    grown_balanced c.args.dx c.args.dy c.requires.sizing.rectangle c.args.traps.now c.requires.legal c.in_ok-edges.edges.items edges c.args.window

pub returns-in-Some : goal.returns-in-Some
returns-in-Some c =
    let dx : FitsSigned w64 c.args.dx = c.ranges.dx in
    let dy : FitsSigned w64 c.args.dy = c.ranges.dy in
    let edges : c.in_ok-edges.edges.items ≡ flat_map (edges_of_grown c.args.dx c.args.dy) c.args.traps.now =
    simp to_z-of_z at c.in_ok-edges.ensures in
    grown_has c.args.dx c.args.dy c.requires.sizing.rectangle c.args.traps.now c.requires.legal c.in_ok-edges.edges.items edges
    c.args.window c.in-Some.area.items (rw c.in-Some.is at c.in_ok-area.ensures.joined)
