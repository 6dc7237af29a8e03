use Rattle.std.proofs.Common.{List, All, length, arith, ◌++◌, flat_map, sym, ap, subst, w64, FitsSigned}
use Rattle.std.proofs.lemmas.Int.{to_z-of_z}
use Rattle.half_grid.specs.Edges.{EdgeParts}
use Rattle.half_grid.specs.Trapezoids.{Trapezoid}
use Rattle.square_size.specs.Edges.{edges_of_grown}
use Rattle.square_size.specs.Rings.{HasRingWithinReach}
use Rattle.square_size.proofs.growing.Grown.new.Goals as goal

pub returns-clause-list : goal.returns-clause-list
returns-clause-list g c = λ traps stands.
    let dx : FitsSigned w64 c.args.dx = c.ranges.dx in
    let dy : FitsSigned w64 c.args.dy = c.ranges.dy in
    let within = subst (λ (zs : List Trapezoid). All (HasRingWithinReach c.args.dx c.args.dy) zs)
    (g.met.S.Stream.one_list c.args.source c.requires.traps.0 traps c.requires.traps.1 stands)
    c.requires.traps.2 in
    simp to_z-of_z (record {
      traps = traps;
      given = stands;
      sizing = c.requires.sizing;
      within = within;
      few = omega (arith, ap length c.none.ensures);
      is = sym (ap (λ (edges : List EdgeParts). edges ++ flat_map (edges_of_grown c.args.dx c.args.dy) traps) c.none.ensures);
    })

pub returns-clause-some_list : goal.returns-clause-some_list
returns-clause-some_list g c = (flat_map (edges_of_grown c.args.dx c.args.dy) c.requires.traps.0, returns-clause-list g c c.requires.traps.0 c.requires.traps.1)
