use Rattle.std.proofs.Common.{◌≤◌, All, length, ap, sym, subst, ◌∙◌, arith, w64, FitsSigned, List}
use Rattle.std.proofs.lemmas.Int.{to_z-of_z}
use Rattle.half_grid.specs.Outlines.{HasGridEdges}
use Rattle.half_grid.specs.Reach.{IsPointWithinReach}
use Rattle.half_grid.specs.Winding.{winding}
use Rattle.half_grid.specs.declared.plane.Point.{Point}
use Rattle.square_size.proofs.RingLaw.{ring_inside, ring_outside}
use Rattle.square_size.proofs.RingPoints.{ring_on_grid, ring_within_reach}
use Rattle.square_size.proofs.rings.grown.Goals as goal

pub returns-clause-ring : goal.returns-clause-ring
returns-clause-ring c =
    let dx : FitsSigned w64 c.args.dx = c.ranges.dx in
    let dy : FitsSigned w64 c.args.dy = c.ranges.dy in
    let points = simp to_z-of_z at c.ring.ensures.points in
    let items = rw c.unwrap.ensures at c.from_slice.ensures.ok in
    items ∙ points

pub returns-clause-inside : goal.returns-clause-inside
returns-clause-inside c = λ t near.
    ap (λ (ps : List Point). winding ps t)
    (returns-clause-ring c) ∙ ring_inside c.args.dx c.args.dy c.args.trap.now c.requires.sizing.rectangle
    c.ring.ensures.shot.legal t near

pub returns-clause-outside : goal.returns-clause-outside
returns-clause-outside c = λ t out.
    ap (λ (ps : List Point). winding ps t)
    (returns-clause-ring c) ∙ ring_outside c.args.dx c.args.dy c.args.trap.now c.requires.sizing.rectangle
    c.ring.ensures.shot.legal t out

pub returns-clause-inline : goal.returns-clause-inline
returns-clause-inline c =
    let short : length c.ring.result ≤ 8 = rw c.ring.ensures.points (omega arith) in
    rw c.unwrap.ensures at (c.from_slice.ensures.inline short)

pub returns-clause-grid : goal.returns-clause-grid
returns-clause-grid c =
    subst HasGridEdges (sym (returns-clause-ring c)) (ring_on_grid c.args.dx c.args.dy c.args.trap.now c.requires.sizing.rectangle c.ring.ensures.shot.legal)

pub returns-clause-reach : goal.returns-clause-reach
returns-clause-reach c =
    subst (λ (ps : List Point). All IsPointWithinReach ps) (sym (returns-clause-ring c))
    (ring_within_reach c.args.dx c.args.dy c.args.trap.now c.requires.sizing.rectangle c.ring.ensures.shot
    c.requires.reach)
