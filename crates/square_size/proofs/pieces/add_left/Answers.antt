use Rattle.square_size.proofs.RingPoints.{lower_left_within, upper_left_within, left_bend_within}
use Rattle.square_size.proofs.pieces.add_left.Goals as goal

pub edge_between-requires-clause-first : goal.edge_between-requires-clause-first
edge_between-requires-clause-first c =
    rw c.lower_left.ensures.point (lower_left_within c.args.by.dx c.args.by.dy c.args.trap.now c.requires.sizing.rectangle
    c.upright_left.ensures.shot c.requires.reach)

pub edge_between-requires-clause-second : goal.edge_between-requires-clause-second
edge_between-requires-clause-second c =
    rw c.left_bend-bend.ensures.point (left_bend_within c.args.by.dx c.args.by.dy c.args.trap.now c.requires.sizing.rectangle
    c.upright_left.ensures.shot c.requires.reach)

pub edge_between-requires-2-clause-first : goal.edge_between-requires-2-clause-first
edge_between-requires-2-clause-first c =
    rw c.left_bend-bend.ensures.point (left_bend_within c.args.by.dx c.args.by.dy c.args.trap.now c.requires.sizing.rectangle
    c.upright_left.ensures.shot c.requires.reach)

pub edge_between-requires-2-clause-second : goal.edge_between-requires-2-clause-second
edge_between-requires-2-clause-second c =
    rw c.upper_left.ensures (upper_left_within c.args.by.dx c.args.by.dy c.args.trap.now c.requires.sizing.rectangle
    c.upright_left.ensures.shot c.requires.reach)
