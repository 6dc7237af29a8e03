use Rattle.square_size.proofs.RingPoints.{upper_right_within, lower_right_within, right_bend_within}
use Rattle.square_size.proofs.pieces.add_right.Goals as goal

pub edge_between-requires-clause-first : goal.edge_between-requires-clause-first
edge_between-requires-clause-first c =
    rw c.upper_right.ensures (upper_right_within c.args.by.dx c.args.by.dy c.args.trap.now c.requires.sizing.rectangle
    c.upright_right.ensures.shot c.requires.reach)

pub edge_between-requires-clause-second : goal.edge_between-requires-clause-second
edge_between-requires-clause-second c =
    rw c.right_bend-bend.ensures (right_bend_within c.args.by.dx c.args.by.dy c.args.trap.now c.requires.sizing.rectangle
    c.upright_right.ensures.shot c.requires.reach)

pub edge_between-requires-2-clause-first : goal.edge_between-requires-2-clause-first
edge_between-requires-2-clause-first c =
    rw c.right_bend-bend.ensures (right_bend_within c.args.by.dx c.args.by.dy c.args.trap.now c.requires.sizing.rectangle
    c.upright_right.ensures.shot c.requires.reach)

pub edge_between-requires-2-clause-second : goal.edge_between-requires-2-clause-second
edge_between-requires-2-clause-second c =
    rw c.lower_right.ensures (lower_right_within c.args.by.dx c.args.by.dy c.args.trap.now c.requires.sizing.rectangle
    c.upright_right.ensures.shot c.requires.reach)
