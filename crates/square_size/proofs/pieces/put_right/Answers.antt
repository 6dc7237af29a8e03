use Rattle.square_size.proofs.RingPoints.{lower_right_within, upper_right_within, right_bend_within}
use Rattle.square_size.proofs.pieces.put_right.Goals as goal

pub edge_between-requires : goal.edge_between-requires
edge_between-requires c =
    let shot = c.upright_right.ensures.shot in
    record {
      first = rw c.upper_right.ensures (upper_right_within c.args.by.dx c.args.by.dy c.args.trap.now c.requires.sizing.rectangle shot c.requires.reach);
      second = rw c.right_bend-bend.ensures (right_bend_within c.args.by.dx c.args.by.dy c.args.trap.now c.requires.sizing.rectangle shot c.requires.reach);
    }

pub edge_between-requires-2 : goal.edge_between-requires-2
edge_between-requires-2 c =
    let shot = c.upright_right.ensures.shot in
    record {
      first = rw c.right_bend-bend.ensures (right_bend_within c.args.by.dx c.args.by.dy c.args.trap.now c.requires.sizing.rectangle shot c.requires.reach);
      second = rw c.lower_right.ensures (lower_right_within c.args.by.dx c.args.by.dy c.args.trap.now c.requires.sizing.rectangle shot c.requires.reach);
    }
