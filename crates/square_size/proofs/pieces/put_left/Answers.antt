use Rattle.square_size.proofs.RingPoints.{lower_left_within, upper_left_within, left_bend_within}
use Rattle.square_size.proofs.pieces.put_left.Goals as goal

pub edge_between-requires : goal.edge_between-requires
edge_between-requires c =
    let shot = c.upright_left.ensures.shot in
    record {
      first = rw c.lower_left.ensures.point (lower_left_within c.args.by.dx c.args.by.dy c.args.trap.now c.requires.sizing.rectangle shot c.requires.reach);
      second = rw c.left_bend-bend.ensures.point (left_bend_within c.args.by.dx c.args.by.dy c.args.trap.now c.requires.sizing.rectangle shot c.requires.reach);
    }

pub edge_between-requires-2 : goal.edge_between-requires-2
edge_between-requires-2 c =
    let shot = c.upright_left.ensures.shot in
    record {
      first = rw c.left_bend-bend.ensures.point (left_bend_within c.args.by.dx c.args.by.dy c.args.trap.now c.requires.sizing.rectangle shot c.requires.reach);
      second = rw c.upper_left.ensures (upper_left_within c.args.by.dx c.args.by.dy c.args.trap.now c.requires.sizing.rectangle shot c.requires.reach);
    }
