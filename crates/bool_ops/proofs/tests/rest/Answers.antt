use Rattle.bool_ops.proofs.tests.rest.Goals as goal

pub left_over_within-requires : goal.left_over_within-requires
left_over_within-requires c = c.in_ok-edges.ensures.balanced c.args.window
