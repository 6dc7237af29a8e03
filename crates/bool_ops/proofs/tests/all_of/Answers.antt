use Rattle.bool_ops.proofs.tests.all_of.Goals as goal

pub unite_within-requires : goal.unite_within-requires
unite_within-requires c = c.in_ok-one.ensures.balanced c.args.window

pub combine_edges_within-requires : goal.combine_edges_within-requires
combine_edges_within-requires c = c.in_ok-both.ensures.balanced c.args.window
