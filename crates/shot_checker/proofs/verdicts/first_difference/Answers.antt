use Rattle.shot_checker.proofs.verdicts.first_difference.Goals as goal

pub lowest-requires-clause-balanced : goal.lowest-requires-clause-balanced
lowest-requires-clause-balanced c = c.in_ok-edges.ensures.balanced c.args.window
