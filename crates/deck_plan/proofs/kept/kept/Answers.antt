use Rattle.std.proofs.Common.{All, subst}
use Rattle.half_grid.specs.JoinedLists.{IsInWindow}
use Rattle.deck_plan.proofs.kept.kept.Goals as goal

pub returns-then-lie_in-clause-inside : goal.returns-then-lie_in-clause-inside
returns-then-lie_in-clause-inside c = subst (All (IsInWindow c.args.window)) c.list_of.ensures (c.lie_in.ensures c.if-lie_in.true)
