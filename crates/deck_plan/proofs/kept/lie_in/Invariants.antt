use Rattle.std.proofs.Common.{All, take}
use Rattle.half_grid.specs.JoinedLists.{IsInWindow}
use Rattle.deck_plan.proofs.kept.lie_in.Given as goal

-- all so far are in the rows
abbrev pub invariant-loop-trap : goal.invariant-loop-trap
invariant-loop-trap l = All (IsInWindow l.window) (take l.trap-index l.traps)
