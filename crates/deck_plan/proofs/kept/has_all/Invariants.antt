use Rattle.std.proofs.Common.{All, take}
use Rattle.deck_plan.specs.Bounds.{IsAround}
use Rattle.deck_plan.proofs.kept.has_all.Given as goal

-- the box has all so far
abbrev pub invariant-loop-trap : goal.invariant-loop-trap
invariant-loop-trap l = All (IsAround l.frame) (take l.trap-index l.traps)
