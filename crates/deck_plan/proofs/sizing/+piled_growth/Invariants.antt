use Rattle.std.proofs.Common.{length}
use Rattle.deck_plan.proofs.sizing.+piled_growth.Given as goal

-- each half is shorter than the whole
abbrev pub decreases-piled_growth : goal.decreases-piled_growth
decreases-piled_growth l = length l.traps.now
