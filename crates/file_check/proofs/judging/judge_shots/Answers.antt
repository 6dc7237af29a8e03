use Rattle.std.proofs.Common.{refl}
use Rattle.file_check.proofs.judging.judge_shots.Goals as goal

pub returns-in-Miscovered-clause-refused : goal.returns-in-Miscovered-clause-refused
returns-in-Miscovered-clause-refused g c = rw c.refused.ensures (
  refl,
  (c.in_ok-verdict.ensures.miscovered c.in-Miscovered.tile c.in-Miscovered.count c.in-Miscovered.wanted).0
      c.in-Miscovered.is,
)
