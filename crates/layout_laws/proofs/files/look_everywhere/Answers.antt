use Rattle.std.proofs.Common.{Bool}
use Rattle.layout_laws.specs.FileLaws.{HasRecordOrNone}
use Rattle.layout_laws.proofs.files.look_everywhere.Goals as goal
use Rattle.layout_laws.proofs.PlaceLemmas.{below_more}

pub loop-at-preserved : goal.loop-at-preserved
loop-at-preserved c = below_more (λ k. (tables : Bool) → HasRecordOrNone c.args.bytes.now k tables) c.loop-at.at c.loop-at.invariant c.look_twice.ensures
