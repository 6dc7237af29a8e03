use Rattle.std.proofs.Common.{◌-◌, List, length}
use Rattle.shot_repeat.specs.Progress.{HasRead}
use Rattle.shot_repeat.specs.declared.record.PackRecord.{PackRecord}
use Rattle.shot_repeat.proofs.packed_file.take_file.Given as goal

abbrev pub invariant-loop-progress : goal.invariant-loop-progress
invariant-loop-progress l = (records : List PackRecord) × HasRead l.fn.bytes l.fn.unit records l.progress l.shots

abbrev pub decreases-loop-progress : goal.decreases-loop-progress
decreases-loop-progress l = length l.fn.bytes - l.progress.at
