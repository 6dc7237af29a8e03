use Rattle.std.proofs.Common.{length}
use Rattle.oas_record.proofs.items.NumbersDebug.fmt.Given as goal

abbrev pub decreases-loop-number : goal.decreases-loop-number
decreases-loop-number g l = length l.rest
