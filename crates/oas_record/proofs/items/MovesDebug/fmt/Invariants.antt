use Rattle.std.proofs.Common.{length}
use Rattle.oas_record.proofs.items.MovesDebug.fmt.Given as goal

abbrev pub decreases-loop-delta : goal.decreases-loop-delta
decreases-loop-delta g l = length l.rest
