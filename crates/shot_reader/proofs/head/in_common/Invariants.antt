use Rattle.shot_reader.specs.Alike.{BeginAlike}
use Rattle.shot_reader.proofs.head.in_common.Given as goal

abbrev pub invariant-loop-index : goal.invariant-loop-index
invariant-loop-index l = record { alike : BeginAlike l.bytes l.text l.index }
