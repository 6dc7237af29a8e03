use Rattle.field_split.specs.Looks.{IsFieldShot}
use Rattle.field_split.proofs.LookLemmas.{HoldsOfFirst}
use Rattle.field_split.proofs.looks.too_wide.Given as goal

abbrev pub invariant-loop-k : goal.invariant-loop-k
invariant-loop-k l = HoldsOfFirst IsFieldShot l.shots l.k
