use Rattle.std.proofs.Common.{ℕ, ◌<◌, Bool}
use Rattle.layout_laws.specs.FileLaws.{HasRecordOrNone}
use Rattle.layout_laws.proofs.files.look_everywhere.Given as goal

abbrev pub invariant-loop-at : goal.invariant-loop-at
invariant-loop-at l = (k : ℕ) → k < l.at → (tables : Bool) → HasRecordOrNone l.bytes k tables
