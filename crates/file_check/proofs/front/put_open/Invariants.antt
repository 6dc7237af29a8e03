use Rattle.std.proofs.Common.{◌≡◌, ◌++◌, drop, filter}
use Rattle.file_check.specs.Fronts.{ends_above}
use Rattle.file_check.proofs.front.put_open.Given as goal

abbrev pub invariant-loop-trap : goal.invariant-loop-trap
invariant-loop-trap l =
    l.into.items ++ filter (ends_above l.window) (drop l.trap-index l.from) ≡ l.initial.into.items ++ filter (ends_above l.window) l.from
