use Rattle.std.proofs.Common.{◌≡◌, ◌++◌, take}
use Rattle.flat_walk.proofs.stores.put_short.Given as goal

abbrev pub invariant-loop-trap : goal.invariant-loop-trap
invariant-loop-trap l = l.pieces.items ≡ l.fn.pieces.items ++ take l.trap-index l.traps
