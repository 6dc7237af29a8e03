use Rattle.std.proofs.Common.{take}
use Rattle.square_size.specs.Parting.{IsParted}
use Rattle.square_size.proofs.parting.shrink_lone.Given as goal

abbrev pub invariant-loop-k : goal.invariant-loop-k
invariant-loop-k l = IsParted l.fn.d l.fn.traps (take l.k l.fn.traps) l.parted.shrunk.items l.parted.rest.items
