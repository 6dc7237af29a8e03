use Rattle.std.proofs.Common.{take}
use Rattle.depot.specs.Filing.{HasNone}
use Rattle.depot.proofs.filing.place.Given as goal

abbrev pub invariant-loop-i : goal.invariant-loop-i
invariant-loop-i l = HasNone (take l.i l.files) l.name
