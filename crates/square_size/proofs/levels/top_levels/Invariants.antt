use Rattle.std.proofs.Common.{◌≡◌, ◌++◌, drop, map}
use Rattle.square_size.specs.Levels.{top_level}
use Rattle.square_size.proofs.levels.top_levels.Given as goal

abbrev pub invariant-loop-trap : goal.invariant-loop-trap
invariant-loop-trap l = l.levels.items ++ map top_level (drop l.trap-index l.traps) ≡ map top_level l.traps
