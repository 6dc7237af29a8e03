use Rattle.std.proofs.Common.{◌≡◌, ◌++◌}
use Rattle.oas_shapes.proofs.paths.push_all.Given as goal

abbrev pub invariant-loop-shape : goal.invariant-loop-shape
invariant-loop-shape l = l.list ≡ l.fn.list ++ l.yielded
