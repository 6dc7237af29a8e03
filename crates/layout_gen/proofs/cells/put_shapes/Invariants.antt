use Rattle.std.proofs.Common.{◌-◌, ◌≡◌, ◌+◌, ◌*◌, ◌/◌, ◌≤◌, ◌++◌, length}
use Rattle.layout_gen.specs.Generated.{shapes_from}
use Rattle.layout_gen.proofs.cells.put_shapes.Given as goal

abbrev pub invariant-loop-m : goal.invariant-loop-m
invariant-loop-m l = record {
  first : 1 ≤ l.m;
  last : l.m ≤ 17;
  value : l.buffer ++ shapes_from l.n l.m (17 - l.m) ≡ l.fn.buffer ++ shapes_from l.n 1 16;
  size : length l.buffer ≡ length l.fn.buffer + (56 * (l.m - 1) + 8 * (l.m / 2));
}

abbrev pub decreases-loop-m : goal.decreases-loop-m
decreases-loop-m l = 17 - l.m
