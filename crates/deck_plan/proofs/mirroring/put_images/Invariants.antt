use Rattle.std.proofs.Common.{◌≡◌, ◌≤◌, ◌++◌, length, map, reverse, drop}
use Rattle.tone_mirror.specs.Mirrors.{mirrored_trapezoid}
use Rattle.deck_plan.proofs.mirroring.put_images.Given as goal

-- the images of those from this number on are there
abbrev pub invariant-loop-number : goal.invariant-loop-number
invariant-loop-number l = record {
  within : l.number ≤ length l.traps;
  images : l.images.items ≡ l.fn.images.items ++ reverse (map (mirrored_trapezoid l.axis.m) (drop l.number l.traps));
}

abbrev pub decreases-loop-number : goal.decreases-loop-number
decreases-loop-number l = l.number
