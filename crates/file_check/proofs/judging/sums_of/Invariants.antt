use Rattle.std.proofs.Common.{◌≡◌, ◌*◌, ◌^◌, ◌≤◌, take}
use Rattle.shot_writer.specs.Writing.{triangles_of}
use Rattle.file_check.proofs.judging.sums_of.Given as goal

abbrev pub invariant-loop-shot : goal.invariant-loop-shot
invariant-loop-shot l = record {
  triangles : l.triangles ≡ triangles_of (take l.shot-index l.shots);
  few : l.triangles ≤ l.shot-index * 2 ^ 91;
}
