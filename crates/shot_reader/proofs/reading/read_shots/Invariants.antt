use Rattle.std.proofs.Common.{◌≡◌, ◌≤◌, ◌-◌, ◌++◌, length, drop, All}
use Rattle.half_grid.specs.Trapezoids.{IsShot}
use Rattle.shot_reader.specs.Reading.{IsPairOf, records_with}
use Rattle.shot_reader.proofs.reading.read_shots.Given as goal

abbrev pub invariant-loop-at : goal.invariant-loop-at
invariant-loop-at l = record {
  within : l.at ≤ length l.fn.bytes;
  pair : IsPairOf l.pair l.shots;
  legal : All IsShot l.shots;
  found : drop l.initial.at l.fn.bytes ≡ records_with l.pair l.shots ++ drop l.at l.fn.bytes;
}

abbrev pub decreases-loop-at : goal.decreases-loop-at
decreases-loop-at l = length l.fn.bytes - l.at
