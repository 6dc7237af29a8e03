use Rattle.std.proofs.Common.{◌≡◌, ◌+◌, ◌≤◌, ◌-◌, length, drop, map, min}
use Rattle.oas_lex.specs.ShotText.{fields_of}
use Rattle.shot_reader.specs.Near.{AreNear}
use Rattle.shot_repeat.specs.Packed.{most_of_record}
use Rattle.shot_repeat.specs.Packer.{followers}
use Rattle.shot_repeat.proofs.runs.run_from.Given as goal

abbrev pub invariant-loop-next : goal.invariant-loop-next
invariant-loop-next l = record {
  within : l.next ≤ length l.fn.shots;
  few : l.count ≤ most_of_record;
  near : AreNear l.last;
  left : min most_of_record (l.count + followers l.fn.step l.last (map (fields_of l.fn.pair.layer l.fn.pair.datatype) (drop l.next l.fn.shots)))
      ≡ min most_of_record (2 + followers l.fn.step l.fn.second (map (fields_of l.fn.pair.layer l.fn.pair.datatype) (drop l.fn.at l.fn.shots)));
}

abbrev pub decreases-loop-next : goal.decreases-loop-next
decreases-loop-next l = length l.fn.shots - l.next
