use Rattle.std.proofs.Common.{◌≡◌, take, vec_capacity}
use Rattle.std.specs.List.{filter}
use Rattle.field_output.specs.Meeting.{goes_on}
use Rattle.field_output.proofs.NumberLemmas.{passes}
use Rattle.field_output.proofs.filling.keep_carried.Given as goal

-- what was kept is what passes of the numbers that were looked at
abbrev pub invariant-loop-number : goal.invariant-loop-number
invariant-loop-number l = record {
  items : l.carried.items ≡ filter (passes l.shots (goes_on l.span.size l.span.first l.stripe)) (take l.number-index l.chosen);
  capacity : vec_capacity l.carried ≡ vec_capacity l.fn.carried;
}
