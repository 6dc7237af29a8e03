use Rattle.half_grid.proofs.ReachLemmas.{strip_within}
use Rattle.half_grid.proofs.MeetingLemmas.{places_differ, order_changes, number_between, in_by_number}
use Rattle.half_grid.proofs.laws.line_laws.Goals as goal

pub returns : goal.returns
returns c = record {
  places_differ = places_differ;
  order_changes = order_changes;
  numbers_of_row = λ z t. (number_between z t, in_by_number z t);
  line_within_reach = strip_within;
}
