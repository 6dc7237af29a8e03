use Rattle.row_lists.proofs.Windings.{gives_windings, stays_until_stop, none_in_empty_row}
use Rattle.row_lists.proofs.Unique.{one_row_list}
use Rattle.row_lists.proofs.RunLemmas.{runs_by_row_list}
use Rattle.row_lists.proofs.laws.row_list_laws.Goals as goal

pub returns : goal.returns
returns c = record {
  windings = gives_windings;
  stays = λ edges j k lines list up none apart. stays_until_stop edges j k lines list up none apart;
  one = one_row_list;
  runs = runs_by_row_list;
  none = none_in_empty_row;
}
