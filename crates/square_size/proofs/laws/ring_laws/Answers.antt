use Rattle.square_size.proofs.EdgeWindings.{edges_have_winding}
use Rattle.square_size.proofs.GrownLists.{grown_wind, others_do_not_wind}
use Rattle.square_size.proofs.Balance.{grown_are_balanced}
use Rattle.square_size.proofs.laws.ring_laws.Goals as goal

pub returns : goal.returns
returns c = record {
  winding = edges_have_winding;
  near = λ dx dy traps t r. grown_wind dx dy r traps t;
  others = λ dx dy traps t r. others_do_not_wind dx dy r traps t;
  balanced = grown_are_balanced;
}
