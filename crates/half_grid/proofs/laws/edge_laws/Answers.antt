use Rattle.half_grid.proofs.EdgeLemmas.{windings_add, one_inside, none_outside, winding_is_count, operands_apart}
use Rattle.half_grid.proofs.laws.edge_laws.Goals as goal

pub returns : goal.returns
returns c = record {
  windings_add = windings_add;
  one_inside = one_inside;
  none_outside = none_outside;
  winding_is_count = winding_is_count;
  operands_apart = operands_apart;
}
