use Rattle.row_lists.proofs.HalfwayLemmas.{begins_halfway, goes_on_halfway, passes_point, ends_halfway}
use Rattle.row_lists.proofs.laws.stop_laws.Goals as goal

pub returns : goal.returns
returns c = record {
  begins = begins_halfway;
  goes_on = goes_on_halfway;
  passes = passes_point;
  ends = ends_halfway;
}
