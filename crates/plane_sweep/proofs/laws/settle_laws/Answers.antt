use Rattle.plane_sweep.proofs.Settling.{nothing_settled, one_ends, one_begins, one_goes_on}
use Rattle.plane_sweep.proofs.laws.settle_laws.Goals as goal

pub returns : goal.returns
returns c = record { none = nothing_settled; one_ends = one_ends; begins = one_begins; goes = one_goes_on }
