use Rattle.row_lists.proofs.EventLemmas.{weights_by_events}
use Rattle.row_lists.proofs.laws.event_laws.Goals as goal

pub returns : goal.returns
returns c = weights_by_events
