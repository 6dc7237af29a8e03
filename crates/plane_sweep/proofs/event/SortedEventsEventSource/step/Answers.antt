use Rattle.std.proofs.Common.{drop, ap, sym, ◌∙◌}
use Rattle.std.proofs.lemmas.List.{drop-drop}
use Rattle.plane_sweep.proofs.event.SortedEventsEventSource.step.Goals as goal

pub returns-then-self-len : goal.returns-then-self-len
returns-then-self-len c = sym (drop-drop 1 c.self.inside.at c.self.inside.events.items) ∙ ap (drop 1) c.self.view_is
