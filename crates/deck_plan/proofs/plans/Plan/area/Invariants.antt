use Rattle.std.proofs.Common.{◌≤◌, ◌-◌, map, length}
use Rattle.deck_plan.specs.Ready.{AreHeld}
use Rattle.deck_plan.proofs.plans.Plan.area.Given as goal

-- of the definitions so far what later ones take is there
abbrev pub invariant-loop-needs : goal.invariant-loop-needs
invariant-loop-needs l = record {
  few : length l.areas.items ≤ l.named;
  held : AreHeld l.fn.self.cells l.fn.self.top l.fn.self.deck l.fn.band l.needs.by_name (length l.areas.items) (map (λ list. list.items) l.areas.items);
}

abbrev pub decreases-loop-needs : goal.decreases-loop-needs
decreases-loop-needs l = l.named - length l.areas.items
