use Rattle.std.proofs.Common.{subst}
use Rattle.deck_plan.specs.Plans.{Planned, AreAllCut}
use Rattle.deck_plan.proofs.plans.Plan.piece_count.Goals as goal

pub returns : goal.returns
returns c = record {
  table = c.self.inside.parts;
  cut = subst (λ (p : Planned). AreAllCut p.cells p.top c.self.inside.parts) c.self.view_is c.self.invariant.1;
  is = c.count.ensures;
}
