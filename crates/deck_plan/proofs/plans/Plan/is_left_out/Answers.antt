use Rattle.std.proofs.Common.{◌∙◌, sym}
use Rattle.std.proofs.lemmas.Bool.{false≢true}
use Rattle.deck_plan.proofs.OwnLayerLemmas.{left_out}
use Rattle.deck_plan.proofs.Slots.{filled}
use Rattle.deck_plan.proofs.plans.Plan.is_left_out.Goals as goal

pub returns : goal.returns
returns c = λ is.
    let needs = c.args.needs.now.by_name in
    left_out c.args.self.now.deck c.requires.0 needs c.requires.3 c.args.number c.in-Some.need
    (filled needs c.args.number c.in-Some.need c.in-Some.is) c.if-need.false
    (λ none. (let never = rw (c.own_layers.ensures ∙ none) at c.is_some.ensures in false≢true (sym never ∙ is)))
