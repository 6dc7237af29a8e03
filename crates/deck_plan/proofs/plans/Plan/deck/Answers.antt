use Rattle.std.proofs.Common.{List, ℕ, ap, subst}
use Rattle.deck_text.specs.Sound.{IsSound}
use Rattle.deck_text.specs.declared.deck.Deck.{Deck}
use Rattle.deck_text.proofs.ForCallers.{sound}
use Rattle.deck_plan.proofs.plans.Plan.deck.Goals as goal

pub returns-clause-sound : goal.returns-clause-sound
returns-clause-sound c =
    let i = c.self.invariant.0 in
    subst (λ (d : Deck). (layout_name deck_name : List ℕ) × IsSound layout_name deck_name d) (ap (λ p. p.deck) c.self.view_is)
    (i.layout_name, i.deck_name, sound i.bytes i.layout_name i.deck_name c.self.inside.deck.now i.is)
