use Rattle.std.proofs.Common.{◌≡◌, ◌∙◌, List, Some, slice_get, ap, subst}
use Rattle.deck_text.specs.declared.deck.Deck.{Deck}
use Rattle.deck_text.specs.declared.deck.Step.{Step}
use Rattle.deck_plan.proofs.plans.Plan.own_layers.Goals as goal

pub own_layers-requires-clause-sound : goal.own_layers-requires-clause-sound
own_layers-requires-clause-sound c = λ step here. (
  c.args.self.now.deck.frame,
  c.deck.ensures.sound.2.steps c.args.number step
      (subst (λ (steps : List Step). slice_get steps c.args.number ≡ Some step)
      (c.as_slice.ensures ∙ ap (λ (d : Deck). d.steps) c.deck.ensures.value) here),
)
