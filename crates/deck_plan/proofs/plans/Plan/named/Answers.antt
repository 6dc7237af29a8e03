use Rattle.std.proofs.Common.{◌≡◌, ◌∙◌, ◌<◌, ap, sym, subst, List, length, IsSomeAnd, slice_get, get_or}
use Rattle.deck_text.specs.declared.deck.Output.{Output}
use Rattle.deck_plan.proofs.PlanLemmas.{named_is, named_inside}
use Rattle.deck_plan.proofs.plans.Plan.named.Goals as goal

same : (c : goal.After-index-as_slice-output) → c.args.self.now.deck.outputs ≡ c.as_slice.result.now
same c = sym (c.as_slice.ensures ∙ ap (λ d. d.outputs) c.deck.ensures.value)

pub returns-clause-named : goal.returns-clause-named
returns-clause-named c =
    subst (λ (outputs : List Output). IsSomeAnd (slice_get c.args.self.now.deck.outputs c.args.output)
    (λ output. output.name ≡ (get_or outputs c.args.output c.index-as_slice-output.result).name)) (same c)
    (named_is c.args.self.now.deck.outputs c.args.output c.index-as_slice-output.result c.requires)

pub returns-clause-inside : goal.returns-clause-inside
returns-clause-inside c =
    let s = c.deck.ensures.sound in
    subst (λ (outputs : List Output). (get_or outputs c.args.output c.index-as_slice-output.result).name < length c.args.self.now.deck.steps) (same c)
    (named_inside s.0 s.1 (length c.args.self.now.deck.steps) c.args.self.now.deck.outputs c.args.output c.index-as_slice-output.result s.2.outputs c.requires)
