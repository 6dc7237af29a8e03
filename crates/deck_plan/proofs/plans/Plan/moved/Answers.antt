use Rattle.std.proofs.Common.{◌≡◌, ◌∙◌, map, length, slice_get, ap, subst, List, Some, arith}
use Rattle.half_grid.specs.Windows.{RowRange}
use Rattle.deck_text.specs.declared.deck.Deck.{Deck}
use Rattle.deck_text.specs.declared.deck.Step.{Step}
use Rattle.deck_plan.specs.Areas.{IsInStep}
use Rattle.deck_plan.specs.Lists.{HasArea, IsListed, list_at}
use Rattle.deck_plan.specs.Ready.{IsReady}
use Rattle.deck_plan.proofs.Slots.{filled}
use Rattle.deck_plan.proofs.MoveLemmas.{some_weaker}
use Rattle.deck_plan.proofs.PlanLemmas.{halo_bounds}
use Rattle.deck_plan.proofs.ReadyLemmas.{lists_joined, next_area, ready_some, window_of, map_same}
use Rattle.deck_plan.proofs.plans.Plan.moved.Goals as goal

pub window-window-requires-clause-halo : goal.window-window-requires-clause-halo
window-window-requires-clause-halo c =
    let s = c.deck-deck.ensures.sound.2 in
    let n = c.requires.named in
    halo_bounds c.args.self.now.deck n.0 c.args.needs.now.by_name (omega (arith, n.2, s.few_steps)) n.3 (length c.args.areas.now)

pub kept_operand-requires-clause-sound : goal.kept_operand-requires-clause-sound
kept_operand-requires-clause-sound c =
    let here = subst (λ (steps : List Step). slice_get steps (length c.args.areas.now) ≡ Some c.step_at-step.result)
    (c.as_slice.ensures ∙ ap (λ (d : Deck). d.steps) c.deck-deck.ensures.value) c.step_at-step.ensures in
    (c.args.self.now.deck.frame, c.deck-deck.ensures.sound.2.steps (length c.args.areas.now) c.step_at-step.result here)

pub kept_operand-requires-clause-few : goal.kept_operand-requires-clause-few
kept_operand-requires-clause-few c = omega (arith, c.requires.named.1, c.requires.named.2, c.deck-deck.ensures.sound.2.few_steps)

pub kept_operand-requires-clause-joined : goal.kept_operand-requires-clause-joined
kept_operand-requires-clause-joined c = λ a.
    let plan = c.args.self.now in
    let lists = map (λ list. list.items) c.args.areas.now in
    lists_joined plan.cells plan.top plan.deck c.args.band c.args.needs.now.by_name (length c.args.areas.now) lists c.requires.held a

pub returns-in-Some-clause-ready : goal.returns-in-Some-clause-ready
returns-in-Some-clause-ready c =
    let plan = c.args.self.now in
    let s = c.deck-deck.ensures.sound.2 in
    let n = length c.args.areas.now in
    let lists = map (λ list. list.items) c.args.areas.now in
    let here = subst (λ (steps : List Step). slice_get steps (length c.args.areas.now) ≡ Some c.step_at-step.result)
    (c.as_slice.ensures ∙ ap (λ (d : Deck). d.steps) c.deck-deck.ensures.value) c.step_at-step.ensures in
    let need = c.in-Some._need in
    let there = filled c.args.needs.now.by_name n need c.in-Some.is in
    let is = window_of c.args.band need _ c.window-window.result c.in-Some.is c.window-window.ensures in
    some_weaker c.kept_operand.result _ (λ name. IsReady plan.cells plan.top plan.deck c.args.band c.args.needs.now.by_name n (list_at lists name))
    (λ name h. ready_some plan.cells plan.top plan.deck c.args.band c.args.needs.now.by_name n need (list_at lists name) there
    (next_area plan.cells plan.top plan.deck c.args.band c.args.needs.now.by_name s.steps c.requires.named.0
    c.requires.named.3 lists n
    (λ m early. c.requires.held m (omega (arith, early, map_same (λ list. list.items) c.args.areas.now)))
    c.step_at-step.result need (list_at lists name) here there c.requires.lists
    (subst (λ (w : RowRange). HasArea w
    (λ t. IsInStep plan.cells plan.top plan.deck.frame (IsListed lists) c.step_at-step.result t)
    (list_at lists name)) is (h plan.cells plan.top plan.deck.frame))))
    c.kept_operand.ensures.area
