use Rattle.std.proofs.Common.{◌≡◌, ◌∙◌, ◌^◌, map, length, slice_get, ap, sym, subst, List, Some, arith}
use Rattle.std.proofs.lemmas.Result.{IfOk-weaker}
use Rattle.half_grid.specs.Windows.{RowRange}
use Rattle.cell_tree.specs.Boxes.{IsUpTo}
use Rattle.deck_text.specs.declared.deck.Deck.{Deck}
use Rattle.deck_text.specs.declared.deck.Step.{Step}
use Rattle.deck_plan.specs.Areas.{IsInStep}
use Rattle.deck_plan.specs.Lists.{HasArea, IsListed}
use Rattle.deck_plan.specs.Ready.{IsReady}
use Rattle.deck_plan.proofs.Slots.{filled}
use Rattle.deck_plan.proofs.PlanLemmas.{halo_bounds}
use Rattle.deck_plan.proofs.ReadyLemmas.{lists_near, lists_joined, next_area, ready_some, ready_none, window_near, window_of, map_same}
use Rattle.deck_plan.proofs.plans.Plan.needed_area.Goals as goal

pub window-window-requires-clause-halo : goal.window-window-requires-clause-halo
window-window-requires-clause-halo c =
    let s = c.deck-deck.ensures.sound.2 in
    let n = c.requires.named in
    halo_bounds c.args.self.now.deck n.0 c.args.needs.now.by_name (omega (arith, n.2, s.few_steps)) n.3 (length c.args.areas.now)

pub step_area-requires-clause-legal : goal.step_area-requires-clause-legal
step_area-requires-clause-legal c = λ a.
    let s = c.deck-deck.ensures.sound.2 in
    let n = c.requires.named in
    let plan = c.args.self.now in
    let lists = map (λ list. list.items) c.args.areas.now in
    let long = map_same (λ list. list.items) c.args.areas.now in
    (lists_near plan.cells plan.top plan.deck c.args.band c.args.needs.now.by_name s.steps c.layers_are_near.ensures
    s.frame (length c.args.areas.now) lists (omega (arith, long, n.1, n.2, s.few_steps)) c.requires.held a).0

pub step_area-requires-clause-joined : goal.step_area-requires-clause-joined
step_area-requires-clause-joined c = λ a.
    let plan = c.args.self.now in
    let lists = map (λ list. list.items) c.args.areas.now in
    lists_joined plan.cells plan.top plan.deck c.args.band c.args.needs.now.by_name (length c.args.areas.now) lists c.requires.held a

pub step_area-requires-clause-near : goal.step_area-requires-clause-near
step_area-requires-clause-near c = λ a.
    let s = c.deck-deck.ensures.sound.2 in
    let n = c.requires.named in
    let plan = c.args.self.now in
    let lists = map (λ list. list.items) c.args.areas.now in
    let long = map_same (λ list. list.items) c.args.areas.now in
    (lists_near plan.cells plan.top plan.deck c.args.band c.args.needs.now.by_name s.steps c.layers_are_near.ensures
    s.frame (length c.args.areas.now) lists (omega (arith, long, n.1, n.2, s.few_steps)) c.requires.held a).1

pub step_area-requires-clause-low : goal.step_area-requires-clause-low
step_area-requires-clause-low c =
    let s = c.deck-deck.ensures.sound.2 in
    let n = c.requires.named in
    let need = c.in-Some._need in
    let halo = halo_bounds c.args.self.now.deck n.0 c.args.needs.now.by_name (omega (arith, n.2, s.few_steps)) n.3
    (length c.args.areas.now) need
    (filled c.args.needs.now.by_name (length c.args.areas.now) need c.in-Some.is) in
    let is = window_of c.args.band need _ c.window-window.result c.in-Some.is c.window-window.ensures in
    subst (λ (w : RowRange). IsUpTo (2 ^ 50) w.y0) (sym is) (window_near c.args.band need.halo c.requires.band halo.0 halo.1).0

pub step_area-requires-clause-high : goal.step_area-requires-clause-high
step_area-requires-clause-high c =
    let s = c.deck-deck.ensures.sound.2 in
    let n = c.requires.named in
    let need = c.in-Some._need in
    let halo = halo_bounds c.args.self.now.deck n.0 c.args.needs.now.by_name (omega (arith, n.2, s.few_steps)) n.3
    (length c.args.areas.now) need
    (filled c.args.needs.now.by_name (length c.args.areas.now) need c.in-Some.is) in
    let is = window_of c.args.band need _ c.window-window.result c.in-Some.is c.window-window.ensures in
    subst (λ (w : RowRange). IsUpTo (2 ^ 50) w.y1) (sym is) (window_near c.args.band need.halo c.requires.band halo.0 halo.1).1

pub returns-in-Some : goal.returns-in-Some
returns-in-Some c =
    let plan = c.args.self.now in
    let s = c.deck-deck.ensures.sound.2 in
    let n = length c.args.areas.now in
    let lists = map (λ list. list.items) c.args.areas.now in
    let need = c.in-Some._need in
    let there = filled c.args.needs.now.by_name n need c.in-Some.is in
    let is = window_of c.args.band need _ c.window-window.result c.in-Some.is c.window-window.ensures in
    let here = subst (λ (steps : List Step). slice_get steps n ≡ Some c.step_at-step.result)
    (c.as_slice.ensures ∙ ap (λ (d : Deck). d.steps) c.deck-deck.ensures.value) c.step_at-step.ensures in
    IfOk-weaker c.step_area.result _ (λ traps. IsReady plan.cells plan.top plan.deck c.args.band c.args.needs.now.by_name n traps.items)
    (λ traps h. ready_some plan.cells plan.top plan.deck c.args.band c.args.needs.now.by_name n need traps.items there
    (next_area plan.cells plan.top plan.deck c.args.band c.args.needs.now.by_name s.steps c.requires.named.0
    c.requires.named.3 lists n
    (λ m early. c.requires.held m (omega (arith, early, map_same (λ list. list.items) c.args.areas.now)))
    c.step_at-step.result need traps.items here there c.requires.lists
    (subst (λ (w : RowRange). HasArea w (λ t. IsInStep plan.cells plan.top plan.deck.frame (IsListed lists) c.step_at-step.result t) traps.items) is h)))
    c.step_area.ensures

pub returns-in-None : goal.returns-in-None
returns-in-None c = ready_none c.args.self.now.cells c.args.self.now.top c.args.self.now.deck c.args.band
    c.args.needs.now.by_name (length c.args.areas.now) c.new.result.items c.in-None.is c.new.ensures.items
