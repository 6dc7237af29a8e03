use Rattle.std.proofs.Common.{subst, arith}
use Rattle.std.proofs.lemmas.Result.{IfOk-weaker}
use Rattle.half_grid.specs.Windows.{RowRange}
use Rattle.deck_plan.specs.Areas.{IsInArea}
use Rattle.deck_plan.specs.LayerSets.{OfLayers}
use Rattle.deck_plan.specs.Lists.{HasArea}
use Rattle.deck_plan.specs.Plans.{Planned}
use Rattle.deck_plan.specs.Ready.{IsReady}
use Rattle.deck_plan.proofs.OwnLayerLemmas.{layers_area, layers_found}
use Rattle.deck_plan.proofs.PlanLemmas.{halo_bounds}
use Rattle.deck_plan.proofs.ReadyLemmas.{ready_none, ready_some, window_of}
use Rattle.deck_plan.proofs.Slots.{filled}
use Rattle.deck_plan.proofs.plans.Plan.layers_area.Goals as goal

pub window-window-requires-clause-halo : goal.window-window-requires-clause-halo
window-window-requires-clause-halo c =
    let s = c.deck-deck.ensures.sound.2 in
    let n = c.requires.named in
    halo_bounds c.args.self.now.deck n.0 c.args.needs.now.by_name (omega (arith, n.2, s.few_steps)) n.3 c.args.number

pub returns-in-Some : goal.returns-in-Some
returns-in-Some c =
    let plan = c.args.self.now in
    let s = c.deck-deck.ensures.sound.2 in
    let needs = c.args.needs.now.by_name in
    let need = c.in-Some._need in
    let there = filled needs c.args.number need c.in-Some.is in
    let is = window_of c.args.band need _ c.window-window.result c.in-Some.is c.window-window.ensures in
    IfOk-weaker c.layers_area.result _ (λ traps. IsReady plan.cells plan.top plan.deck c.args.band needs c.args.number traps.items)
    (λ traps h. ready_some plan.cells plan.top plan.deck c.args.band needs c.args.number need traps.items there
    (subst (λ (w : RowRange). HasArea w (λ t. IsInArea plan.cells plan.top plan.deck c.args.number t) traps.items) is
    (layers_area plan.cells plan.top plan.deck s.steps c.window-window.result c.args.number c.args.layers traps.items
    (layers_found plan.deck.steps needs c.args.number c.args.layers c.requires.layers)
    (subst (λ (p : Planned). HasArea c.window-window.result (OfLayers p.cells p.top c.args.layers) traps.items) c.self.view_is h))))
    c.layers_area.ensures

pub returns-in-None : goal.returns-in-None
returns-in-None c = ready_none c.args.self.now.cells c.args.self.now.top c.args.self.now.deck c.args.band
    c.args.needs.now.by_name c.args.number c.new.result.items c.in-None.is c.new.ensures.items
