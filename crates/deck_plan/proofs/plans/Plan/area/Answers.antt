use Rattle.std.proofs.Common.{◌≡◌, subst, length, All, arith}
use Rattle.std.proofs.lemmas.Result.{IfOk-weaker}
use Rattle.half_grid.specs.Trapezoids.{IsShot}
use Rattle.deck_text.specs.declared.deck.Deck.{Deck}
use Rattle.bool_ops.specs.Operations.{IsJoinedOf}
use Rattle.deck_plan.specs.Areas.{IsInBand}
use Rattle.deck_plan.specs.Halos.{AreHalos}
use Rattle.deck_plan.specs.Ready.{IsReady}
use Rattle.deck_plan.proofs.ReadyLemmas.{ready_shots, own_area, output_area}
use Rattle.deck_plan.proofs.plans.Plan.area.Goals as goal

-- the last list is that of the output's definition
last_number : (c : goal.After-drop-areas-2) → length c.loop-needs.areas.items ≡ c.named-named.result
last_number c = omega (arith, c.loop-needs.invariant.few, c.loop-needs-test.false, c.len.ensures)

pub returns-clause-shots : goal.returns-clause-shots
returns-clause-shots c =
    let plan = c.args.self.now in
    let s = c.deck.ensures.sound.2 in
    let named = c.named-named.result in
    let needs = c.of-needs.result.by_name in
    IfOk-weaker c.next_list.result _ (λ traps. All IsShot traps.items)
    (λ traps ready. ready_shots plan.cells plan.top plan.deck c.args.band needs s.steps c.layers_are_near.ensures
    s.frame named traps.items (omega (arith, c.named-named.ensures.inside, s.few_steps))
    (subst (λ n. IsReady plan.cells plan.top plan.deck c.args.band needs n traps.items) (last_number c) ready))
    c.next_list.ensures.ready

pub returns-clause-joined : goal.returns-clause-joined
returns-clause-joined c =
    let plan = c.args.self.now in
    let named = c.named-named.result in
    let needs = c.of-needs.result.by_name in
    let halos = subst (λ (d : Deck). AreHalos d named 0 needs) c.deck.ensures.value c.of-needs.ensures in
    IfOk-weaker c.next_list.result _ (λ traps. IsJoinedOf c.args.band (IsInBand plan.cells plan.top plan.deck c.args.output c.args.band) traps.items)
    (λ traps ready. output_area plan.cells plan.top plan.deck c.args.band needs named c.args.output traps.items c.named-named.ensures.named
    (own_area plan.cells plan.top plan.deck c.args.band needs named traps.items halos
    (subst (λ n. IsReady plan.cells plan.top plan.deck c.args.band needs n traps.items) (last_number c) ready)))
    c.next_list.ensures.ready
