use Rattle.std.proofs.Common.{◌<◌, sym, subst, length, slice_get, get_or, None, arith}
use Rattle.deck_text.specs.declared.deck.Deck.{Deck}
use Rattle.deck_plan.specs.Needs.{IsNeeded}
use Rattle.deck_plan.specs.Halos.{AreHalos, window_for}
use Rattle.deck_plan.proofs.NeedLemmas.{windows_needed}
use Rattle.deck_plan.proofs.PlanLemmas.{some_and_weaker, halo_bounds}
use Rattle.deck_plan.proofs.plans.Plan.needs.Goals as goal

pub of-requires-clause-name : goal.of-requires-clause-name
of-requires-clause-name c = subst (λ (d : Deck). c.named-named.result < length d.steps) (sym c.deck.ensures.value) c.named-named.ensures.inside

pub window-requires-clause-halo : goal.window-requires-clause-halo
window-requires-clause-halo c =
    let s = c.deck.ensures.sound in
    halo_bounds c.deck.result.now c.named-named.result c.of.result.by_name (omega (arith, c.named-named.ensures.inside, s.2.few_steps)) c.of.ensures c.args.name

pub returns : goal.returns
returns c =
    let s = c.deck.ensures.sound in
    let deck = c.args.self.now.deck in
    let halos = subst (λ (d : Deck). AreHalos d c.named-named.result 0 c.of.result.by_name) c.deck.ensures.value c.of.ensures in
    let windows = windows_needed deck s.2.steps c.named-named.result c.args.band c.requires.band.has_rows c.of.result.by_name halos in
    some_and_weaker (slice_get deck.outputs c.args.output) _ (λ output. IsNeeded deck output.name c.args.band c.args.name c.window.result)
    (λ output same. subst (λ n. IsNeeded deck n c.args.band c.args.name c.window.result) (sym same)
    (λ n. window_for c.args.band (get_or c.of.result.by_name n None), windows, sym c.window.ensures))
    c.named-named.ensures.named
