use Rattle.std.proofs.Common.{◌≡◌, ◌∙◌, ◌+◌, ◌<◌, true, map, length, get_or, ap, sym, subst, None, IfOk, arith}
use Rattle.deck_plan.specs.Lists.{list_at}
use Rattle.deck_plan.specs.Ready.{AreHeld, IsReady, ends_at}
use Rattle.deck_plan.proofs.ReadyLemmas.{all_held_on, held_moved, map_same}
use Rattle.deck_plan.proofs.Slots.{set_length}
use Rattle.deck_plan.proofs.plans.Plan.next_list.Goals as goal

pub returns-in-Some-moved-clause-same : goal.returns-in-Some-moved-clause-same
returns-in-Some-moved-clause-same c =
    sym (map_same (λ list. list.items) c.take_list.new.areas.items) ∙ (ap length c.take_list.ensures.left
    ∙ (set_length (map (λ list. list.items) c.args.areas.now.items) c.in-Some-moved.name _ ∙ map_same (λ list. list.items) c.args.areas.now.items))

pub returns-in-Some-moved-clause-ready : goal.returns-in-Some-moved-clause-ready
returns-in-Some-moved-clause-ready c =
    let plan = c.args.self.now in
    let needs = c.args.needs.now.by_name in
    let name = c.in-Some-moved.name in
    let ready = subst (λ xs. IsReady plan.cells plan.top plan.deck c.args.band needs (length xs)
    (list_at (map (λ list. list.items) xs) name)) c.as_slice.ensures.value c.in-Some-moved.ensures.ready in
    subst (IsReady plan.cells plan.top plan.deck c.args.band needs (length c.args.areas.now.items)) (sym c.take_list.ensures.list) ready

pub returns-in-Some-moved-clause-held : goal.returns-in-Some-moved-clause-held
returns-in-Some-moved-clause-held c =
    let plan = c.args.self.now in
    let needs = c.args.needs.now.by_name in
    let name = c.in-Some-moved.name in
    let old = c.args.areas.now.items in
    let lists = map (λ list. list.items) old in
    let inside : name < length old = subst (λ xs. name < length xs) c.as_slice.ensures.value c.in-Some-moved.ensures.inside in
    let last : ends_at (get_or needs name None) (length old) ≡ true = subst
    (λ xs. ends_at (get_or needs name None) (length xs) ≡ true) c.as_slice.ensures.value c.in-Some-moved.ensures.last
    in
    subst (AreHeld plan.cells plan.top plan.deck c.args.band needs (length old + 1)) (sym c.take_list.ensures.left)
    (held_moved plan.cells plan.top plan.deck c.args.band needs (length old) name lists
    (omega (arith, inside, map_same (λ list. list.items) old)) last c.requires.held)

pub returns-in-None-clause-held : goal.returns-in-None-clause-held
returns-in-None-clause-held c =
    let plan = c.args.self.now in
    let old = c.args.areas.now.items in
    all_held_on plan.cells plan.top plan.deck c.args.band c.args.needs.now.by_name (length old) (map (λ list. list.items) old) c.requires.held

pub returns-in-Some-clause-ready : goal.returns-in-Some-clause-ready
returns-in-Some-clause-ready c =
    let plan = c.args.self.now in
    let number : c.len-in-Some.result ≡ length c.args.areas.now.items = omega (arith, c.len-in-Some.ensures) in
    subst (λ n. IfOk c.layers_area.result (λ traps. IsReady plan.cells plan.top plan.deck c.args.band c.args.needs.now.by_name n traps.items))
    number c.layers_area.ensures

pub returns-in-Some-clause-held : goal.returns-in-Some-clause-held
returns-in-Some-clause-held c =
    let plan = c.args.self.now in
    let old = c.args.areas.now.items in
    all_held_on plan.cells plan.top plan.deck c.args.band c.args.needs.now.by_name (length old) (map (λ list. list.items) old) c.requires.held
