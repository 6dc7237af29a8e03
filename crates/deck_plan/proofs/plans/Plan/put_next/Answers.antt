use Rattle.std.proofs.Common.{◌≡◌, ◌∙◌, ◌+◌, ◌<◌, ◌++◌, ◌∷◌, [], IfSome, List, Some, Contains, map, length, slice_get, ap, sym, subst, arith, length-append}
use Rattle.deck_text.specs.declared.deck.Deck.{Deck}
use Rattle.deck_text.specs.declared.deck.Step.{Step}
use Rattle.deck_plan.specs.declared.needs.Taken.{Taken}
use Rattle.deck_plan.specs.Needs.{operands_of}
use Rattle.deck_plan.specs.Ready.{IsHeld, AreHeld, let_go}
use Rattle.deck_plan.proofs.HaloLemmas.{sound_first, sound_second}
use Rattle.deck_plan.proofs.StepLemmas.{sound_operand}
use Rattle.deck_plan.proofs.ReadyLemmas.{held_step}
use Rattle.deck_plan.proofs.plans.Plan.put_next.Goals as goal

-- each operand stands before the definition
early : (c : goal.After-operands_of) → (operand : Taken) → Contains (operands_of c.step_at-step.result) operand
    → operand.name < length c.next_entry.new.areas.items + 1
early c operand among =
    let s = c.deck.ensures.sound.2 in
    let at = subst (λ (steps : List Step). slice_get steps c.len-number.result ≡ Some c.step_at-step.result)
    (c.as_slice.ensures ∙ ap (λ (d : Deck). d.steps) c.deck.ensures.value) c.step_at-step.ensures in
    let o = (sound_operand c.args.self.now.deck.frame c.len-number.result c.step_at-step.result operand
    (s.steps c.len-number.result c.step_at-step.result at) among).earlier in
    omega (arith, o, c.len-number.ensures, c.next_entry.ensures.same)

-- the list after the others
put_long : (c : goal.After-operands_of) → length c.push.new.self.items ≡ length c.next_entry.new.areas.items + 1
put_long c = ap length c.in_ok-push.ensures.items ∙ length-append c.next_entry.new.areas.items (c.in_ok-list.list ∷ [])

first_early : (c : goal.After-operands_of) → IfSome c.operands_of.result.first (λ operand. operand.name < length c.next_entry.new.areas.items + 1)
first_early c = sound_first
    (λ operand. operand.name < length c.next_entry.new.areas.items + 1) c.operands_of.result.first
    c.operands_of.result.second (operands_of c.step_at-step.result) c.operands_of.ensures.list (early c)

second_early : (c : goal.After-operands_of) → IfSome c.operands_of.result.second (λ operand. operand.name < length c.next_entry.new.areas.items + 1)
second_early c = sound_second
    (λ operand. operand.name < length c.next_entry.new.areas.items + 1) c.operands_of.result.first
    c.operands_of.result.second (operands_of c.step_at-step.result) c.operands_of.ensures.list (early c)

pub let_go-requires-clause-first : goal.let_go-requires-clause-first
let_go-requires-clause-first c = subst (λ n. IfSome c.operands_of.result.first (λ operand. operand.name < n)) (sym (put_long c)) (first_early c)

pub let_go-requires-clause-second : goal.let_go-requires-clause-second
let_go-requires-clause-second c = subst (λ n. IfSome c.operands_of.result.second (λ operand. operand.name < n)) (sym (put_long c)) (second_early c)

-- what is held once it is done
next_held : (c : goal.After-let_go) → (length c.let_go.new.areas.items ≡ length c.args.areas.now.items + 1)
    × AreHeld c.args.self.now.cells c.args.self.now.top c.args.self.now.deck c.args.band c.args.needs.now.by_name
    (length c.let_go.new.areas.items) (map (λ list. list.items) c.let_go.new.areas.items)
next_held c =
    let plan = c.args.self.now in
    let needs = c.args.needs.now.by_name in
    let old = c.args.areas.now.items in
    let new = c.let_go.new.areas.items in
    let first = c.operands_of.result.first in
    let second = c.operands_of.result.second in
    let mid = c.next_entry.new.areas.items in
    let same : length old ≡ length mid = sym c.next_entry.ensures.same in
    let entry = subst (λ n. IsHeld plan.cells plan.top plan.deck c.args.band needs (n + 1) n c.in_ok-list.list.items) same c.in_ok-list.ensures.entry in
    let held = subst (λ n. AreHeld plan.cells plan.top plan.deck c.args.band needs (n + 1) (map (λ list. list.items) mid)) same c.next_entry.ensures.held in
    let put = subst (λ xs. map (λ list. list.items) new ≡ let_go needs c.len-number.result second
    (let_go needs c.len-number.result first (map (λ list. list.items) xs))) c.in_ok-push.ensures.items
    c.let_go.ensures in
    let number : c.len-number.result ≡ length mid = omega (arith, c.len-number.ensures, same) in
    let is = subst (λ n. map (λ list. list.items) new ≡ let_go needs n second
    (let_go needs n first (map (λ list. list.items) (mid ++ c.in_ok-list.list ∷ [])))) number put in
    let step = held_step plan.cells plan.top plan.deck c.args.band needs
    (λ list. list.items) mid c.in_ok-list.list first second new held entry (first_early c.before)
    (second_early c.before) is in
    (omega (arith, step.0, same), step.1)

pub returns-clause-one : goal.returns-clause-one
returns-clause-one c = (next_held c).0

pub returns-clause-held : goal.returns-clause-held
returns-clause-held c = (next_held c).1
