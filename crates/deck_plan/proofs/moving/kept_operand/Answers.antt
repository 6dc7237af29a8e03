use Rattle.std.proofs.Common.{◌∙◌, ◌<◌, map, length, sym, subst, arith}
use Rattle.deck_plan.specs.Areas.{IsInStep}
use Rattle.deck_plan.specs.Lists.{HasArea, IsListed, list_at}
use Rattle.deck_plan.proofs.MoveLemmas.{pair_sound, name_sound, kept_of, moved_area}
use Rattle.deck_plan.proofs.moving.kept_operand.Goals as goal

pub list-a-requires : goal.list-a-requires
list-a-requires c = (pair_sound c.requires.sound.0 (length c.args.areas.now) c.in-Some.pair c.args.step.now c.in-Some.ensures.step c.requires.sound.1).0

pub list-b-requires : goal.list-b-requires
list-b-requires c = (pair_sound c.requires.sound.0 (length c.args.areas.now) c.in-Some.pair c.args.step.now c.in-Some.ensures.step c.requires.sound.1).1

inside : (c : goal.After-name_of-name) → c.name_of-name.result < length c.args.areas.now
inside c =
    subst (λ k. k < length c.args.areas.now) (sym c.name_of-name.ensures)
    (name_sound (length c.args.areas.now) c.in-Some.pair c.in-Some-kept.operand
    (pair_sound c.requires.sound.0
    (length c.args.areas.now) c.in-Some.pair c.args.step.now c.in-Some.ensures.step c.requires.sound.1))

pub ends_at-requires : goal.ends_at-requires
ends_at-requires c = omega (arith, inside c, c.requires.few)

pub returns-then-ends_at-clause-inside : goal.returns-then-ends_at-clause-inside
returns-then-ends_at-clause-inside c = inside c.before.before

pub returns-then-ends_at-clause-last : goal.returns-then-ends_at-clause-last
returns-then-ends_at-clause-last c = sym c.ends_at.ensures ∙ c.if-ends_at.true

pub returns-then-ends_at-clause-area : goal.returns-then-ends_at-clause-area
returns-then-ends_at-clause-area c = λ cells top frame.
    let lists = map (λ list. list.items) c.args.areas.now in
    let pair = c.in-Some.pair in
    let operand = c.in-Some-kept.operand in
    let kept = kept_of c.args.window pair.op operand c.list-a.result.now (list_at lists pair.a) c.list-b.result.now
    (list_at lists pair.b) c.list-a.ensures c.list-b.ensures
    (c.in-Some-kept.ensures.inside, c.in-Some-kept.ensures.tiles) in
    subst (λ name. HasArea c.args.window (λ t. IsInStep cells top frame (IsListed lists) c.args.step.now t) (list_at lists name)) (sym c.name_of-name.ensures)
    (moved_area lists c.requires.joined pair operand c.args.window c.args.step.now c.in-Some.ensures.step kept cells top frame)
