use Rattle.std.proofs.Common.{◌≡◌, ◌∙◌, ◌++◌, ap, sym, subst}
use Rattle.std.proofs.lemmas.Result.{IfOk-weaker}
use Rattle.square_size.specs.EdgeLaws.{IsInSome}
use Rattle.deck_plan.specs.Lists.{HasArea, OfBoth}
use Rattle.deck_plan.specs.Moves.{list_of}
use Rattle.deck_plan.proofs.AreaLists.{combined_has}
use Rattle.deck_plan.proofs.KeptLemmas.{kept_has, one_of_joined}
use Rattle.deck_plan.proofs.steps.combined_area.Goals as goal

pub returns-in-Some : goal.returns-in-Some
returns-in-Some c =
    let a = c.args.a.now in
    let b = c.args.b.now in
    let list = list_of c.in-Some.operand a b in
    let copied : c.extend_from_slice.new.self.items ≡ list = c.in_ok-extend_from_slice.ensures.items
    ∙ (ap (λ start. start ++ c.list_of.result.now) c.new-copy.ensures.items ∙ c.list_of.ensures) in
    subst (HasArea c.args.window (λ t. OfBoth c.args.op (IsInSome a t) (IsInSome b t))) (sym copied)
    (kept_has c.args.window (λ t. OfBoth c.args.op (IsInSome a t) (IsInSome b t)) list
    (one_of_joined c.in-Some.operand a b c.requires.first c.requires.second) c.in-Some.ensures.inside c.in-Some.ensures.tiles)

pub returns : goal.returns
returns c =
    IfOk-weaker c.combine.result _ (λ traps. HasArea c.args.window (λ t. OfBoth c.args.op (IsInSome c.args.a.now t) (IsInSome c.args.b.now t)) traps.items)
    (λ traps joined. combined_has c.args.op c.args.a.now c.args.b.now c.args.window traps.items joined)
    c.combine.ensures
