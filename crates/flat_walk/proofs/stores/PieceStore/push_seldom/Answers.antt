use Rattle.std.proofs.Common.{◌∙◌, ◌++◌, ◌∷◌, [], ap, arith}
use Rattle.flat_walk.specs.Stores.{entry_of}
use Rattle.flat_walk.proofs.StoreLemmas.{seldom_before, seldom_then, err_from, AreAsBefore, AreThen}
use Rattle.flat_walk.proofs.stores.PieceStore.push_seldom.Goals as goal

before : (c : goal.After-from_residual-in_err-push-2) → AreAsBefore c.self.inside.pieces.items c.push.new.self.items c.push-2.new.self.items c.args.self.now
before c =
    let s = c.self.inside in
    seldom_before s.pieces.items s.seldom.items (entry_of c.args.form ∷ []) c.push.new.self.items s.places.items c.push-2.new.self.items c.args.self.now
    c.in_ok-push.ensures.items c.in_err-push-2.ensures.items c.self.invariant c.self.view_is

pub invariant_of-self-in_err-push-2 : goal.invariant_of-self-in_err-push-2
invariant_of-self-in_err-push-2 c = (before c).there

pub returns-in_err-push-2-clause-err : goal.returns-in_err-push-2-clause-err
returns-in_err-push-2-clause-err c = err_from c.from_residual-in_err-push-2.result (before c).view

then : (c : goal.In_ok-push-2) → AreThen c.self.inside.pieces.items c.push.new.self.items c.push-2.new.self.items c.args.self.now (entry_of c.args.form)
then c =
    let s = c.self.inside in
    seldom_then s.pieces.items s.seldom.items c.push.new.self.items s.places.items c.push-2.new.self.items c.args.self.now
    c.len-number.result (entry_of c.args.form)
    (omega (arith, c.len-number.ensures, s.seldom.ok)) c.in_ok-push.ensures.items
    (c.in_ok-push-2.ensures.items ∙ ap (λ p. s.places.items ++ p ∷ []) c.seldom_place.ensures) c.self.invariant c.self.view_is

pub invariant_of-self-2 : goal.invariant_of-self-2
invariant_of-self-2 c = (then c).there

pub returns-clause-ok : goal.returns-clause-ok
returns-clause-ok c = (then c).view
