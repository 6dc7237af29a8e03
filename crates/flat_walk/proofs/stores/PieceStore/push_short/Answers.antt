use Rattle.std.proofs.Common.{refl, arith, length}
use Rattle.flat_walk.specs.Kept.{alone}
use Rattle.flat_walk.proofs.StoreLemmas.{pieces_before, short_then, err_from, AreAsBefore, AreThen}
use Rattle.flat_walk.proofs.stores.PieceStore.push_short.Goals as goal

before_err : (c : goal.After-from_residual) → AreAsBefore c.put_short.new.pieces.items c.self.inside.seldom.items c.self.inside.places.items c.args.self.now
before_err c =
    let s = c.self.inside in
    let more = c.put_short.ensures.added in
    pieces_before s.pieces.items more.0 c.put_short.new.pieces.items s.seldom.items s.places.items s.places.items c.args.self.now
    more.1 refl c.self.invariant c.self.view_is

pub invariant_of-self : goal.invariant_of-self
invariant_of-self c = (before_err c).there

pub returns-in_err-put_short-clause-err : goal.returns-in_err-put_short-clause-err
returns-in_err-put_short-clause-err c = err_from c.from_residual.result (before_err c).view

before_not : (c : goal.Then-not-branch) → AreAsBefore c.put_short.new.pieces.items c.self.inside.seldom.items c.self.inside.places.items c.args.self.now
before_not c =
    let s = c.self.inside in
    let more = c.put_short.ensures.added in
    pieces_before s.pieces.items more.0 c.put_short.new.pieces.items s.seldom.items s.places.items s.places.items c.args.self.now
    more.1 refl c.self.invariant c.self.view_is

pub invariant_of-self-then-not-branch : goal.invariant_of-self-then-not-branch
invariant_of-self-then-not-branch c = (before_not c).there

pub returns-then-not-branch-clause-ok : goal.returns-then-not-branch-clause-ok
returns-then-not-branch-clause-ok c = (before_not c).view

before_push : (c : goal.After-from_residual-in_err-push)
    → AreAsBefore c.put_short.new.pieces.items c.self.inside.seldom.items c.push.new.self.items c.args.self.now
before_push c =
    let s = c.self.inside in
    let more = c.put_short.ensures.added in
    pieces_before s.pieces.items more.0 c.put_short.new.pieces.items s.seldom.items s.places.items c.push.new.self.items c.args.self.now
    more.1 c.in_err-push.ensures.items c.self.invariant c.self.view_is

pub invariant_of-self-in_err-push : goal.invariant_of-self-in_err-push
invariant_of-self-in_err-push c = (before_push c).there

pub returns-in_err-push-clause-err : goal.returns-in_err-push-clause-err
returns-in_err-push-clause-err c = err_from c.from_residual-in_err-push.result (before_push c).view

then : (c : goal.In_ok-push)
    → AreThen c.put_short.new.pieces.items c.self.inside.seldom.items c.push.new.self.items c.args.self.now (alone c.args.traps.now)
then c =
    let s = c.self.inside in
    short_then s.pieces.items c.args.traps.now c.put_short.new.pieces.items s.seldom.items s.places.items c.push.new.self.items c.args.self.now
    c.len-first.result (length c.args.traps.now) (omega (arith, c.len-first.ensures, s.pieces.ok)) refl
    (c.in_ok-put_short.ensures.all c.if-not-branch.false) c.in_ok-push.ensures.items c.self.invariant c.self.view_is

pub invariant_of-self-2 : goal.invariant_of-self-2
invariant_of-self-2 c = (then c).there

pub returns-clause-ok : goal.returns-clause-ok
returns-clause-ok c = (then c).view
