use Rattle.std.proofs.Common.{◌∙◌, ◌++◌, ◌∷◌, [], refl, ap, arith}
use Rattle.flat_walk.specs.Kept.{alone}
use Rattle.flat_walk.proofs.CodeLemmas.{store_more, stored_more, code_pushed, coded_pushed, on_err, own_pushed, coded_own}
use Rattle.flat_walk.proofs.entries.EntryTable.push.Goals as goal

pub invariant_of-self-then-is_own : goal.invariant_of-self-then-is_own
invariant_of-self-then-is_own c =
    let s = c.self.inside in
    coded_own s.shapes.now s.store s.codes c.push.new.self c.len.result
    c.len.ensures c.in_ok-push.ensures.ok
    (c.if-is_own.ensures.shape refl) c.self.invariant

pub returns-then-is_own-clause-ok : goal.returns-then-is_own-clause-ok
returns-then-is_own-clause-ok c =
    let s = c.self.inside in
    own_pushed s.shapes.now s.store s.codes c.push.new.self c.len.result c.args.traps.now
    c.len.ensures c.in_ok-push.ensures.ok
    (c.if-is_own.ensures.pieces refl) ∙ ap (λ l. l ++ alone c.args.traps.now ∷ []) c.self.view_is

pub invariant_of-self-in_err-push-3 : goal.invariant_of-self-in_err-push-3
invariant_of-self-in_err-push-3 c =
    let s = c.self.inside in
    stored_more s.shapes.now s.store c.push-2.new.self (alone c.args.traps.now)
    s.codes c.push-3.new.self c.in_ok-push-2.ensures.ok c.in_err-push-3.ensures.err
    c.self.invariant

pub returns-in_err-push-3-clause-err : goal.returns-in_err-push-3-clause-err
returns-in_err-push-3-clause-err c =
    let s = c.self.inside in
    let same = store_more s.shapes.now s.store c.push-2.new.self (alone c.args.traps.now)
    s.codes c.push-3.new.self c.in_ok-push-2.ensures.ok
    c.in_err-push-3.ensures.err c.self.invariant in
    on_err c.from_residual-in_err-push-3.result (same ∙ c.self.view_is)

pub invariant_of-self-2 : goal.invariant_of-self-2
invariant_of-self-2 c =
    let s = c.self.inside in
    coded_pushed s.shapes.now s.store c.push-2.new.self (alone c.args.traps.now)
    s.codes c.push-3.new.self c.len-code.result c.in_ok-push-2.ensures.ok
    c.in_ok-push-3.ensures.ok c.len-code.ensures c.self.invariant

pub returns-clause-ok : goal.returns-clause-ok
returns-clause-ok c =
    let s = c.self.inside in
    code_pushed s.shapes.now s.store c.push-2.new.self (alone c.args.traps.now)
    s.codes c.push-3.new.self c.len-code.result c.in_ok-push-2.ensures.ok
    c.in_ok-push-3.ensures.ok c.len-code.ensures c.self.invariant ∙ ap (λ l. l ++ alone c.args.traps.now ∷ []) c.self.view_is
