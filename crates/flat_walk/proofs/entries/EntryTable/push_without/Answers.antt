use Rattle.std.proofs.Common.{◌∙◌, ◌++◌, ◌∷◌, [], refl, ap}
use Rattle.flat_walk.specs.Kept.{bare_ones}
use Rattle.flat_walk.proofs.CodeLemmas.{store_more, stored_more, code_pushed, coded_pushed, on_err}
use Rattle.flat_walk.proofs.entries.EntryTable.push_without.Goals as goal

pub invariant_of-self-in_err-push : goal.invariant_of-self-in_err-push
invariant_of-self-in_err-push c =
    let s = c.self.inside in
    stored_more s.shapes.now s.store c.push_without.new.self (bare_ones c.args.more)
    s.codes c.push.new.self c.in_ok-push_without.ensures.ok c.in_err-push.ensures.err
    c.self.invariant

pub returns-in_err-push-clause-err : goal.returns-in_err-push-clause-err
returns-in_err-push-clause-err c =
    let s = c.self.inside in
    let same = store_more s.shapes.now s.store c.push_without.new.self (bare_ones c.args.more)
    s.codes c.push.new.self c.in_ok-push_without.ensures.ok
    c.in_err-push.ensures.err c.self.invariant in
    on_err c.from_residual-in_err-push.result (same ∙ c.self.view_is)

pub invariant_of-self-2 : goal.invariant_of-self-2
invariant_of-self-2 c =
    let s = c.self.inside in
    coded_pushed s.shapes.now s.store c.push_without.new.self (bare_ones c.args.more)
    s.codes c.push.new.self c.len-code.result c.in_ok-push_without.ensures.ok
    c.in_ok-push.ensures.ok c.len-code.ensures c.self.invariant

pub returns-clause-ok : goal.returns-clause-ok
returns-clause-ok c =
    let s = c.self.inside in
    code_pushed s.shapes.now s.store c.push_without.new.self (bare_ones c.args.more)
    s.codes c.push.new.self c.len-code.result c.in_ok-push_without.ensures.ok
    c.in_ok-push.ensures.ok c.len-code.ensures c.self.invariant ∙ ap (λ l. l ++ bare_ones c.args.more ∷ []) c.self.view_is
