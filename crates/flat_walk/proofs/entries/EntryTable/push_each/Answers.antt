use Rattle.std.proofs.Common.{◌∙◌, ◌++◌, ap, refl, replicate}
use Rattle.flat_walk.specs.Kept.{bare}
use Rattle.flat_walk.proofs.CodeLemmas.{store_more, stored_more, each_pushed, coded_each_pushed, on_err}
use Rattle.flat_walk.proofs.entries.EntryTable.push_each.Goals as goal

pub invariant_of-self-in_err-push_each : goal.invariant_of-self-in_err-push_each
invariant_of-self-in_err-push_each c =
    let s = c.self.inside in
    stored_more s.shapes.now s.store c.push_without.new.self bare s.codes c.push_each.new.self c.in_ok-push_without.ensures.ok
    c.in_err-push_each.ensures.err c.self.invariant

pub returns-in_err-push_each-clause-err : goal.returns-in_err-push_each-clause-err
returns-in_err-push_each-clause-err c =
    let s = c.self.inside in
    let same = store_more s.shapes.now s.store c.push_without.new.self bare s.codes c.push_each.new.self c.in_ok-push_without.ensures.ok
    c.in_err-push_each.ensures.err c.self.invariant in
    on_err c.from_residual-in_err-push_each.result (same ∙ c.self.view_is)

pub invariant_of-self-2 : goal.invariant_of-self-2
invariant_of-self-2 c =
    let s = c.self.inside in
    coded_each_pushed s.shapes.now s.store c.push_without.new.self bare s.codes c.push_each.new.self c.len-code.result c.args.count
    c.in_ok-push_without.ensures.ok c.in_ok-push_each.ensures.ok c.len-code.ensures c.self.invariant

pub returns-clause-ok : goal.returns-clause-ok
returns-clause-ok c =
    let s = c.self.inside in
    each_pushed s.shapes.now s.store c.push_without.new.self bare s.codes c.push_each.new.self c.len-code.result c.args.count
    c.in_ok-push_without.ensures.ok c.in_ok-push_each.ensures.ok c.len-code.ensures c.self.invariant
    ∙ ap (λ l. l ++ replicate c.args.count bare) c.self.view_is
