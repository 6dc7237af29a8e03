use Rattle.std.proofs.Common.{◌∙◌}
use Rattle.std.proofs.lemmas.Result.{on_ok_weaker, on_err_weaker}
use Rattle.depot.specs.StoreView.{store_content}
use Rattle.depot.proofs.StoreLemmas.{IsWrittenAt-from, both_changed, current_kept, appended_current}
use Rattle.depot.proofs.store.Store.write.Goals as goal

pub invariant_of-self : goal.invariant_of-self
invariant_of-self c = record {
  reading = c.self.invariant.reading;
  writing = IsWrittenAt-from c.append.new.files.items _ _ c.in-Some.at c.in-Some.is c.append.ensures.place;
}

pub returns-clause-ok : goal.returns-clause-ok
returns-clause-ok c =
    let old = c.self.inside.made.items in
    let new = c.append.new.files.items in
    rw (← c.self.view_is)
    (on_ok_weaker c.append.result
    (λ ok. both_changed (store_content c.self.inside) _ _ _ _
    (ok ∙ appended_current old _ c.in-Some.at c.args.piece.now c.in-Some.is)
    (current_kept old new _ c.in-Some.at c.in-Some.is c.append.ensures.place))
    c.append.ensures.ok)

pub returns-clause-refused : goal.returns-clause-refused
returns-clause-refused c =
    let old = c.self.inside.made.items in
    let new = c.append.new.files.items in
    rw (← c.self.view_is)
    (on_err_weaker c.append.result
    (λ same. both_changed (store_content c.self.inside) _ _ _ _ same (current_kept old new _ c.in-Some.at c.in-Some.is c.append.ensures.place))
    c.append.ensures.refused)
