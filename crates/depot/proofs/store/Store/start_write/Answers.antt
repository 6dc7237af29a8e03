use Rattle.std.proofs.Common.{Some, ap, ◌∙◌}
use Rattle.std.specs.FinMap.{insert}
use Rattle.depot.specs.Filing.{files_of}
use Rattle.depot.specs.StoreView.{store_content}
use Rattle.depot.proofs.FilingLemmas.{name_at-place}
use Rattle.depot.proofs.StoreLemmas.{IsPlace-own, both_changed}
use Rattle.depot.proofs.store.Store.start_write.Goals as goal

pub invariant_of-self-2 : goal.invariant_of-self-2
invariant_of-self-2 c = record {
  reading = c.self.invariant.reading;
  writing = IsPlace-own c.put.new.files.items c.args.name.now c.in_ok-at.at c.in_ok-at.ensures.place;
}

pub returns-clause-ok : goal.returns-clause-ok
returns-clause-ok c =
    rw (← c.self.view_is)
    (both_changed (store_content c.self.inside) _ _ _ _
    (c.in_ok-at.ensures.ok ∙ ap (λ bytes. insert (files_of c.self.inside.made.items) c.args.name.now bytes) c.new.ensures.items)
    (ap (λ k. Some k) (name_at-place c.put.new.files.items c.args.name.now c.in_ok-at.at c.in_ok-at.ensures.place)))
