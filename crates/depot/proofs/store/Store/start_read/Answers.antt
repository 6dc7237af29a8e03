use Rattle.std.proofs.Common.{[], is_some, unwrap_or, sym, ap, ◌∙◌}
use Rattle.depot.specs.Content.{with_left}
use Rattle.depot.specs.StoreView.{store_content}
use Rattle.depot.proofs.StoreLemmas.{found, IsReadAt-start, left_of-start, is_some-map}
use Rattle.depot.proofs.store.Store.start_read.Goals as goal

pub invariant_of-self : goal.invariant_of-self
invariant_of-self c = record {
  reading = IsReadAt-start c.self.inside.held.items c.args.name.now _ (rw c.deref.ensures.value at c.place-self-inside.ensures);
  writing = c.self.invariant.writing;
}

pub returns-clause-there : goal.returns-clause-there
returns-clause-there c =
    let fs = c.self.inside.held.items in
    let is = found fs c.args.name.now _ (rw c.deref.ensures.value at c.place-self-inside.ensures) in
    rw (← c.self.view_is) (c.is_some.ensures ∙ sym (ap is_some is ∙ is_some-map fs _))

pub returns-clause-after : goal.returns-clause-after
returns-clause-after c =
    let fs = c.self.inside.held.items in
    let is = found fs c.args.name.now _ (rw c.deref.ensures.value at c.place-self-inside.ensures) in
    rw (← c.self.view_is)
    (ap (λ l. with_left (store_content c.self.inside) l)
    (left_of-start fs c.place-self-inside.result ∙ ap (λ o. unwrap_or o []) (sym is)))
