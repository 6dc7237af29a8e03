use Rattle.std.proofs.Common.{Some, sym, ap, ◌∙◌}
use Rattle.std.specs.Option.{option_copied}
use Rattle.depot.specs.Filing.{bytes_at}
use Rattle.depot.proofs.FilingLemmas.{get-none, get-place, place_within}
use Rattle.depot.proofs.store.Store.made.Goals as goal

pub returns-in_err-at : goal.returns-in_err-at
returns-in_err-at c =
    rw (← c.self.view_is)
    (ap option_copied c.from_residual.ensures ∙ sym
    (get-none c.self.inside.made.items c.args.name.now (rw c.deref.ensures.value at c.in_err-at.ensures)))

pub bytes_of-requires : goal.bytes_of-requires
bytes_of-requires c =
    rw c.deref-2.ensures.value (place_within c.self.inside.made.items c.args.name.now c.in_ok-at.at (rw c.deref.ensures.value at c.in_ok-at.ensures))

pub returns : goal.returns
returns c =
    let fs = c.self.inside.made.items in
    let at = rw c.deref.ensures.value at c.in_ok-at.ensures in
    rw (← c.self.view_is)
    (ap (λ l. Some l) (c.bytes_of.ensures ∙ ap (λ files. bytes_at files c.in_ok-at.at) c.deref-2.ensures.value) ∙ sym
    (get-place fs c.args.name.now c.in_ok-at.at at))
