use Rattle.std.proofs.Common.{◌≡◌, ◌-◌, ◌∙◌, sym, ap, subst, slice_get, Some}
use Rattle.flat_walk.specs.Kept.{alone}
use Rattle.flat_walk.specs.PieceLists.{listed}
use Rattle.flat_walk.specs.Stores.{entry_in}
use Rattle.flat_walk.proofs.CodeLemmas.{code_less, own_there, own_slot, stored_there, stored_slot, past_long}
use Rattle.flat_walk.proofs.entries.EntryTable.get.Goals as goal

pub returns-in_err-code-clause-there : goal.returns-in_err-code-clause-there
returns-in_err-code-clause-there c =
    let s = c.self.inside in
    rw c.from_residual.ensures
    (past_long s.shapes.now s.store s.codes c.args.self.now c.args.number c.in_err-code.ensures c.self.view_is)

pub own-requires : goal.own-requires
own-requires c =
    let s = c.self.inside in
    own_there s.shapes.now s.store s.codes c.args.number c.self.invariant
    (subst (λ i. slice_get s.codes c.args.number ≡ Some i) c.if-code-eq0.true c.in_ok-code.ensures)

pub returns-then-code-eq0-clause-there : goal.returns-then-code-eq0-clause-there
returns-then-code-eq0-clause-there c =
    let s = c.self.inside in
    subst (λ l. slice_get l c.args.number ≡ Some (alone (listed c.own.result))) c.self.view_is
    (own_slot s.shapes.now s.store s.codes c.args.number
    (subst (λ i. slice_get s.codes c.args.number ≡ Some i) c.if-code-eq0.true c.in_ok-code.ensures)
    ∙ ap (λ l. Some (alone l)) (sym c.own.ensures.list))

pub get-requires-2 : goal.get-requires-2
get-requires-2 c =
    let s = c.self.inside in
    let code = c.in_ok-code.code in
    stored_there s.shapes.now s.store s.codes c.args.number code (code - 1) c.self.invariant c.in_ok-code.ensures (code_less code c.if-code-eq0.false)

pub returns-clause-there : goal.returns-clause-there
returns-clause-there c =
    let s = c.self.inside in
    let code = c.in_ok-code.code in
    subst (λ l. slice_get l c.args.number ≡ Some (entry_in c.get-2.result)) c.self.view_is
    (stored_slot s.shapes.now s.store s.codes c.args.number code (code - 1) (entry_in c.get-2.result) c.in_ok-code.ensures
    (code_less code c.if-code-eq0.false) c.get-2.ensures.there)
