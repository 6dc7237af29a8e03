use Rattle.std.proofs.Common.{◌≡◌, ◌-◌, subst, slice_get, Some}
use Rattle.flat_walk.proofs.CodeLemmas.{code_less, stored_there, past_count, own_first, stored_first}
use Rattle.flat_walk.proofs.entries.EntryTable.more.Goals as goal

pub get-requires-in-Some : goal.get-requires-in-Some
get-requires-in-Some c =
    let s = c.self.inside in
    let code = c.in-Some.code in
    stored_there s.shapes.now s.store s.codes c.args.number code (code - 1) c.self.invariant c.in-Some.ensures (code_less code c.in-Some.code-test.1)

pub returns-in-None : goal.returns-in-None
returns-in-None c =
    let s = c.self.inside in
    past_count s.shapes.now s.store s.codes c.args.self.now c.args.number c.in-None.ensures c.self.view_is

pub returns-in-Some-eq0 : goal.returns-in-Some-eq0
returns-in-Some-eq0 c =
    let s = c.self.inside in
    own_first s.shapes.now s.store s.codes c.args.self.now c.args.number
    (subst (λ i. slice_get s.codes c.args.number ≡ Some i) c.in-Some-eq0.field-0-test c.in-Some-eq0.ensures) c.self.view_is

pub returns-in-Some : goal.returns-in-Some
returns-in-Some c =
    let s = c.self.inside in
    let code = c.in-Some.code in
    stored_first s.shapes.now s.store s.codes c.args.self.now c.args.number code (code - 1) _ c.in-Some.ensures
    (code_less code c.in-Some.code-test.1) c.get-in-Some.ensures.there c.self.view_is
