use Rattle.std.proofs.Common.{refl, sym, subst, ◌∙◌, ap, ◌++◌, ◌∷◌, [], arith, length, length-append}
use Rattle.flat_walk.specs.Kept.{alone, AreSingle}
use Rattle.flat_walk.proofs.EntryLemmas.{lists_more, single_more, single_last}
use Rattle.flat_walk.proofs.cell_lists.CellLists.push.Goals as goal

pub invariant_of-self-then-alone : goal.invariant_of-self-then-alone
invariant_of-self-then-alone c =
    let s = c.self.inside in
    let is = c.in_ok-push.ensures.ok in
    let long = length-append s.table (alone c.args.traps.now ∷ []) in
    let more = ap length is in
    subst (AreSingle c.len-self-inside.result) (sym is)
    (single_last s.single c.len-self-inside.result s.table (alone c.args.traps.now) (omega (arith, c.if-alone.true, c.len.ensures))
    (omega (arith, c.len-self-inside.ensures, more, long, c.if-alone.true, c.len.ensures)) c.self.invariant refl)

pub invariant_of-self-else-alone : goal.invariant_of-self-else-alone
invariant_of-self-else-alone c =
    let s = c.self.inside in
    subst (AreSingle s.single) (sym c.in_ok-push.ensures.ok) (single_more s.single s.table (alone c.args.traps.now) c.self.invariant)

pub returns-then-alone-clause-ok : goal.returns-then-alone-clause-ok
returns-then-alone-clause-ok c =
    rw c.in_ok-push.ensures.ok (lists_more c.self.inside.table (alone c.args.traps.now))
    ∙ ap (λ l. l ++ c.args.traps.now ∷ []) c.self.view_is

pub returns-else-alone-clause-ok : goal.returns-else-alone-clause-ok
returns-else-alone-clause-ok c =
    rw c.in_ok-push.ensures.ok (lists_more c.self.inside.table (alone c.args.traps.now))
    ∙ ap (λ l. l ++ c.args.traps.now ∷ []) c.self.view_is
