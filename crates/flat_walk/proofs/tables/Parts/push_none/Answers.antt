use Rattle.std.proofs.Common.{◌≡◌, ◌+◌, ◌-◌, [], replicate, sym, arith}
use Rattle.flat_walk.proofs.TableLemmas.{none_kept, view_after, kept_after, with_none}
use Rattle.flat_walk.proofs.tables.Parts.push_none.Goals as goal

pub returns-then-count-eq0-clause-ok : goal.returns-then-count-eq0-clause-ok
returns-then-count-eq0-clause-ok c = rw c.if-count-eq0.true (sym (with_none c.args.self.now c.args.cell c.requires))

pub invariant_of-self : goal.invariant_of-self
invariant_of-self c =
    kept_after c.push_each.result c.self.inside.cells.items c.args.cell c.index_mut.result.now c.push_each.new.self (replicate c.args.count [])
    (rw c.self.view_is c.requires) c.index_mut.ensures.value c.self.invariant (none_kept c.args.count) c.push_each.ensures.ok c.push_each.ensures.err

pub returns-then-count-self-clause-ok : goal.returns-then-count-self-clause-ok
returns-then-count-self-clause-ok c =
    rw (sym c.self.view_is)
    (view_after c.push_each.result c.self.inside.cells.items c.args.cell c.index_mut.result.now c.push_each.new.self (replicate c.args.count [])
    (rw c.self.view_is c.requires) c.index_mut.ensures.value c.push_each.ensures.ok)

pub invariant_of-self-2 : goal.invariant_of-self-2
invariant_of-self-2 c =
    kept_after c.push_without.result c.self.inside.cells.items c.args.cell c.index_mut-2.result.now c.push_without.new.self
    (replicate ((c.args.count - 1) + 1) [])
    (rw c.self.view_is c.requires) c.index_mut-2.ensures.value c.self.invariant (none_kept ((c.args.count - 1) + 1))
    c.push_without.ensures.ok c.push_without.ensures.err

pub returns-clause-ok : goal.returns-clause-ok
returns-clause-ok c =
    let many : (c.args.count - 1) + 1 ≡ c.args.count = omega (arith, c.if-count-eq0.false) in
    rw (sym c.self.view_is, sym many)
    (view_after c.push_without.result c.self.inside.cells.items c.args.cell c.index_mut-2.result.now c.push_without.new.self
    (replicate ((c.args.count - 1) + 1) [])
    (rw c.self.view_is c.requires) c.index_mut-2.ensures.value c.push_without.ensures.ok)
