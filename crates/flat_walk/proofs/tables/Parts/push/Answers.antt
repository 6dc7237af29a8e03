use Rattle.std.proofs.Common.{◌∷◌, [], sym}
use Rattle.flat_walk.proofs.TableLemmas.{view_after, kept_after}
use Rattle.flat_walk.proofs.tables.Parts.push.Goals as goal

pub invariant_of-self : goal.invariant_of-self
invariant_of-self c =
    kept_after c.push.result c.self.inside.cells.items c.args.cell c.index_mut.result.now c.push.new.self (c.args.traps.now ∷ [])
    (rw c.self.view_is c.requires) c.index_mut.ensures.value c.self.invariant (c.are_kept.ensures, tt) c.push.ensures.ok c.push.ensures.err

pub returns-clause-ok : goal.returns-clause-ok
returns-clause-ok c =
    rw (sym c.self.view_is)
    (view_after c.push.result c.self.inside.cells.items c.args.cell c.index_mut.result.now c.push.new.self (c.args.traps.now ∷ [])
    (rw c.self.view_is c.requires) c.index_mut.ensures.value c.push.ensures.ok)
