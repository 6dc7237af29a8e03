use Rattle.std.proofs.Common.{◌∙◌, ap, below_more, arith}
use Rattle.std.proofs.lemmas.Option.{slice_get_within}
use Rattle.cell_tree.specs.Searches.{IsStop}
use Rattle.cell_tree.proofs.SlotLemmas.{read_slot}
use Rattle.cell_tree.proofs.orders.place_on.Goals as goal

pub loop-i-preserved : goal.loop-i-preserved
loop-i-preserved c = below_more (λ k. IsStop c.args.path.now k c.args.cell → ⊥) c.loop-i.i c.loop-i.invariant
    (λ at. c.if-stop-cell.false (ap (λ s. s.cell) (read_slot c.args.path.now c.loop-i.i at.0 (record { cell = 0; next = 0 }) at.1) ∙ at.2))

pub returns-clause-none : goal.returns-clause-none
returns-clause-none c = λ on. c.loop-i.invariant on.0 (let inside = slice_get_within c.args.path.now on.0 on.1.0 on.1.1 in omega arith) on.1
