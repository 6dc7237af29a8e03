use Rattle.std.proofs.Common.{true, false, refl, sym, ◌∙◌}
use Rattle.plane_sweep.proofs.LowestLemmas.{adds_by}
use Rattle.plane_sweep.proofs.lowest_tile.added.Goals as goal

pub returns-then-not-is_of-clause-adds : goal.returns-then-not-is_of-clause-adds
returns-then-not-is_of-clause-adds c = λ t is.
    sym (adds_by c.args.operand t c.args.edge.now false _ _ (sym (rw c.operand.ensures.value at c.is_of.ensures) ∙ c.if-not-is_of.true) refl refl)

pub returns-then-not-is_left_of-clause-adds : goal.returns-then-not-is_left_of-clause-adds
returns-then-not-is_left_of-clause-adds c = λ t is.
    sym (adds_by c.args.operand t c.args.edge.now true false _ (sym (rw c.operand.ensures.value at c.is_of.ensures) ∙ c.if-not-is_of.false)
    (sym (c.is_left_of.ensures t is) ∙ c.if-not-is_left_of.true) refl)

pub returns-then-is_up-clause-adds : goal.returns-then-is_up-clause-adds
returns-then-is_up-clause-adds c = λ t is.
    sym (adds_by c.args.operand t c.args.edge.now true true true (sym (rw c.operand.ensures.value at c.is_of.ensures) ∙ c.if-not-is_of.false)
    (sym (c.is_left_of.ensures t is) ∙ c.if-not-is_left_of.false) (sym c.is_up.ensures.value ∙ c.if-is_up.true))

pub returns-else-is_up-clause-adds : goal.returns-else-is_up-clause-adds
returns-else-is_up-clause-adds c = λ t is.
    sym (adds_by c.args.operand t c.args.edge.now true true false (sym (rw c.operand.ensures.value at c.is_of.ensures) ∙ c.if-not-is_of.false)
    (sym (c.is_left_of.ensures t is) ∙ c.if-not-is_left_of.false) (sym c.is_up.ensures.value ∙ c.if-is_up.false))
