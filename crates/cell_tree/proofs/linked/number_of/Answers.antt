use Rattle.cell_tree.proofs.NameLemmas.{not_before_more, number_here, number_nowhere}
use Rattle.cell_tree.proofs.linked.number_of.Goals as goal

pub returns-then-eq : goal.returns-then-eq
returns-then-eq c = number_here _ _ _ c.index-cells-n.result c.loop-n-test.true c.index-cells-n.is c.loop-n.invariant c.if-eq.ensures

pub loop-n-preserved : goal.loop-n-preserved
loop-n-preserved c = not_before_more _ _ _ c.index-cells-n.result c.loop-n-test.true c.index-cells-n.is c.loop-n.invariant c.if-eq.ensures

pub returns : goal.returns
returns c = number_nowhere _ _ _ c.loop-n-test.false c.loop-n.invariant
