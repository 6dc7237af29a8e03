use Rattle.cell_tree.proofs.FactorLemmas.{SoFar}
use Rattle.cell_tree.proofs.factors.farthest_of.Given as goal

abbrev pub invariant-loop-k : goal.invariant-loop-k
invariant-loop-k l = SoFar l.linked.cells l.only_fixed l.farthest l.cell l.k l.best
