use Rattle.layout_model.specs.Layouts.{IsLayoutOnGrid}
use Rattle.cell_tree.proofs.tests.chain.Given as goal

abbrev pub invariant-loop-k : goal.invariant-loop-k
invariant-loop-k g l = IsLayoutOnGrid l.layout
