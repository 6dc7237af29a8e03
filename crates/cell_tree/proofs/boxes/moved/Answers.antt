use Rattle.std.proofs.Common.{arith}
use Rattle.std.proofs.lemmas.Int.{ints}
use Rattle.cell_tree.proofs.BoxLemmas.{same_frame}
use Rattle.cell_tree.proofs.boxes.moved.Goals as goal

pub returns : goal.returns
returns c = same_frame _ _ (omega (arith, ints)) (omega (arith, ints)) (omega (arith, ints)) (omega (arith, ints))
