use Rattle.std.proofs.Common.{arith}
use Rattle.std.proofs.lemmas.Int.{ints}
use Rattle.flat_walk.proofs.BoxLemmas.{same_frame}
use Rattle.flat_walk.proofs.boxes.summed.Goals as goal

pub returns : goal.returns
returns c = same_frame _ _ (omega (arith, ints)) (omega (arith, ints)) (omega (arith, ints)) (omega (arith, ints))
