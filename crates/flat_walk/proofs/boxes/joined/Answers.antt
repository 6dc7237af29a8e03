use Rattle.std.proofs.Common.{arith}
use Rattle.std.proofs.lemmas.Int.{ints, clamps}
use Rattle.flat_walk.proofs.BoxLemmas.{same_frame}
use Rattle.flat_walk.proofs.boxes.joined.Goals as goal

pub returns : goal.returns
returns c = same_frame _ _ (omega (arith, ints, clamps)) (omega (arith, ints, clamps)) (omega (arith, ints, clamps)) (omega (arith, ints, clamps))
