use Rattle.std.proofs.Common.{arith}
use Rattle.std.proofs.lemmas.Int.{ints}
use Rattle.square_size.proofs.shrinking.x_on.Goals as goal

pub returns-in-Rising : goal.returns-in-Rising
returns-in-Rising c = let near = rw c.in-Rising.is at c.requires.line in rw c.in-Rising.is (omega (arith, ints))

pub returns-in-Falling : goal.returns-in-Falling
returns-in-Falling c = let near = rw c.in-Falling.is at c.requires.line in rw c.in-Falling.is (omega (arith, ints))
