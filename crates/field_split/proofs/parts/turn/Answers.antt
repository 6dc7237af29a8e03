use Rattle.std.proofs.Common.{arith}
use Rattle.std.proofs.lemmas.Int.{ints, clamps}
use Rattle.field_split.proofs.parts.turn.Goals as goal

pub returns-clause-high : goal.returns-clause-high
returns-clause-high c =
    let greater = c.max.ensures.value in
    let lesser = c.min.ensures.value in
    omega (arith, ints, clamps, greater, lesser)
