use Rattle.column_sweep.proofs.Stepping.{without_opposites}
use Rattle.column_sweep.proofs.sums.behind_opposites.Goals as goal

pub returns-then-are_opposite-clause-sums : goal.returns-then-are_opposite-clause-sums
returns-then-are_opposite-clause-sums c = λ o j.
    rw (c.in_ok-first.ensures.cases.0, c.in_ok-second.ensures.cases.0)
    (without_opposites c.in_ok-first.first.now c.in_ok-second.second.now c.in_ok-second.rest.now (c.are_opposite.ensures c.if-are_opposite.true) o j)
