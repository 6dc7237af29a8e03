use Rattle.std.proofs.Common.{arith}
use Rattle.std.proofs.lemmas.Int.{ints}
use Rattle.half_grid.proofs.meet.meeting_y.Goals as goal

pub returns-in-Upright-Rising-clause-meets : goal.returns-in-Upright-Rising-clause-meets
returns-in-Upright-Rising-clause-meets c =
    let first = rw c.in-Upright-Rising.is-0 at c.requires.first in
    let second = rw c.in-Upright-Rising.is-1 at c.requires.second in
    rw (c.in-Upright-Rising.is-0, c.in-Upright-Rising.is-1) (record { here = omega (arith, ints); only = λ z h. omega (arith, ints, h) })

pub returns-in-Upright-Falling-clause-meets : goal.returns-in-Upright-Falling-clause-meets
returns-in-Upright-Falling-clause-meets c =
    let first = rw c.in-Upright-Falling.is-0 at c.requires.first in
    let second = rw c.in-Upright-Falling.is-1 at c.requires.second in
    rw (c.in-Upright-Falling.is-0, c.in-Upright-Falling.is-1) (record { here = omega (arith, ints); only = λ z h. omega (arith, ints, h) })

pub returns-in-Rising-Upright-clause-meets : goal.returns-in-Rising-Upright-clause-meets
returns-in-Rising-Upright-clause-meets c =
    let first = rw c.in-Rising-Upright.is-0 at c.requires.first in
    let second = rw c.in-Rising-Upright.is-1 at c.requires.second in
    rw (c.in-Rising-Upright.is-0, c.in-Rising-Upright.is-1) (record { here = omega (arith, ints); only = λ z h. omega (arith, ints, h) })

pub returns-in-Rising-Falling-clause-meets : goal.returns-in-Rising-Falling-clause-meets
returns-in-Rising-Falling-clause-meets c =
    let first = rw c.in-Rising-Falling.is-0 at c.requires.first in
    let second = rw c.in-Rising-Falling.is-1 at c.requires.second in
    rw (c.in-Rising-Falling.is-0, c.in-Rising-Falling.is-1) (record { here = omega (arith, ints); only = λ z h. omega (arith, ints, h) })

pub returns-in-Falling-Upright-clause-meets : goal.returns-in-Falling-Upright-clause-meets
returns-in-Falling-Upright-clause-meets c =
    let first = rw c.in-Falling-Upright.is-0 at c.requires.first in
    let second = rw c.in-Falling-Upright.is-1 at c.requires.second in
    rw (c.in-Falling-Upright.is-0, c.in-Falling-Upright.is-1) (record { here = omega (arith, ints); only = λ z h. omega (arith, ints, h) })

pub returns-in-Falling-Rising-clause-meets : goal.returns-in-Falling-Rising-clause-meets
returns-in-Falling-Rising-clause-meets c =
    let first = rw c.in-Falling-Rising.is-0 at c.requires.first in
    let second = rw c.in-Falling-Rising.is-1 at c.requires.second in
    rw (c.in-Falling-Rising.is-0, c.in-Falling-Rising.is-1) (record { here = omega (arith, ints); only = λ z h. omega (arith, ints, h) })
