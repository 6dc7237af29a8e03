use Rattle.std.proofs.Common.{◌≡◌, ◌≤ℤ◌, rules, arith}
use Rattle.std.proofs.lemmas.Int.{ints}
use Rattle.column_sweep.proofs.Stepping.{steps_cancel, steps_aside, falls_aside}
use Rattle.column_sweep.proofs.sums.cancelled.Goals as goal

pub loop-rise-preserved : goal.loop-rise-preserved
loop-rise-preserved c = λ sum h.
    let more : c.in-Some-Some.fall.now.y ≤ℤ c.in-Some-Some.rise.now.y = search rules in
    let less : c.in-Some-Some.rise.now.y ≤ℤ c.in-Some-Some.fall.now.y = search rules in
    let same : c.in-Some-Some.rise.now.y ≡ c.in-Some-Some.fall.now.y = omega (arith, ints, more, less) in
    steps_cancel sum c.loop-rise.up.items c.loop-rise.down.items c.in-Some-Some.later_rises.now
    c.in-Some-Some.later_falls.now c.in-Some-Some.rise.now c.in-Some-Some.fall.now same
    (rw (c.in-Some-Some.ensures.cases.0, c.in-Some-Some.ensures'.cases.0) at (c.loop-rise.invariant sum h))

pub loop-rise-preserved-in_ok-push : goal.loop-rise-preserved-in_ok-push
loop-rise-preserved-in_ok-push c = λ sum h.
    rw c.in_ok-push.ensures.items
    (steps_aside sum c.loop-rise.up.items c.loop-rise.down.items c.in-Some-Some.later_rises.now c.loop-rise.falling.now c.in-Some-Some.rise.now
    (rw c.in-Some-Some.ensures.cases.0 at (c.loop-rise.invariant sum h)))

pub loop-rise-preserved-in_ok-push-2 : goal.loop-rise-preserved-in_ok-push-2
loop-rise-preserved-in_ok-push-2 c = λ sum h.
    rw c.in_ok-push-2.ensures.items
    (falls_aside sum c.loop-rise.up.items c.loop-rise.down.items c.loop-rise.rising.now c.in-Some-Some.later_falls.now c.in-Some-Some.fall.now
    (rw c.in-Some-Some.ensures'.cases.0 at (c.loop-rise.invariant sum h)))

pub returns : goal.returns
returns c = λ sum h. rw (c.in_ok-extend_from_slice.ensures.items, c.in_ok-extend_from_slice-2.ensures.items) (c.loop-rise.invariant sum h)
