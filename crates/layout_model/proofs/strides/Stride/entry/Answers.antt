use Rattle.std.proofs.Common.{◌↔◌, ◌≤◌, ◌≤ℤ◌, ◌*ℤ◌, pos, subst, arith}
use Rattle.std.proofs.lemmas.Int.{ints}
use Rattle.layout_model.proofs.StrideLemmas.{up_onward, down_early, down_onward}
use Rattle.layout_model.proofs.strides.Stride.entry.Goals as goal

pub returns-then-self-gt0-clause-onward : goal.returns-then-self-gt0-clause-onward
returns-then-self-gt0-clause-onward c = λ n m h k.
    let s = c.args.self in
    let way = c.way_up in
    let up = c.if-self-gt0.true in
    up_onward c.args.interval.low c.args.interval.high s.start s.step way.result.length c.steps.result n m
    way.ensures.length (subst (λ z. (way.result.length ≤ℤ (pos n *ℤ z)) ↔ (c.steps.result ≤ n)) way.ensures.pace
    (c.steps.ensures n)) (omega (arith, ints, up)) h k

pub returns-then-self-lt0-clause-early : goal.returns-then-self-lt0-clause-early
returns-then-self-lt0-clause-early c = λ n.
    let s = c.args.self in
    let way = c.way_down in
    let r = c.steps-then-self-lt0 in
    down_early c.args.interval.low c.args.interval.high s.start s.step way.result.length way.result.pace r.result n
    way.ensures.length way.ensures.pace (r.ensures n)

pub returns-then-self-lt0-clause-onward : goal.returns-then-self-lt0-clause-onward
returns-then-self-lt0-clause-onward c = λ n m h k.
    let s = c.args.self in
    let way = c.way_down in
    let r = c.steps-then-self-lt0 in
    let down = c.if-self-lt0.true in
    down_onward c.args.interval.low c.args.interval.high s.start s.step way.result.length way.result.pace r.result n m
    way.ensures.length way.ensures.pace (r.ensures n) (omega (arith, ints, down)) h k
