use Rattle.std.proofs.Common.{arith}
use Rattle.std.proofs.lemmas.Bool.{cases_lt, lt-ltb}
use mathlib.Core.Logic.{inl, inr}
use Rattle.square_size.proofs.LevelOrder.{met_before_rank, none_up_to}
use Rattle.square_size.proofs.levels.mark_met.Goals as goal
use Rattle.square_size.proofs.levels.mark_met.Goals.{else-loop-low-test, then-loop-low-test+then-ends_before}

pub returns-clause-met : goal.returns-clause-met
returns-clause-met c = λ order j a at over.
    (let levels = c.args.levels.now in
    let side = c.args.side.now in
    let low = c.loop-low.low in
    let under = met_before_rank levels side c.rank-rank.result order c.rank-rank.ensures a j at over in
    elim (cases_lt j low) [
      | inl lt ↦ elim c.loop-low-test.branch [
        | else-loop-low-test w ↦ (let none = w.loop-low-test.false in absurd (omega (arith, none, lt)))
        | then-loop-low-test+then-ends_before w ↦
            (let ends = w.ends_before.ensures w.if-ends_before.true in
            let within = c.loop-low.invariant.within in
            absurd (none_up_to levels side _ c.rank-rank.result low order c.rank-rank.ensures w.loop-low-test.true within ends a j lt at over))
      ]
      | inr ge ↦ (c.loop-low.invariant.met j ge under, lt-ltb low c.rank-rank.result (omega (arith, ge, under)))
    ])
