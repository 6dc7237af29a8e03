use Rattle.std.proofs.Common.{rules, ◌<ℤ◌, ◌≤ℤ◌, ◌≡◌, FitsSigned, w64, arith}
use Rattle.std.proofs.lemmas.Int.{ints, to_z-of_z}
use Rattle.column_sweep.proofs.Stepping.{up_sum, down_sum, no_sum}
use Rattle.column_sweep.proofs.sums.sum_edge.Goals as goal

pub returns-then-step : goal.returns-then-step
returns-then-step c =
    let rise : FitsSigned w64 c.args.step.rise.y = search rules in
    let fall : FitsSigned w64 c.args.step.fall.y = search rules in
    let at : FitsSigned w64 c.args.cut.x = search rules in
    let lt : c.args.step.rise.y <ℤ c.args.step.fall.y = search rules in
    let made = simp to_z-of_z at c.of.ensures in
    rw made (up_sum c.args.cut.x c.args.operand c.args.step.rise c.args.step.fall lt)

pub returns-then-step-2 : goal.returns-then-step-2
returns-then-step-2 c =
    let rise : FitsSigned w64 c.args.step.rise.y = search rules in
    let fall : FitsSigned w64 c.args.step.fall.y = search rules in
    let at : FitsSigned w64 c.args.cut.x = search rules in
    let lt : c.args.step.fall.y <ℤ c.args.step.rise.y = search rules in
    let made = simp to_z-of_z at c.of-then-step-2.ensures in
    rw made (down_sum c.args.cut.x c.args.operand c.args.step.rise c.args.step.fall lt)

pub returns : goal.returns
returns c =
    let le : c.args.step.fall.y ≤ℤ c.args.step.rise.y = search rules in
    let ge : c.args.step.rise.y ≤ℤ c.args.step.fall.y = search rules in
    let same : c.args.step.rise.y ≡ c.args.step.fall.y = omega (arith, ints, le, ge) in
    no_sum c.args.cut.x c.args.operand c.args.step.rise c.args.step.fall same
