use Rattle.std.proofs.Common.{◌≡◌, ◌≢◌, true, false, rules}
use Rattle.plane_sweep.proofs.AlikeRuns.{alike_self}
use Rattle.plane_sweep.proofs.EnterSteps.{alike_outside, alike_together, alike_under, alike_over, alike_two, alike_one}
use Rattle.plane_sweep.proofs.entry.enter_alike.Goals as goal

pub returns-then-not-inside-clause-enters : goal.returns-then-not-inside-clause-enters
returns-then-not-inside-clause-enters c =
    let out : c.args.inside ≡ false = search rules in
    alike_outside c.args.level.y c.args.inside c.args.below c.args.above c.args.lines.now.before c.args.waiting.now.items out

pub returns-then-not-inside-clause-alike : goal.returns-then-not-inside-clause-alike
returns-then-not-inside-clause-alike c = alike_self c.args.lines.now.before

pub returns-in_default-above-clause-enters : goal.returns-in_default-above-clause-enters
returns-in_default-above-clause-enters c =
    let is : c.args.inside ≡ true = search rules in
    alike_together c.args.level.y c.args.inside c.args.below c.args.above c.args.lines.now.before c.args.waiting.now.items is
    c.in_default.is c.in_default-above.is

pub returns-in_default-above-clause-alike : goal.returns-in_default-above-clause-alike
returns-in_default-above-clause-alike c = alike_self c.args.lines.now.before

pub returns-in_default-clause-enters : goal.returns-in_default-clause-enters
returns-in_default-clause-enters c =
    let is : c.args.inside ≡ true = search rules in
    alike_under c.args.level.y c.args.inside c.args.below c.args.above c.args.lines.now.before c.args.waiting.now.items _ _
    c.in-Some-above.right _
    c.in_ok-end_open.ensures.ends is c.in_default.is c.in-Some-above.is

pub returns-in_default-above-2-clause-enters : goal.returns-in_default-above-2-clause-enters
returns-in_default-above-2-clause-enters c =
    let is : c.args.inside ≡ true = search rules in
    alike_over c.args.level.y c.args.inside c.args.below c.args.above c.args.lines.now.before c.args.waiting.now.items _ _
    c.in-Some.end _
    c.in_ok-end_open-2.ensures.ends is c.in-Some.end c.in-Some.is c.in_default-above-2.is

pub returns-in_ok-end_open-3-clause-enters : goal.returns-in_ok-end_open-3-clause-enters
returns-in_ok-end_open-3-clause-enters c =
    let is : c.args.inside ≡ true = search rules in
    let differ : c.in-Some-above-2.right ≢ c.in-Some.end = search rules in
    alike_two c.args.level.y c.args.inside c.args.below c.args.above c.args.lines.now.before c.args.waiting.now.items _ _
    c.in-Some-above-2.right _
    c.in_ok-end_open-3.ensures.ends is c.in-Some.end c.in-Some.is c.in-Some-above-2.is differ

pub returns-else-ne-clause-enters : goal.returns-else-ne-clause-enters
returns-else-ne-clause-enters c =
    let is : c.args.inside ≡ true = search rules in
    let same : c.in-Some-above-2.right ≡ c.in-Some.end = search rules in
    alike_one c.args.level.y c.args.inside c.args.below c.args.above c.args.lines.now.before c.args.waiting.now.items c.in-Some.end
    c.in-Some-above-2.right
    is c.in-Some.is c.in-Some-above-2.is same

pub returns-else-ne-clause-alike : goal.returns-else-ne-clause-alike
returns-else-ne-clause-alike c = alike_self c.args.lines.now.before
