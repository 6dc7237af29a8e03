use Rattle.std.proofs.Common.{ℤ, List, Bool, subst}
use Rattle.active_lines.specs.declared.item.ActiveLine.{ActiveLine}
use Rattle.row_lists.specs.RowLists.{AreAlike}
use Rattle.plane_sweep.specs.Crossings.{PassesRuns}
use Rattle.plane_sweep.proofs.RuleAsTest.{rule_test}
use Rattle.plane_sweep.proofs.point.cross_runs.Goals as goal

pub returns-clause-opened : goal.returns-clause-opened
returns-clause-opened g c =
    let test = rule_test (λ a b. g.F.Fn.pre c.args.rule.now (a, (b, tt))) (λ a b r. g.F.Fn.post c.args.rule.now (a, (b, tt)) r) c.requires in
    subst (λ (ls : List ActiveLine). AreAlike ls c.pass_runs.new.opened.items) c.as_slice-2.ensures.value (c.in_ok-runs.ensures.opened test.0 test.1)

pub returns-clause-runs : goal.returns-clause-runs
returns-clause-runs g c = λ takes x below gone rest test crossing last are.
    let front = c.args.front.now in
    let y = c.args.level.y in
    let w = c.args.left.sides.above in
    let v = c.args.beyond in
    let before1 = c.pass_runs.new.lines.before in
    let opened = c.pass_runs.new.opened.items in
    let ended1 = c.pass_runs.new.waiting.items in
    let runs1 = c.in_ok-runs.runs in
    let post : ℤ → ℤ → Bool → Type 0 = λ a b r. g.F.Fn.post c.args.rule.now (a, (b, tt)) r in
    let some = subst (λ (ls : List ActiveLine). PassesRuns post y w v c.args.left.runs ls c.as_slice-2.result.now opened front.lines.before before1
    front.ended.items ended1 runs1) c.as_slice.ensures.value c.in_ok-runs.ensures.runs in
    let passes = subst (λ (ls : List ActiveLine). PassesRuns post y w v c.args.left.runs front.below.items ls opened front.lines.before before1
    front.ended.items ended1 runs1) c.as_slice-2.ensures.value some in
    passes takes x below gone rest test crossing last are
