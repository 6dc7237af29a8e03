use Rattle.std.proofs.Common.{◌≡◌, List, is_some, rules, ap, sym, subst, ◌∙◌}
use Rattle.std.specs.Prelude.{option_map}
use Rattle.active_lines.specs.declared.item.ActiveLine.{ActiveLine}
use Rattle.row_lists.specs.RowLists.{AreAlike}
use Rattle.plane_sweep.specs.RuleTests.{growing_at}
use Rattle.plane_sweep.proofs.OpenedNew.{alike_new}
use Rattle.plane_sweep.proofs.PassRuns.{passed}
use Rattle.plane_sweep.proofs.entry.pass_runs.Goals as goal

pub returns-clause-runs : goal.returns-clause-runs
returns-clause-runs g c takes x below gone rest test crossing last runs =
    let inside = c.takes-inside.ensures takes test in
    let entered = c.in_ok-entered.ensures.enters takes x below c.args.above gone c.args.old.now c.args.new.now rest crossing runs inside
    (c.end_among.ensures takes test) (c.end_among-2.ensures takes test) in
    let kept : c.is_some.result ≡ is_some c.kept_of-kept.result = search rules in
    let same : c.is_some-2.result ≡ c.is_some.result = search rules in
    rw (c.runs_after.ensures, same)
    (passed takes c.args.level.y x below c.args.above gone c.args.lines.now.before c.enter.new.lines.before c.args.old.now c.args.new.now
    rest c.open_new.new.opened.items
    c.enter.new.waiting.items c.leave.new.waiting.items c.in_ok-entered.entered
    (option_map growing_at c.leaving_of-leaving.result) c.begins_at.result c.kept_of-kept.result c.takes-inside.result
    c.is_some.result c.takes.result crossing c.in_ok-entered.ensures.alike inside entered (c.leaving_of-leaving.ensures takes test)
    (c.begins_at.ensures takes test) c.kept_of-kept.ensures.some
    c.kept_of-kept.ensures.none c.in_ok-leave.ensures kept (c.in_ok-open_new.ensures takes test) (c.takes.ensures takes test ∙ ap takes last))

pub returns-clause-opened : goal.returns-clause-opened
returns-clause-opened g c takes test =
    subst (λ (lines : List ActiveLine). AreAlike c.args.new.now lines) (sym (c.in_ok-open_new.ensures takes test))
    (alike_new takes c.args.level.y c.kept_of-kept.result c.takes-inside.result c.args.new.now)
