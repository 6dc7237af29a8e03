use Rattle.std.proofs.Common.{inr, refl, sym, ◌∙◌}
use Rattle.plane_sweep.proofs.WayLemmas.{passed_none, passed_more, first_passed_within, ends_at, line_passed, nothing_passed}
use Rattle.plane_sweep.proofs.WayWith.{line_passed_with, nothing_passed_with}
use Rattle.plane_sweep.proofs.stop.pass_lines.Goals as goal

pub loop-level-init : goal.loop-level-init
loop-level-init g c = record {
  on = nothing_passed c.args.level.y c.args.end c.args.left.sides c.args.front.now.lines;
  passed = passed_none c.args.level.y c.args.end c.args.front.now.lines.after;
  runs = nothing_passed_with (λ a b r. g.F.Fn.post c.args.rule.now (a, (b, tt)) r) c.args.level.y c.args.end c.args.left c.args.front.now.lines
      c.args.front.now.ended.items;
  waiting = refl;
}

pub is_before_end-requires-clause-x : goal.is_before_end-requires-clause-x
is_before_end-requires-clause-x g c =
    first_passed_within c.args.level.y c.args.end c.args.front.now.lines.after c.loop-level.front.lines.after
    c.in-Some.line c.loop-level.invariant.passed c.requires.within (sym c.in-Some.ensures)

pub loop-level-preserved : goal.loop-level-preserved
loop-level-preserved g c =
    let l = c.in-Some.line in
    let before = c.is_before_end.ensures.yes c.if-not-is_before_end.false in
    record {
      on = line_passed c.args.level.y c.args.end c.loop-level.gap.sides c.in_ok-gap.gap.sides c.args.front.now.lines
          c.loop-level.front.lines c.pass_line.new.front.lines c.args.left.sides l c.in_ok-gap.ensures.after before
          c.in_ok-gap.ensures.at c.loop-level.invariant.on;
      passed = passed_more c.args.level.y c.args.end c.args.front.now.lines.after c.loop-level.front.lines.after
          c.pass_line.new.front.lines.after l c.loop-level.invariant.passed c.in_ok-gap.ensures.after before;
      runs = line_passed_with (λ a b r. g.F.Fn.post c.args.rule.now (a, (b, tt)) r) c.args.level.y c.args.end c.args.left c.loop-level.gap c.in_ok-gap.gap
          c.args.front.now.lines c.loop-level.front.lines c.pass_line.new.front.lines c.args.front.now.ended.items c.loop-level.front.ended.items
          c.pass_line.new.front.ended.items l c.in_ok-gap.ensures.after before c.in_ok-gap.ensures.at c.in_ok-gap.ensures.runs c.loop-level.invariant.runs;
      waiting = c.in_ok-gap.ensures.waiting ∙ c.loop-level.invariant.waiting;
    }

pub returns-then-not-is_before_end-clause-ended : goal.returns-then-not-is_before_end-clause-ended
returns-then-not-is_before_end-clause-ended g c = λ ascend.
    inr (ends_at c.args.level.y c.args.end c.args.front.now.lines.after c.loop-level.front.lines.after c.in-Some.line
    c.loop-level.invariant.passed ascend (sym c.in-Some.ensures)
    (c.is_before_end.ensures.no c.if-not-is_before_end.true))
