use Rattle.std.proofs.Common.{length, arith, sym, subst}
use Rattle.scan_line.specs.ClippedEdges.{parts_in}
use Rattle.active_lines.specs.ActiveLists.{ActiveList, items}
use Rattle.plane_sweep.specs.StopSettles.{SettlesStop}
use Rattle.plane_sweep.specs.Stops.{IsBelowStop}
use Rattle.plane_sweep.proofs.SweepSteps.{all_given, reach, below}
use Rattle.plane_sweep.proofs.SweptParts.{gone_on, gone_less}
use Rattle.plane_sweep.proofs.progress.Progress.advance.Goals as goal

pub returns-in_default-clause-whole : goal.returns-in_default-clause-whole
returns-in_default-clause-whole g c = λ edges given come same.
    all_given _ _ c.requires.rule _ _ _ _ _ _ come c.in_default.ensures.stop.0 c.in_default.ensures.stop.1

pub pass_stop-requires-clause-y : goal.pass_stop-requires-clause-y
pass_stop-requires-clause-y g c = reach _ _ c.requires.rule _ _ _ _ _ _ c.requires.given.2 c.in-Some.stop c.in-Some.ensures.stop

pub pass_stop-requires-clause-below : goal.pass_stop-requires-clause-below
pass_stop-requires-clause-below g c =
    let self = c.args.self.now in
    let parts = parts_in self.window c.requires.given.0 in (
      parts,
      subst (λ (list : ActiveList). IsBelowStop parts c.in-Some.stop.level.y (items list) (g.E.EventSource.left self.events)) (sym c.in-Some.ensures.same)
          (below _ _ c.requires.rule _ _ _ _ _ _ c.requires.given.2 c.in-Some.stop c.in-Some.ensures.stop),
    )

pub after-self-requires : goal.after-self-requires
after-self-requires g c = reach _ _ c.requires.rule _ _ _ _ _ _ c.requires.given.2 c.in-Some.stop c.in-Some.ensures.stop

pub returns-clause-given : goal.returns-clause-given
returns-clause-given g c = λ edges given come.
    let self = c.args.self.now in
    let stop = c.in-Some.stop in
    let parts = parts_in self.window edges in
    let here = subst (λ (list : ActiveList). IsBelowStop parts stop.level.y (items list) (g.E.EventSource.left self.events)) (sym c.in-Some.ensures.same)
    (below _ _ c.requires.rule _ _ _ _ _ _ come stop c.in-Some.ensures.stop) in
    let settles = subst (λ (list : ActiveList). SettlesStop (λ a b r. g.F.Fn.post c.args.rule.now (a, (b, tt)) r) stop.level.y (items list)
    self.front.waiting.items (items c.pass_stop.new.front.lines) c.pass_stop.new.front.waiting.items) c.in-Some.ensures.same
    c.in_ok-pass_stop.ensures.settles in
    gone_on _ _ c.requires.rule parts self.window _ c.after-self.result.y (items self.front.lines) (items c.pass_stop.new.front.lines)
    (g.E.EventSource.left self.events) (g.E.EventSource.left c.pass_stop.new.events) given
    self.front.waiting.items c.pass_stop.new.front.waiting.items come stop c.in-Some.ensures.stop
    (c.in_ok-pass_stop.ensures.above parts here) settles c.after-self.ensures

pub returns-clause-fewer : goal.returns-clause-fewer
returns-clause-fewer g c = λ _.
    gone_less _ _ c.requires.rule _ _ _ c.after-self.result.y _ _ _ c.requires.given.2 c.in-Some.stop c.in-Some.ensures.stop c.after-self.ensures
    (length c.pass_stop.new.front.waiting.items) (length c.args.self.now.front.waiting.items) c.know_waiting.ensures

pub returns-clause-never_more : goal.returns-clause-never_more
returns-clause-never_more g c =
    let fewer = gone_less _ _ c.requires.rule _ _ _ c.after-self.result.y _ _ _ c.requires.given.2 c.in-Some.stop c.in-Some.ensures.stop c.after-self.ensures
    (length c.pass_stop.new.front.waiting.items) (length c.args.self.now.front.waiting.items) c.know_waiting.ensures in
    omega (arith, fewer)
