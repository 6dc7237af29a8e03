use Rattle.std.proofs.Common.{ℤ, Bool, IfSome, [], ◌∷◌, ◌++◌, sym, subst}
use Rattle.trap_join.specs.Joins.{IsTakenIn}
use Rattle.trap_join.specs.Maximal.{IsMaximal}
use Rattle.active_lines.specs.ActiveLists.{items}
use Rattle.plane_sweep.specs.PlaneSweeps.{SweepState, HasGiven}
use Rattle.plane_sweep.proofs.sweep.Sweep.next.Goals as goal

pub returns-in-Ok-clause-gives : goal.returns-in-Ok-clause-gives
returns-in-Ok-clause-gives g c = λ edges given has.
    let F = g.row.F.Denot in
    let post : F → ℤ → ℤ → Bool → Type 0 = λ rule a b r. g.F.Fn.post rule (a, (b, tt)) r in
    let p = c.take_next.new.self in
    let after : SweepState F = record {
      rule = c.self.inside.rule;
      window = p.window;
      from = p.from.y;
      lines = items p.front.lines;
      left = g.E.EventSource.left p.events;
      waiting = p.front.waiting.items;
      failed = c.self.inside.failed;
    } in
    subst (λ (s : SweepState F). IfSome c.in-Ok.answer (λ trap. HasGiven (post s.rule) edges after (given ++ trap ∷ []))) c.self.view_is
    (c.in-Ok.ensures.gives edges given (subst (λ (s : SweepState F). HasGiven (post s.rule) edges s given) (sym c.self.view_is) has))

pub returns-in-Ok-clause-maximal : goal.returns-in-Ok-clause-maximal
returns-in-Ok-clause-maximal g c = λ edges given has.
    let F = g.row.F.Denot in
    let post : F → ℤ → ℤ → Bool → Type 0 = λ rule a b r. g.F.Fn.post rule (a, (b, tt)) r in
    subst (λ (s : SweepState F). IfSome c.in-Ok.answer (IsMaximal (IsTakenIn (post s.rule) edges s.window) s.window)) c.self.view_is
    (c.in-Ok.ensures.maximal edges given (subst (λ (s : SweepState F). HasGiven (post s.rule) edges s given) (sym c.self.view_is) has))
