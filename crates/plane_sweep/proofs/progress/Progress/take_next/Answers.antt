use Rattle.std.proofs.Common.{ℕ, ℤ, pos, ◌-ℤ◌, Bool, ◌≤◌, length, arith, ap, subst, ◌∙◌}
use Rattle.half_grid.specs.JoinedLists.{IsJoined}
use Rattle.half_grid.specs.Trapezoids.{CoversExactly}
use Rattle.half_grid.specs.Windows.{RowRange}
use Rattle.trap_join.specs.Joins.{IsTakenIn}
use Rattle.trap_join.specs.Maximal.{IsMaximal, AreMaximal}
use Rattle.plane_sweep.specs.PlaneSweeps.{left_in, still_to_come}
use Rattle.plane_sweep.proofs.SweptParts.{given_one, waits_as, given_maximal, given_after, whole_joined, whole_maximal, whole_covers, one_less, nothing_waits}
use Rattle.plane_sweep.proofs.progress.Progress.take_next.Goals as goal

pub returns-in-Some-clause-gives : goal.returns-in-Some-clause-gives
returns-in-Some-clause-gives g c = λ edges given come.
    given_one _ _ _ _ _ _ given c.loop-trap.self.front.waiting.items c.pop_front.new.self.items c.in-Some.trap c.in-Some.ensures.items
    (c.loop-trap.invariant.given edges given come)

pub returns-in-Some-clause-maximal : goal.returns-in-Some-clause-maximal
returns-in-Some-clause-maximal g c = λ edges given come.
    let post : ℤ → ℤ → Bool → Type 0 = λ a b r. g.F.Fn.post c.args.rule.now (a, (b, tt)) r in
    let next = given_one _ _ _ _ _ _ given c.loop-trap.self.front.waiting.items c.pop_front.new.self.items c.in-Some.trap c.in-Some.ensures.items
    (c.loop-trap.invariant.given edges given come) in
    subst (λ (w : RowRange). IsMaximal (IsTakenIn post edges w) w c.in-Some.trap) c.loop-trap.invariant.window
    (given_maximal post edges c.loop-trap.self.window _ c.requires.rule _ _ _ given c.pop_front.new.self.items c.in-Some.trap next)

pub returns-in-Some-clause-in_order : goal.returns-in-Some-clause-in_order
returns-in-Some-clause-in_order g c = λ edges given come.
    let next = given_one _ _ _ _ _ _ given c.loop-trap.self.front.waiting.items c.pop_front.new.self.items c.in-Some.trap c.in-Some.ensures.items
    (c.loop-trap.invariant.given edges given come) in
    given_after _ edges c.loop-trap.self.window _ c.requires.rule _ _ _ given c.pop_front.new.self.items c.in-Some.trap next

pub returns-in-Some-clause-fewer : goal.returns-in-Some-clause-fewer
returns-in-Some-clause-fewer g c =
    one_less c.loop-trap.self.window.y1 _ (left_in c.args.self.now) c.loop-trap.self.front.waiting.items c.pop_front.new.self.items
    c.in-Some.trap c.in-Some.ensures.items c.loop-trap.invariant.fewer

pub advance-requires-clause-given : goal.advance-requires-clause-given
advance-requires-clause-given g c =
    let edges = c.requires.given.0 in
    let given = c.requires.given.1 in (
      edges,
      given,
      waits_as _ _ _ _ _ _ given c.loop-trap.self.front.waiting.items c.pop_front.new.self.items c.in_default.ensures.items
          (c.loop-trap.invariant.given edges given c.requires.given.2),
    )

pub returns-then-not-branch-clause-ends : goal.returns-then-not-branch-clause-ends
returns-then-not-branch-clause-ends g c = λ edges given come.
    c.in_ok-advance.ensures.given edges given
    (waits_as _ _ _ _ _ _ given c.loop-trap.self.front.waiting.items c.pop_front.new.self.items c.in_default.ensures.items
    (c.loop-trap.invariant.given edges given come))

pub returns-then-not-branch-clause-joined : goal.returns-then-not-branch-clause-joined
returns-then-not-branch-clause-joined g c = λ edges given come.
    let before = waits_as _ _ _ _ _ _ given c.loop-trap.self.front.waiting.items c.pop_front.new.self.items c.in_default.ensures.items
    (c.loop-trap.invariant.given edges given come) in
    let none = nothing_waits c.loop-trap.self.front.waiting.items c.pop_front.new.self.items c.in_default.ensures.items c.in_default.ensures.rest in
    subst (λ (w : RowRange). IsJoined w given) c.loop-trap.invariant.window
    (whole_joined _ edges c.loop-trap.self.window given c.pop_front.new.self.items none
    (c.in_ok-advance.ensures.whole edges given before c.if-not-branch.true))

pub returns-then-not-branch-clause-whole : goal.returns-then-not-branch-clause-whole
returns-then-not-branch-clause-whole g c = λ edges given come.
    let post : ℤ → ℤ → Bool → Type 0 = λ a b r. g.F.Fn.post c.args.rule.now (a, (b, tt)) r in
    let before = waits_as _ _ _ _ _ _ given c.loop-trap.self.front.waiting.items c.pop_front.new.self.items c.in_default.ensures.items
    (c.loop-trap.invariant.given edges given come) in
    let none = nothing_waits c.loop-trap.self.front.waiting.items c.pop_front.new.self.items c.in_default.ensures.items c.in_default.ensures.rest in
    subst (λ (w : RowRange). AreMaximal (IsTakenIn post edges w) w given) c.loop-trap.invariant.window
    (whole_maximal post edges c.loop-trap.self.window given c.pop_front.new.self.items none
    (c.in_ok-advance.ensures.whole edges given before c.if-not-branch.true))

pub returns-then-not-branch-clause-covers : goal.returns-then-not-branch-clause-covers
returns-then-not-branch-clause-covers g c = λ edges given come.
    let post : ℤ → ℤ → Bool → Type 0 = λ a b r. g.F.Fn.post c.args.rule.now (a, (b, tt)) r in
    let before = waits_as _ _ _ _ _ _ given c.loop-trap.self.front.waiting.items c.pop_front.new.self.items c.in_default.ensures.items
    (c.loop-trap.invariant.given edges given come) in
    let none = nothing_waits c.loop-trap.self.front.waiting.items c.pop_front.new.self.items c.in_default.ensures.items c.in_default.ensures.rest in
    subst (λ (w : RowRange). CoversExactly given (IsTakenIn post edges w)) c.loop-trap.invariant.window
    (whole_covers post edges c.loop-trap.self.window given c.pop_front.new.self.items none
    (c.in_ok-advance.ensures.whole edges given before c.if-not-branch.true))

pub returns-then-not-branch-clause-fewer : goal.returns-then-not-branch-clause-fewer
returns-then-not-branch-clause-fewer g c =
    let now : left_in c.loop-trap.self ≤ left_in c.args.self.now = c.loop-trap.invariant.fewer in
    let same = ap (λ (n : ℕ). still_to_come c.loop-trap.self.window.y1 (c.loop-trap.self.from.y -ℤ pos 1) n) (ap length c.in_default.ensures.items) in
    let step = c.in_ok-advance.ensures.never_more in
    omega (arith, now, same, step)

pub loop-trap-preserved : goal.loop-trap-preserved
loop-trap-preserved g c =
    let now : left_in c.loop-trap.self ≤ left_in c.args.self.now = c.loop-trap.invariant.fewer in
    let same = ap (λ (n : ℕ). still_to_come c.loop-trap.self.window.y1 (c.loop-trap.self.from.y -ℤ pos 1) n) (ap length c.in_default.ensures.items) in
    let step = c.in_ok-advance.ensures.never_more in
    record {
      given = λ edges given come.
          c.in_ok-advance.ensures.given edges given
          (waits_as _ _ _ _ _ _ given c.loop-trap.self.front.waiting.items c.pop_front.new.self.items c.in_default.ensures.items
          (c.loop-trap.invariant.given edges given come));
      window = c.in_ok-advance.ensures.window ∙ c.loop-trap.invariant.window;
      fewer = omega (arith, now, same, step);
    }
