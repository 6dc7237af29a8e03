use Rattle.std.proofs.Common.{ℕ, ℤ, Bool, ◌≤◌, length, ap, ◌∙◌, sym, arith, map}
use Rattle.trap_join.specs.Joins.{left_in, still_left}
use Rattle.half_grid.specs.Windows.{RowRange}
use Rattle.trap_join.specs.Fronts.{ended_at}
use Rattle.trap_join.proofs.Advances.{stays_joined, waits_as, taken_some, taken_maximal, taken_after, ends_joined}
use Rattle.trap_join.proofs.Advances.{ends_maximal, ends_covers, moved_rule, nothing_waits, given_less}
use Rattle.trap_join.proofs.join.take_next.Goals as goal

pub returns-in-Some-clause-gives : goal.returns-in-Some-clause-gives
returns-in-Some-clause-gives g c = λ given so_far.
    taken_some _ c.loop-trap.scan.edges c.loop-trap.scan.window c.loop-trap.scan.y given
    c.loop-trap.front.waiting.items _
    (c.loop-trap.invariant.joined given so_far) c.in-Some.trap c.pop_front.new.self.items c.in-Some.ensures.items

pub returns-in-Some-clause-maximal : goal.returns-in-Some-clause-maximal
returns-in-Some-clause-maximal g c =
    let given = c.requires.so_far.0 in
    let here = stays_joined _ c.loop-trap.scan.edges c.args.scan.now.edges c.loop-trap.scan.window
    c.args.scan.now.window _ _ _ (sym c.loop-trap.invariant.edges) (sym c.loop-trap.invariant.window)
    (c.loop-trap.invariant.joined given c.requires.so_far.1) in
    taken_maximal _ c.args.scan.now.edges c.args.scan.now.window c.loop-trap.scan.y given
    c.loop-trap.front.waiting.items _ here c.in-Some.trap c.pop_front.new.self.items c.in-Some.ensures.items

pub returns-in-Some-clause-in_order : goal.returns-in-Some-clause-in_order
returns-in-Some-clause-in_order g c = λ given so_far.
    taken_after _ c.loop-trap.scan.edges c.loop-trap.scan.window c.loop-trap.scan.y given
    c.loop-trap.front.waiting.items _
    (c.loop-trap.invariant.joined given so_far) c.in-Some.trap c.pop_front.new.self.items c.in-Some.ensures.items

pub returns-in-Some-clause-fewer : goal.returns-in-Some-clause-fewer
returns-in-Some-clause-fewer g c =
    given_less c.loop-trap.scan.window.y1 c.loop-trap.scan.y (length c.loop-trap.front.growing.items)
    (left_in c.args.scan.now c.args.front.now) c.loop-trap.front.waiting.items c.pop_front.new.self.items
    c.in-Some.trap c.in-Some.ensures.items c.loop-trap.invariant.fewer

pub advance-requires-clause-so_far : goal.advance-requires-clause-so_far
advance-requires-clause-so_far g c =
    let given = c.requires.so_far.0 in (
      given,
      moved_rule (λ rule a b r. g.F.Fn.post rule (a, (b, tt)) r) c.args.scan.now.rule c.loop-trap.scan.rule
          c.loop-trap.scan.edges c.loop-trap.scan.window c.loop-trap.scan.y _ _ (sym c.loop-trap.invariant.rule)
          (waits_as _ c.loop-trap.scan.edges c.loop-trap.scan.window c.loop-trap.scan.y given
          c.loop-trap.front.waiting.items _
          (c.loop-trap.invariant.joined given c.requires.so_far.1) c.pop_front.new.self.items
          c.in_default.ensures.items),
    )

pub returns-then-not-branch-clause-ends : goal.returns-then-not-branch-clause-ends
returns-then-not-branch-clause-ends g c = λ given so_far.
    let post : g.row.F.Denot → ℤ → ℤ → Bool → Type 0 = λ rule a b r. g.F.Fn.post rule (a, (b, tt)) r in
    let before = moved_rule post c.args.scan.now.rule c.loop-trap.scan.rule c.loop-trap.scan.edges
    c.loop-trap.scan.window c.loop-trap.scan.y _ _ (sym c.loop-trap.invariant.rule)
    (waits_as _ c.loop-trap.scan.edges c.loop-trap.scan.window c.loop-trap.scan.y given c.loop-trap.front.waiting.items
    _ (c.loop-trap.invariant.joined given so_far) c.pop_front.new.self.items c.in_default.ensures.items) in
    moved_rule post c.loop-trap.scan.rule c.args.scan.now.rule c.advance.new.scan.edges c.advance.new.scan.window
    c.advance.new.scan.y _ _ c.loop-trap.invariant.rule (c.in_ok-advance.ensures.joined given before)

pub returns-then-not-branch-clause-joined : goal.returns-then-not-branch-clause-joined
returns-then-not-branch-clause-joined g c = λ given so_far.
    let post : g.row.F.Denot → ℤ → ℤ → Bool → Type 0 = λ rule a b r. g.F.Fn.post rule (a, (b, tt)) r in
    let before = moved_rule post c.args.scan.now.rule c.loop-trap.scan.rule c.loop-trap.scan.edges
    c.loop-trap.scan.window c.loop-trap.scan.y _ _ (sym c.loop-trap.invariant.rule)
    (waits_as _ c.loop-trap.scan.edges c.loop-trap.scan.window c.loop-trap.scan.y given c.loop-trap.front.waiting.items
    _ (c.loop-trap.invariant.joined given so_far) c.pop_front.new.self.items c.in_default.ensures.items) in
    let after = moved_rule post c.loop-trap.scan.rule c.args.scan.now.rule c.advance.new.scan.edges
    c.advance.new.scan.window c.advance.new.scan.y _ _ c.loop-trap.invariant.rule
    (c.in_ok-advance.ensures.joined given before) in
    let edges = c.in_ok-advance.ensures.edges ∙ c.loop-trap.invariant.edges in
    let window = c.in_ok-advance.ensures.window ∙ c.loop-trap.invariant.window in
    let here = stays_joined _ c.advance.new.scan.edges c.args.scan.now.edges c.advance.new.scan.window
    c.args.scan.now.window _ _ _ (sym edges) (sym window) after in
    let none_waits = c.in_ok-advance.ensures.same c.if-not-branch.true
    ∙ nothing_waits c.loop-trap.front.waiting.items c.pop_front.new.self.items c.in_default.ensures.items
    c.in_default.ensures.rest in
    let none_grows = ap (map (ended_at c.advance.new.scan.y)) (c.in_ok-advance.ensures.none c.if-not-branch.true) in
    let at_end = c.in_ok-advance.ensures.over c.if-not-branch.true ∙ ap (λ (w : RowRange). w.y1) window in
    ends_joined _ c.args.scan.now.edges c.args.scan.now.window c.advance.new.scan.y given c.advance.new.front.waiting.items _ here none_waits none_grows at_end

pub returns-then-not-branch-clause-covers : goal.returns-then-not-branch-clause-covers
returns-then-not-branch-clause-covers g c = λ given so_far.
    let post : g.row.F.Denot → ℤ → ℤ → Bool → Type 0 = λ rule a b r. g.F.Fn.post rule (a, (b, tt)) r in
    let before = moved_rule post c.args.scan.now.rule c.loop-trap.scan.rule c.loop-trap.scan.edges
    c.loop-trap.scan.window c.loop-trap.scan.y _ _ (sym c.loop-trap.invariant.rule)
    (waits_as _ c.loop-trap.scan.edges c.loop-trap.scan.window c.loop-trap.scan.y given c.loop-trap.front.waiting.items
    _ (c.loop-trap.invariant.joined given so_far) c.pop_front.new.self.items c.in_default.ensures.items) in
    let after = moved_rule post c.loop-trap.scan.rule c.args.scan.now.rule c.advance.new.scan.edges
    c.advance.new.scan.window c.advance.new.scan.y _ _ c.loop-trap.invariant.rule
    (c.in_ok-advance.ensures.joined given before) in
    let edges = c.in_ok-advance.ensures.edges ∙ c.loop-trap.invariant.edges in
    let window = c.in_ok-advance.ensures.window ∙ c.loop-trap.invariant.window in
    let here = stays_joined _ c.advance.new.scan.edges c.args.scan.now.edges c.advance.new.scan.window
    c.args.scan.now.window _ _ _ (sym edges) (sym window) after in
    let none_waits = c.in_ok-advance.ensures.same c.if-not-branch.true
    ∙ nothing_waits c.loop-trap.front.waiting.items c.pop_front.new.self.items c.in_default.ensures.items
    c.in_default.ensures.rest in
    let none_grows = ap (map (ended_at c.advance.new.scan.y)) (c.in_ok-advance.ensures.none c.if-not-branch.true) in
    let at_end = c.in_ok-advance.ensures.over c.if-not-branch.true ∙ ap (λ (w : RowRange). w.y1) window in
    ends_covers _ c.args.scan.now.edges c.args.scan.now.window c.advance.new.scan.y given c.advance.new.front.waiting.items _ here none_waits none_grows at_end

pub returns-then-not-branch-clause-whole : goal.returns-then-not-branch-clause-whole
returns-then-not-branch-clause-whole g c = λ given so_far.
    let post : g.row.F.Denot → ℤ → ℤ → Bool → Type 0 = λ rule a b r. g.F.Fn.post rule (a, (b, tt)) r in
    let before = moved_rule post c.args.scan.now.rule c.loop-trap.scan.rule c.loop-trap.scan.edges
    c.loop-trap.scan.window c.loop-trap.scan.y _ _ (sym c.loop-trap.invariant.rule)
    (waits_as _ c.loop-trap.scan.edges c.loop-trap.scan.window c.loop-trap.scan.y given c.loop-trap.front.waiting.items
    _ (c.loop-trap.invariant.joined given so_far) c.pop_front.new.self.items c.in_default.ensures.items) in
    let after = moved_rule post c.loop-trap.scan.rule c.args.scan.now.rule c.advance.new.scan.edges
    c.advance.new.scan.window c.advance.new.scan.y _ _ c.loop-trap.invariant.rule
    (c.in_ok-advance.ensures.joined given before) in
    let edges = c.in_ok-advance.ensures.edges ∙ c.loop-trap.invariant.edges in
    let window = c.in_ok-advance.ensures.window ∙ c.loop-trap.invariant.window in
    let here = stays_joined _ c.advance.new.scan.edges c.args.scan.now.edges c.advance.new.scan.window
    c.args.scan.now.window _ _ _ (sym edges) (sym window) after in
    let none_waits = c.in_ok-advance.ensures.same c.if-not-branch.true
    ∙ nothing_waits c.loop-trap.front.waiting.items c.pop_front.new.self.items c.in_default.ensures.items
    c.in_default.ensures.rest in
    let none_grows = ap (map (ended_at c.advance.new.scan.y)) (c.in_ok-advance.ensures.none c.if-not-branch.true) in
    let at_end = c.in_ok-advance.ensures.over c.if-not-branch.true ∙ ap (λ (w : RowRange). w.y1) window in
    ends_maximal _ c.args.scan.now.edges c.args.scan.now.window c.advance.new.scan.y given c.advance.new.front.waiting.items _ here none_waits none_grows at_end

pub returns-then-not-branch-clause-fewer : goal.returns-then-not-branch-clause-fewer
returns-then-not-branch-clause-fewer g c =
    let now : left_in c.loop-trap.scan c.loop-trap.front ≤ left_in c.args.scan.now c.args.front.now = c.loop-trap.invariant.fewer in
    let same = ap (λ (n : ℕ). still_left c.loop-trap.scan.window.y1 c.loop-trap.scan.y
    (length c.loop-trap.front.growing.items) n) (ap length c.in_default.ensures.items) in
    let step = c.in_ok-advance.ensures.never_more in
    omega (arith, now, same, step)

pub loop-trap-preserved : goal.loop-trap-preserved
loop-trap-preserved g c =
    let post : g.row.F.Denot → ℤ → ℤ → Bool → Type 0 = λ rule a b r. g.F.Fn.post rule (a, (b, tt)) r in
    let same = ap (λ (n : ℕ). still_left c.loop-trap.scan.window.y1 c.loop-trap.scan.y
    (length c.loop-trap.front.growing.items) n) (ap length c.in_default.ensures.items) in
    let now : left_in c.loop-trap.scan c.loop-trap.front ≤ left_in c.args.scan.now c.args.front.now = c.loop-trap.invariant.fewer in
    let step = c.in_ok-advance.ensures.never_more in
    record {
      rule = c.in_ok-advance.ensures.rule ∙ c.loop-trap.invariant.rule;
      edges = c.in_ok-advance.ensures.edges ∙ c.loop-trap.invariant.edges;
      window = c.in_ok-advance.ensures.window ∙ c.loop-trap.invariant.window;
      joined = λ given so_far.
          (let before = moved_rule post c.args.scan.now.rule c.loop-trap.scan.rule c.loop-trap.scan.edges
          c.loop-trap.scan.window c.loop-trap.scan.y _ _ (sym c.loop-trap.invariant.rule)
          (waits_as _ c.loop-trap.scan.edges c.loop-trap.scan.window c.loop-trap.scan.y given
          c.loop-trap.front.waiting.items _
          (c.loop-trap.invariant.joined given so_far) c.pop_front.new.self.items c.in_default.ensures.items) in
          moved_rule post c.loop-trap.scan.rule c.args.scan.now.rule c.advance.new.scan.edges c.advance.new.scan.window
          c.advance.new.scan.y _ _ c.loop-trap.invariant.rule (c.in_ok-advance.ensures.joined given before));
      top = c.in_ok-advance.ensures.top;
      fewer = omega (arith, now, same, step);
    }
