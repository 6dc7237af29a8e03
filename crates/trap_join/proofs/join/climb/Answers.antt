use Rattle.std.proofs.Common.{ℤ, Bool, ◌≤◌, ◌∙◌, sym, arith}
use Rattle.trap_join.specs.Joins.{left_in}
use Rattle.trap_join.proofs.Advances.{moved_rule}
use Rattle.trap_join.proofs.join.climb.Goals as goal

pub advance-requires-clause-so_far : goal.advance-requires-clause-so_far
advance-requires-clause-so_far g c =
    let given = c.requires.so_far.0 in (
      given,
      moved_rule (λ rule a b r. g.F.Fn.post rule (a, (b, tt)) r) c.args.scan.now.rule c.loop-scan.scan.rule
          c.loop-scan.scan.edges c.loop-scan.scan.window c.loop-scan.scan.y _ _ (sym c.loop-scan.invariant.rule)
          (c.loop-scan.invariant.joined given c.requires.so_far.1),
    )

pub loop-scan-preserved : goal.loop-scan-preserved
loop-scan-preserved g c =
    let post : g.row.F.Denot → ℤ → ℤ → Bool → Type 0 = λ rule a b r. g.F.Fn.post rule (a, (b, tt)) r in
    let now : left_in c.loop-scan.scan c.loop-scan.front ≤ left_in c.args.scan.now c.args.front.now = c.loop-scan.invariant.fewer in
    let step = c.in_ok-advance.ensures.never_more in
    record {
      rule = c.in_ok-advance.ensures.rule ∙ c.loop-scan.invariant.rule;
      edges = c.in_ok-advance.ensures.edges ∙ c.loop-scan.invariant.edges;
      window = c.in_ok-advance.ensures.window ∙ c.loop-scan.invariant.window;
      joined = λ given so_far.
          (let before = moved_rule post c.args.scan.now.rule c.loop-scan.scan.rule c.loop-scan.scan.edges
          c.loop-scan.scan.window c.loop-scan.scan.y _ _ (sym c.loop-scan.invariant.rule)
          (c.loop-scan.invariant.joined given so_far) in
          moved_rule post c.loop-scan.scan.rule c.args.scan.now.rule c.advance.new.scan.edges c.advance.new.scan.window
          c.advance.new.scan.y _ _ c.loop-scan.invariant.rule (c.in_ok-advance.ensures.joined given before));
      top = c.in_ok-advance.ensures.top;
      fewer = omega (arith, now, step);
    }

pub returns-then-not-branch-clause-joined : goal.returns-then-not-branch-clause-joined
returns-then-not-branch-clause-joined g c = λ given so_far.
    let post : g.row.F.Denot → ℤ → ℤ → Bool → Type 0 = λ rule a b r. g.F.Fn.post rule (a, (b, tt)) r in
    let before = moved_rule post c.args.scan.now.rule c.loop-scan.scan.rule c.loop-scan.scan.edges
    c.loop-scan.scan.window c.loop-scan.scan.y _ _ (sym c.loop-scan.invariant.rule)
    (c.loop-scan.invariant.joined given so_far) in
    moved_rule post c.loop-scan.scan.rule c.args.scan.now.rule c.advance.new.scan.edges c.advance.new.scan.window
    c.advance.new.scan.y _ _ c.loop-scan.invariant.rule (c.in_ok-advance.ensures.joined given before)
