use Rattle.std.proofs.Common.{ℤ, Bool, List, ◌++◌, ◌∙◌, sym, subst}
use Rattle.half_grid.specs.JoinedLists.{IsJoined}
use Rattle.half_grid.specs.Trapezoids.{Trapezoid}
use Rattle.half_grid.specs.Windows.{RowRange}
use Rattle.trap_join.specs.Joins.{IsJoinedSoFar}
use Rattle.trap_join.proofs.ForCallers.{moved_rule, moved_cover}
use Rattle.column_sweep.proofs.sweep.joined.Goals as goal

pub next-requires-clause-going : goal.next-requires-clause-going
next-requires-clause-going g c = λ _. (
  c.loop-traps.traps.items,
  moved_rule
      (λ rule a b r. g.F.Fn.post rule (a, (b, tt)) r) c.args.scan.rule c.loop-traps.join.rule _ _ _ _ _
      (sym c.loop-traps.invariant.rule) c.loop-traps.invariant.given,
)

pub loop-traps-preserved : goal.loop-traps-preserved
loop-traps-preserved g c =
    let post : g.row.F.Denot → ℤ → ℤ → Bool → Type 0 = λ rule a b r. g.F.Fn.post rule (a, (b, tt)) r in
    let before = moved_rule post c.args.scan.rule c.loop-traps.join.rule _ _ _ _ _ (sym c.loop-traps.invariant.rule) c.loop-traps.invariant.given in
    let after = rw c.in-Some.is at (c.in_ok-trap.ensures.gives c.loop-traps.traps.items before) in
    let back = moved_rule post c.loop-traps.join.rule c.args.scan.rule c.next.new.self.edges c.next.new.self.window
    c.next.new.self.y _ _ c.loop-traps.invariant.rule after in
    record {
      given = subst (λ (items : List Trapezoid). IsJoinedSoFar
          (post c.args.scan.rule) c.next.new.self.edges c.next.new.self.window c.next.new.self.y
          (items ++ c.next.new.self.waiting) c.next.new.self.front) (sym c.in_ok-push.ensures.items) back;
      rule = c.in_ok-trap.ensures.rule ∙ c.loop-traps.invariant.rule;
      edges = c.in_ok-trap.ensures.edges ∙ c.loop-traps.invariant.edges;
      window = c.in_ok-trap.ensures.window ∙ c.loop-traps.invariant.window;
    }

pub returns : goal.returns
returns g c =
    let post : g.row.F.Denot → ℤ → ℤ → Bool → Type 0 = λ rule a b r. g.F.Fn.post rule (a, (b, tt)) r in
    let before = moved_rule post c.args.scan.rule c.loop-traps.join.rule _ _ _ _ _ (sym c.loop-traps.invariant.rule) c.loop-traps.invariant.given in
    record {
      joined = subst (λ (window : RowRange). IsJoined window c.loop-traps.traps.items) c.loop-traps.invariant.window
          (rw c.in_default.is at (c.in_ok-trap.ensures.joined c.loop-traps.traps.items before));
      covers = moved_cover post c.loop-traps.join.rule c.args.scan.rule c.loop-traps.join.edges c.args.scan.edges
          c.loop-traps.join.window c.args.scan.window c.loop-traps.traps.items
          c.loop-traps.invariant.rule c.loop-traps.invariant.edges c.loop-traps.invariant.window
          (rw c.in_default.is at (c.in_ok-trap.ensures.covers c.loop-traps.traps.items before));
    }
