use Rattle.std.proofs.Common.{rules, ℤ, Bool, List, ◌≡◌, ◌++◌, ◌∙◌, sym, subst}
use Rattle.std.proofs.lemmas.List.Sorted.{IsPermutation-refl}
use Rattle.std.specs.Prelude.{IsPermutation}
use Rattle.half_grid.specs.Edges.{EdgeParts}
use Rattle.half_grid.specs.JoinedLists.{IsJoined}
use Rattle.half_grid.specs.Trapezoids.{Trapezoid}
use Rattle.half_grid.specs.Windows.{RowRange}
use Rattle.trap_join.specs.Joins.{IsJoinedSoFar}
use Rattle.trap_join.proofs.ForCallers.{moved_rule, moved_cover}
use Rattle.column_sweep.proofs.sweep.joined_within.Goals as goal

pub climb_within-requires-clause-going : goal.climb_within-requires-clause-going
climb_within-requires-clause-going g c = λ _. (
  c.loop-traps.traps.items,
  moved_rule
      (λ rule a b r. g.F.Fn.post rule (a, (b, tt)) r) c.args.scan.rule c.loop-traps.join.rule _ _ _ _ _
      (sym c.loop-traps.invariant.rule) c.loop-traps.invariant.given,
)

pub next-requires-clause-going : goal.next-requires-clause-going
next-requires-clause-going g c = λ _.
    let post : g.row.F.Denot → ℤ → ℤ → Bool → Type 0 = λ rule a b r. g.F.Fn.post rule (a, (b, tt)) r in
    let before = moved_rule post c.args.scan.rule c.loop-traps.join.rule _ _ _ _ _ (sym c.loop-traps.invariant.rule) c.loop-traps.invariant.given in (
      c.loop-traps.traps.items,
      moved_rule post c.loop-traps.join.rule c.climb_within.new.self.rule _ _ _ _ _
          (sym c.in_ok-climb_within.ensures.rule) (c.in_ok-climb_within.ensures.same c.loop-traps.traps.items before),
    )

pub loop-traps-preserved : goal.loop-traps-preserved
loop-traps-preserved g c =
    let post : g.row.F.Denot → ℤ → ℤ → Bool → Type 0 = λ rule a b r. g.F.Fn.post rule (a, (b, tt)) r in
    let kept : c.climb_within.new.self.rule ≡ c.args.scan.rule = c.in_ok-climb_within.ensures.rule ∙ c.loop-traps.invariant.rule in
    let before = moved_rule post c.args.scan.rule c.loop-traps.join.rule _ _ _ _ _ (sym c.loop-traps.invariant.rule) c.loop-traps.invariant.given in
    let ready = moved_rule post c.loop-traps.join.rule c.climb_within.new.self.rule _ _ _ _ _
    (sym c.in_ok-climb_within.ensures.rule)
    (c.in_ok-climb_within.ensures.same c.loop-traps.traps.items before) in
    let after = rw c.in-Some.is at (c.in_ok-trap.ensures.gives c.loop-traps.traps.items ready) in
    let back = moved_rule post c.climb_within.new.self.rule c.args.scan.rule c.next.new.self.edges c.next.new.self.window c.next.new.self.y _ _ kept after in
    record {
      given = subst (λ (items : List Trapezoid). IsJoinedSoFar
          (post c.args.scan.rule) c.next.new.self.edges c.next.new.self.window c.next.new.self.y
          (items ++ c.next.new.self.waiting) c.next.new.self.front) (sym c.in_ok-push-in-Some.ensures.items) back;
      rule = c.in_ok-trap.ensures.rule ∙ kept;
      edges = c.in_ok-trap.ensures.edges ∙ (c.in_ok-climb_within.ensures.edges ∙ c.loop-traps.invariant.edges);
      window = c.in_ok-trap.ensures.window ∙ (c.in_ok-climb_within.ensures.window ∙ c.loop-traps.invariant.window);
    }

pub returns-in-None-clause-tried : goal.returns-in-None-clause-tried
returns-in-None-clause-tried g c =
    let post : g.row.F.Denot → ℤ → ℤ → Bool → Type 0 = λ rule a b r. g.F.Fn.post rule (a, (b, tt)) r in
    let kept : c.climb_within.new.self.rule ≡ c.args.scan.rule = c.in_ok-climb_within.ensures.rule ∙ c.loop-traps.invariant.rule in
    let edges : c.climb_within.new.self.edges ≡ c.args.scan.edges = c.in_ok-climb_within.ensures.edges ∙ c.loop-traps.invariant.edges in
    let window : c.climb_within.new.self.window ≡ c.args.scan.window = c.in_ok-climb_within.ensures.window ∙ c.loop-traps.invariant.window in
    let before = moved_rule post c.args.scan.rule c.loop-traps.join.rule _ _ _ _ _ (sym c.loop-traps.invariant.rule) c.loop-traps.invariant.given in
    let ready = moved_rule post c.loop-traps.join.rule c.climb_within.new.self.rule _ _ _ _ _
    (sym c.in_ok-climb_within.ensures.rule)
    (c.in_ok-climb_within.ensures.same c.loop-traps.traps.items before) in
    record {
      joined = subst (λ (rows : RowRange). IsJoined rows c.loop-traps.traps.items) window
          (rw c.in-None.is at (c.in_ok-trap.ensures.joined c.loop-traps.traps.items ready));
      covers = moved_cover post c.climb_within.new.self.rule c.args.scan.rule c.climb_within.new.self.edges
          c.args.scan.edges c.climb_within.new.self.window c.args.scan.window c.loop-traps.traps.items
          kept edges window (rw c.in-None.is at (c.in_ok-trap.ensures.covers c.loop-traps.traps.items ready));
    }

pub returns-clause-tried : goal.returns-clause-tried
returns-clause-tried g c =
    subst (λ (edges : List EdgeParts). IsPermutation edges c.args.scan.edges)
    (sym (c.into_edges.ensures ∙ (c.in_ok-climb_within.ensures.edges ∙ c.loop-traps.invariant.edges)))
    (IsPermutation-refl c.args.scan.edges)

pub returns-clause-long : goal.returns-clause-long
returns-clause-long g c = let over = c.in_ok-climb_within.ensures.over c.if-branch.false in search (rules, over)
