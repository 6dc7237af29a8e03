use Rattle.std.proofs.Common.{ℤ, Bool, [], ◌∷◌, ◌++◌, ◌≡◌, ◌∙◌, sym, subst, rules}
use Rattle.half_grid.specs.JoinedLists.{IsJoined}
use Rattle.half_grid.specs.Windows.{RowRange}
use Rattle.trap_join.proofs.ForCallers.{moved_rule, moved_cover}
use Rattle.column_sweep.proofs.Progressing.{behind_none}
use Rattle.column_sweep.proofs.columns.sort_out.Goals as goal

pub loop-join-init : goal.loop-join-init
loop-join-init g c = record {
  given = ([], (c.in_ok-join.ensures.given, behind_none c.args.column.from.x c.args.column.to.x c.args.sewn.now.finals.items c.args.sewn.now.seams.items));
  rule = c.in_ok-join.ensures.rule;
  edges = c.in_ok-join.ensures.edges;
  window = c.in_ok-join.ensures.window;
}

pub climb_within-requires-clause-going : goal.climb_within-requires-clause-going
climb_within-requires-clause-going g c = λ _.
    let given = c.loop-join.invariant.given in (
      given.0,
      moved_rule
          (λ rule a b r. g.F.Fn.post rule (a, (b, tt)) r) c.args.scan.rule c.loop-join.join.rule _ _ _ _ _
          (sym c.loop-join.invariant.rule) given.1.0,
    )

pub next-requires-clause-going : goal.next-requires-clause-going
next-requires-clause-going g c = λ _.
    let post : g.row.F.Denot → ℤ → ℤ → Bool → Type 0 = λ rule a b r. g.F.Fn.post rule (a, (b, tt)) r in
    let given = c.loop-join.invariant.given in
    let before = moved_rule post c.args.scan.rule c.loop-join.join.rule _ _ _ _ _ (sym c.loop-join.invariant.rule) given.1.0 in (
      given.0,
      moved_rule post c.loop-join.join.rule c.climb_within.new.self.rule _ _ _ _ _
          (sym c.in_ok-climb_within.ensures.rule) (c.in_ok-climb_within.ensures.same given.0 before),
    )

pub loop-join-preserved : goal.loop-join-preserved
loop-join-preserved g c =
    let post : g.row.F.Denot → ℤ → ℤ → Bool → Type 0 = λ rule a b r. g.F.Fn.post rule (a, (b, tt)) r in
    let given = c.loop-join.invariant.given in
    let kept : c.climb_within.new.self.rule ≡ c.args.scan.rule = c.in_ok-climb_within.ensures.rule ∙ c.loop-join.invariant.rule in
    let before = moved_rule post c.args.scan.rule c.loop-join.join.rule _ _ _ _ _ (sym c.loop-join.invariant.rule) given.1.0 in
    let ready = moved_rule post c.loop-join.join.rule c.climb_within.new.self.rule _ _ _ _ _
    (sym c.in_ok-climb_within.ensures.rule) (c.in_ok-climb_within.ensures.same given.0 before) in
    let after = rw c.in-Some.is at (c.in_ok-trap.ensures.gives given.0 ready) in
    let back = moved_rule post c.climb_within.new.self.rule c.args.scan.rule c.next.new.self.edges c.next.new.self.window
    c.next.new.self.y _ _ kept after in
    record {
      given = (given.0 ++ c.in-Some.trap ∷ [], (back, c.in_ok-sort_in-in-Some.ensures given.0 _ _ given.1.1));
      rule = c.in_ok-trap.ensures.rule ∙ kept;
      edges = c.in_ok-trap.ensures.edges ∙ (c.in_ok-climb_within.ensures.edges ∙ c.loop-join.invariant.edges);
      window = c.in_ok-trap.ensures.window ∙ (c.in_ok-climb_within.ensures.window ∙ c.loop-join.invariant.window);
    }

pub returns-in-None-clause-swept : goal.returns-in-None-clause-swept
returns-in-None-clause-swept g c =
    let post : g.row.F.Denot → ℤ → ℤ → Bool → Type 0 = λ rule a b r. g.F.Fn.post rule (a, (b, tt)) r in
    let given = c.loop-join.invariant.given in
    let kept : c.climb_within.new.self.rule ≡ c.args.scan.rule = c.in_ok-climb_within.ensures.rule ∙ c.loop-join.invariant.rule in
    let edges : c.climb_within.new.self.edges ≡ c.args.scan.edges = c.in_ok-climb_within.ensures.edges ∙ c.loop-join.invariant.edges in
    let window : c.climb_within.new.self.window ≡ c.args.scan.window = c.in_ok-climb_within.ensures.window ∙ c.loop-join.invariant.window in
    let before = moved_rule post c.args.scan.rule c.loop-join.join.rule _ _ _ _ _ (sym c.loop-join.invariant.rule) given.1.0 in
    let ready = moved_rule post c.loop-join.join.rule c.climb_within.new.self.rule _ _ _ _ _
    (sym c.in_ok-climb_within.ensures.rule) (c.in_ok-climb_within.ensures.same given.0 before) in
    record {
      traps = given.0;
      all = record {
        joined = subst (λ (rows : RowRange). IsJoined rows given.0) window (rw c.in-None.is at (c.in_ok-trap.ensures.joined given.0 ready));
        covers = moved_cover post c.climb_within.new.self.rule c.args.scan.rule c.climb_within.new.self.edges c.args.scan.edges
            c.climb_within.new.self.window c.args.scan.window given.0 kept edges window
            (rw c.in-None.is at (c.in_ok-trap.ensures.covers given.0 ready));
      };
      sorted = given.1.1;
    }

pub returns-clause-long : goal.returns-clause-long
returns-clause-long g c = λ _. (let over = c.in_ok-climb_within.ensures.over c.if-branch.false in search (rules, over))
