use Rattle.std.proofs.Common.{ℤ, Bool, List, refl, ◌∙◌, sym, subst}
use Rattle.half_grid.specs.JoinedLists.{IsJoined}
use Rattle.half_grid.specs.Trapezoids.{Trapezoid}
use Rattle.half_grid.specs.Windows.{RowRange}
use Rattle.trap_join.proofs.ForCallers.{moved_cover}
use Rattle.plane_sweep.specs.PlaneSweeps.{HasGiven}
use Rattle.plane_sweep.proofs.SweptParts.{moved_given}
use Rattle.plane_sweep.proofs.sweep.swept.Goals as goal

pub loop-traps-init : goal.loop-traps-init
loop-traps-init g c = record {
  given = subst (λ (items : List Trapezoid). HasGiven (λ a b r. g.F.Fn.post c.args.rule (a, (b, tt)) r) c.args.edges.items c.in_ok-sweep.sweep items)
      (sym c.new-traps.ensures.items) c.in_ok-sweep.ensures.given;
  rule = c.in_ok-sweep.ensures.rule;
  window = c.in_ok-sweep.ensures.window;
}

pub next-requires-clause-going : goal.next-requires-clause-going
next-requires-clause-going g c = λ _. (
  c.args.edges.items,
  c.loop-traps.traps.items,
  moved_given
      (λ rule a b r. g.F.Fn.post rule (a, (b, tt)) r) c.args.rule c.loop-traps.sweep.rule c.args.edges.items c.loop-traps.sweep c.loop-traps.traps.items
      (sym c.loop-traps.invariant.rule) c.loop-traps.invariant.given,
)

pub loop-traps-preserved : goal.loop-traps-preserved
loop-traps-preserved g c =
    let post : g.row.F.Denot → ℤ → ℤ → Bool → Type 0 = λ rule a b r. g.F.Fn.post rule (a, (b, tt)) r in
    let edges = c.args.edges.items in
    let before = moved_given post c.args.rule c.loop-traps.sweep.rule edges c.loop-traps.sweep c.loop-traps.traps.items
    (sym c.loop-traps.invariant.rule) c.loop-traps.invariant.given in
    let after = rw c.in-Some.is at (c.in_ok-trap.ensures.gives edges c.loop-traps.traps.items before) in
    let back = moved_given post c.loop-traps.sweep.rule c.args.rule edges c.next.new.self _ c.loop-traps.invariant.rule after in
    record {
      given = subst (λ (items : List Trapezoid). HasGiven (post c.args.rule) edges c.next.new.self items) (sym c.in_ok-push.ensures.items) back;
      rule = c.in_ok-trap.ensures.rule ∙ c.loop-traps.invariant.rule;
      window = c.in_ok-trap.ensures.window ∙ c.loop-traps.invariant.window;
    }

pub returns : goal.returns
returns g c =
    let post : g.row.F.Denot → ℤ → ℤ → Bool → Type 0 = λ rule a b r. g.F.Fn.post rule (a, (b, tt)) r in
    let edges = c.args.edges.items in
    let before = moved_given post c.args.rule c.loop-traps.sweep.rule edges c.loop-traps.sweep c.loop-traps.traps.items
    (sym c.loop-traps.invariant.rule) c.loop-traps.invariant.given in
    record {
      joined = subst (λ (window : RowRange). IsJoined window c.loop-traps.traps.items) c.loop-traps.invariant.window
          (rw c.in_default.is at (c.in_ok-trap.ensures.joined edges c.loop-traps.traps.items before));
      covers = moved_cover post c.loop-traps.sweep.rule c.args.rule edges edges
          c.loop-traps.sweep.window c.args.window c.loop-traps.traps.items
          c.loop-traps.invariant.rule refl c.loop-traps.invariant.window
          (rw c.in_default.is at (c.in_ok-trap.ensures.covers edges c.loop-traps.traps.items before));
    }
