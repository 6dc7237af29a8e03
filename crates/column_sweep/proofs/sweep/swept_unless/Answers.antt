use Rattle.std.proofs.Common.{ℤ, Bool, List, sym, subst}
use Rattle.half_grid.specs.Edges.{EdgeParts}
use Rattle.half_grid.specs.Trapezoids.{Trapezoid}
use Rattle.scan_line.specs.Runs.{IsBalanced}
use Rattle.column_sweep.specs.Sweeps.{IsSwept}
use Rattle.column_sweep.proofs.CutLemmas.{balanced_cut, swept_cut}
use Rattle.column_sweep.proofs.Sweeping.{balanced_rest, swept_rest}
use Rattle.column_sweep.proofs.sweep.swept_unless.Goals as goal

pub tried_plain-requires-clause-balanced : goal.tried_plain-requires-clause-balanced
tried_plain-requires-clause-balanced g c =
    subst (λ (edges : List EdgeParts). IsBalanced edges c.args.window) (sym c.cut_to.ensures)
    (balanced_cut c.args.window c.args.edges.items c.requires.balanced)

pub swept_by_need-requires-clause-balanced : goal.swept_by_need-requires-clause-balanced
swept_by_need-requires-clause-balanced g c = balanced_rest c.cut_to.new.edges.items c.in-GivenUp.rest.items c.args.window
    (rw c.in-GivenUp.is at c.in_ok-swept.ensures)
    (subst (λ (edges : List EdgeParts). IsBalanced edges c.args.window) (sym c.cut_to.ensures)
    (balanced_cut c.args.window c.args.edges.items c.requires.balanced))

pub returns-in-Whole-clause-swept : goal.returns-in-Whole-clause-swept
returns-in-Whole-clause-swept g c =
    let post : g.row.F.Denot → ℤ → ℤ → Bool → Type 0 = λ rule a b r. g.F.Fn.post rule (a, (b, tt)) r in
    let traps : List Trapezoid = c.in-Whole.swept.traps.items in
    swept_cut c.args.window c.args.edges.items (post c.args.rule) traps
    (subst (λ (edges : List EdgeParts). IsSwept (post c.args.rule) edges c.args.window traps) c.cut_to.ensures
    (rw c.in-Whole.is at c.in_ok-swept.ensures))

pub returns-in_ok-again-in-GivenUp-clause-swept : goal.returns-in_ok-again-in-GivenUp-clause-swept
returns-in_ok-again-in-GivenUp-clause-swept g c =
    let post : g.row.F.Denot → ℤ → ℤ → Bool → Type 0 = λ rule a b r. g.F.Fn.post rule (a, (b, tt)) r in
    let traps : List Trapezoid = c.in_ok-again-in-GivenUp.again.traps.items in
    swept_cut c.args.window c.args.edges.items (post c.args.rule) traps
    (subst (λ (edges : List EdgeParts). IsSwept (post c.args.rule) edges c.args.window traps) c.cut_to.ensures
    (swept_rest (post c.args.rule) c.cut_to.new.edges.items c.in-GivenUp.rest.items c.args.window
    (rw c.in-GivenUp.is at c.in_ok-swept.ensures) _ c.in_ok-again-in-GivenUp.ensures.swept))
