use Rattle.std.proofs.Common.{ℤ, Bool, List, ◌++◌, subst, sym}
use Rattle.half_grid.specs.Edges.{EdgeParts}
use Rattle.scan_line.specs.Runs.{IsBalanced}
use Rattle.column_sweep.proofs.PartWindings.{further_behind, last_winds}
use Rattle.column_sweep.proofs.columns.finish.Goals as goal

pub sweep_part-requires-clause-balanced : goal.sweep_part-requires-clause-balanced
sweep_part-requires-clause-balanced g c = subst (λ (xs : List EdgeParts). IsBalanced xs c.args.window)
    (sym c.in_ok-extend_from_slice.ensures.items) c.requires.balanced

pub returns-clause-swept : goal.returns-clause-swept
returns-clause-swept g c = λ edges low low_from lt known balanced left before.
    let pre : g.row.F.Denot → ℤ → ℤ → Type 0 = λ rule a b. g.F.Fn.pre rule (a, (b, tt)) in
    let post : g.row.F.Denot → ℤ → ℤ → Bool → Type 0 = λ rule a b r. g.F.Fn.post rule (a, (b, tt)) r in
    further_behind (pre c.args.rule.now)
    (post c.args.rule.now) c.requires.rule c.args.window c.args.progress.from.x _ edges
    (c.args.progress.edges.items ++ c.args.later.now)
    (last_winds c.args.window c.args.progress.from.x edges (c.args.progress.edges.items ++ c.args.later.now) lt known balanced left)
    low low_from lt _ _ _ _ before (rw (c.behind_all.ensures, c.in_ok-extend_from_slice.ensures.items) at c.in_ok-sweep_part.ensures.swept)
