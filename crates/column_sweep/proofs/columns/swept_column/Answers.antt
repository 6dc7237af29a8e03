use Rattle.std.proofs.Common.{ℤ, Bool, List, ◌++◌, subst}
use Rattle.half_grid.specs.Edges.{EdgeParts}
use Rattle.column_sweep.specs.Parts.{AreParts}
use Rattle.column_sweep.proofs.PartWindings.{further_behind, part_winds, next_left, part_balanced}
use Rattle.column_sweep.proofs.columns.swept_column.Goals as goal

pub sweep_part-requires-clause-balanced : goal.sweep_part-requires-clause-balanced
sweep_part-requires-clause-balanced g c = part_balanced c.args.cut.x _ _ _ c.args.window c.in_ok-parts.ensures

pub returns-clause-left : goal.returns-clause-left
returns-clause-left g c = λ edges later right lt left.
    let parts = subst (λ (xs : List EdgeParts). AreParts c.args.cut.x
    (xs ++ c.args.taken.now) c.in_ok-parts.parts.own.items c.in_ok-parts.parts.beyond.items)
    c.as_slice.ensures.value c.in_ok-parts.ensures in
    next_left edges (c.args.progress.edges.items ++ c.args.taken.now) later _ _ c.args.progress.from.x c.args.cut.x lt right left parts

pub returns-clause-swept : goal.returns-clause-swept
returns-clause-swept g c = λ edges later low right low_from lt left before.
    let pre : g.row.F.Denot → ℤ → ℤ → Type 0 = λ rule a b. g.F.Fn.pre rule (a, (b, tt)) in
    let post : g.row.F.Denot → ℤ → ℤ → Bool → Type 0 = λ rule a b r. g.F.Fn.post rule (a, (b, tt)) r in
    let parts = subst (λ (xs : List EdgeParts). AreParts c.args.cut.x
    (xs ++ c.args.taken.now) c.in_ok-parts.parts.own.items c.in_ok-parts.parts.beyond.items)
    c.as_slice.ensures.value c.in_ok-parts.ensures in
    further_behind (pre c.args.rule.now)
    (post c.args.rule.now) c.requires.rule c.args.window c.args.progress.from.x c.args.cut.x edges
    c.in_ok-parts.parts.own.items
    (part_winds edges (c.args.progress.edges.items ++ c.args.taken.now) later _ _ c.args.progress.from.x c.args.cut.x lt right left parts c.args.window)
    low low_from lt _ _ _ _ before c.in_ok-sweep_part.ensures.swept
