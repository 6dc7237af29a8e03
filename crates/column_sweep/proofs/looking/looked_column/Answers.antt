use Rattle.std.proofs.Common.{ℤ, Bool, List, subst, ◌∙◌, append-nil}
use Rattle.half_grid.specs.Edges.{EdgeParts}
use Rattle.column_sweep.specs.Parts.{AreParts}
use Rattle.column_sweep.proofs.PartWindings.{part_balanced}
use Rattle.column_sweep.proofs.LookedColumns.{lower_left, looked_further}
use Rattle.column_sweep.proofs.looking.looked_column.Goals as goal

pub lowest_within-requires-clause-balanced : goal.lowest_within-requires-clause-balanced
lowest_within-requires-clause-balanced g c = part_balanced c.args.cut.x _ _ _ _ c.in_ok-parts.ensures

pub returns-clause-looked : goal.returns-clause-looked
returns-clause-looked g c = λ edges later right lt looked.
    let pre : g.row.F.Denot → ℤ → ℤ → Type 0 = λ rule a b. g.F.Fn.pre rule (a, (b, tt)) in
    let post : g.row.F.Denot → ℤ → ℤ → Bool → Type 0 = λ rule a b r. g.F.Fn.post rule (a, (b, tt)) r in
    let parts = subst (λ (xs : List EdgeParts).
    AreParts c.args.cut.x xs c.in_ok-parts.parts.own.items c.in_ok-parts.parts.beyond.items)
    (append-nil _ ∙ c.as_slice.ensures.value) c.in_ok-parts.ensures in
    let rows = c.rows_below-rows.ensures in
    rw c.first_of.ensures
    (looked_further (post c.args.rule.now) c.args.window c.args.looked.from.x edges
    (pre c.args.rule.now) c.requires.rule c.args.cut.x lt c.in_ok-parts.parts.own.items c.args.looked.found
    c.in_ok-lower.lower
    c.in_ok-edges.edges.items later c.in_ok-parts.parts.beyond.items right parts
    (lower_left _ _ _ _ _ _ (rw rows at c.in_ok-edges.ensures) looked.left) looked.known (rw rows at c.in_ok-lower.ensures))
