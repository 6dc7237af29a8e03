use Rattle.std.proofs.Common.{ℤ, Bool}
use Rattle.column_sweep.proofs.LookedColumns.{lower_balanced, lower_all, looked_last}
use Rattle.column_sweep.proofs.looking.finish.Goals as goal

pub lowest_within-requires-clause-balanced : goal.lowest_within-requires-clause-balanced
lowest_within-requires-clause-balanced g c =
    lower_balanced _ _ _ c.in_ok-own.ensures (rw (c.rows_below-rows.ensures, c.in_ok-extend_from_slice.ensures.items) c.requires.balanced)

pub returns : goal.returns
returns g c = λ edges lt known balanced looked.
    let pre : g.row.F.Denot → ℤ → ℤ → Type 0 = λ rule a b. g.F.Fn.pre rule (a, (b, tt)) in
    let post : g.row.F.Denot → ℤ → ℤ → Bool → Type 0 = λ rule a b r. g.F.Fn.post rule (a, (b, tt)) r in
    let own = rw (c.rows_below-rows.ensures, c.in_ok-extend_from_slice.ensures.items) at c.in_ok-own.ensures in
    rw c.first_of.ensures
    (looked_last (post c.args.rule.now) c.args.window c.args.looked.from.x edges
    (pre c.args.rule.now) c.requires.rule lt known balanced c.in_ok-own.own.items c.args.looked.found
    c.in_ok-lower.lower
    (lower_all _ _ _ _ _ own looked.left) looked.known (rw c.rows_below-rows.ensures at c.in_ok-lower.ensures))
