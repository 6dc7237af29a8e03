use Rattle.std.proofs.Common.{◌∙◌, ap, sym, subst, refl, List}
use Rattle.std.specs.List.{flat_map}
use Rattle.half_grid.specs.Edges.{EdgeParts, edges_of_trapezoid}
use Rattle.half_grid.specs.declared.border.Operand.TheVariants.{A}
use Rattle.scan_line.specs.Runs.{IsBalancedAt}
use Rattle.column_sweep.proofs.Stitching.{sewn_again, same_again, taken_has, has_taken, seams_balanced}
use Rattle.column_sweep.proofs.seams.resewn.Goals as goal

pub swept_columns-requires-clause-balanced : goal.swept_columns-requires-clause-balanced
swept_columns-requires-clause-balanced c = λ o j low high.
    subst (λ (xs : List EdgeParts). IsBalancedAt xs o j)
    (sym (c.in_ok-edges.ensures ∙ ap (flat_map (edges_of_trapezoid A)) c.as_slice.ensures.value))
    (seams_balanced o A c.args.sewn.seams.items j)

pub returns-clause-sewn : goal.returns-clause-sewn
returns-clause-sewn c =
    let covers = rw (c.in_ok-edges.ensures, c.as_slice.ensures.value) at c.in_ok-next.ensures.covers in
    rw (c.in_ok-extend_from_slice.ensures.items, c.as_slice-2.ensures.value)
    (sewn_again c.args.window c.args.sewn.finals.items c.args.sewn.seams.items _ _ c.requires c.in_ok-next.ensures.sewn _
    (taken_has c.args.window c.args.sewn.seams.items c.requires.pieces _ (λ x y r h. h) (λ x y. refl))
    (has_taken c.args.window c.args.sewn.seams.items c.requires.pieces _ (λ x y r h. h) (λ x y. refl)) covers)

pub returns-clause-same : goal.returns-clause-same
returns-clause-same c =
    let covers = rw (c.in_ok-edges.ensures, c.as_slice.ensures.value) at c.in_ok-next.ensures.covers in
    rw (c.in_ok-extend_from_slice.ensures.items, c.as_slice-2.ensures.value)
    (same_again c.args.window c.args.sewn.finals.items c.args.sewn.seams.items _ _ c.requires c.in_ok-next.ensures.sewn _
    (taken_has c.args.window c.args.sewn.seams.items c.requires.pieces _ (λ x y r h. h) (λ x y. refl))
    (has_taken c.args.window c.args.sewn.seams.items c.requires.pieces _ (λ x y r h. h) (λ x y. refl)) covers)
