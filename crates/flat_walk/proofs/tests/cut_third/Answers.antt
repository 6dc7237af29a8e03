use Rattle.std.proofs.Common.{◌<◌, [], ◌∷◌, length, sym, ap, subst, refl, ◌∙◌}
use Rattle.half_grid.specs.Quads.{ring_of, corners_of}
use Rattle.flat_walk.specs.Tables.{AreCut, with_lists}
use Rattle.flat_walk.proofs.TableLemmas.{pushed_length}
use Rattle.flat_walk.proofs.TestLemmas.{has_cell, third_cut}
use Rattle.flat_walk.proofs.tests.cut_third.Goals as goal

pub push_none-requires : goal.push_none-requires
push_none-requires g c =
    let none = rw c.expect-parts.ensures at c.with_spare.ensures in
    has_cell c.args.tree.now.layout.cells c.expect-parts.result (c.requires.0 ∷ c.requires.1 ∷ c.requires.2 ∷ []) none c.requires.3

pub push-requires : goal.push-requires
push-requires g c =
    let none = rw c.expect-parts.ensures at c.with_spare.ensures in
    let some = has_cell c.args.tree.now.layout.cells c.expect-parts.result (c.requires.0 ∷ c.requires.1 ∷ c.requires.2 ∷ []) none c.requires.3 in
    subst (λ n. 0 < n) (sym (ap length c.push_none.ensures ∙ pushed_length c.expect-parts.result 0 ([] ∷ [] ∷ []))) some

pub returns : goal.returns
returns g c =
    let none = rw c.expect-parts.ensures at c.with_spare.ensures in
    let points = c.requires.6 ∙ ap (λ z. ring_of (corners_of z)) (sym c.piece-whole.ensures) in
    subst (λ t. AreCut c.args.tree.now.layout.cells c.args.tree.now.top t (record { layer = 1; datatype = 0 }))
    (sym (c.push.ensures ∙ ap (λ t. with_lists t 0 ((c.piece-whole.result ∷ []) ∷ [])) c.push_none.ensures))
    (third_cut c.args.tree.now.layout.cells c.args.tree.now.top c.expect-parts.result c.piece-whole.result
    c.y0-bottom.ensures.shot none c.requires.0 c.requires.1 c.requires.2 c.requires.3 c.requires.4 c.requires.5 points
    (record { layer = 1; datatype = 0 }) refl)
