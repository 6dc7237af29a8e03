use Rattle.std.proofs.Common.{[], ◌∷◌, sym, ap, subst, ◌∙◌}
use Rattle.half_grid.specs.Quads.{ring_of, corners_of}
use Rattle.flat_walk.specs.Tables.{AreCut}
use Rattle.flat_walk.proofs.TestLemmas.{all_cut, has_cell}
use Rattle.flat_walk.proofs.tests.cut.Goals as goal

pub push-requires : goal.push-requires
push-requires g c =
    let none = rw c.expect-parts.ensures at c.new.ensures in
    has_cell c.args.tree.now.layout.cells c.expect-parts.result (c.requires.0 ∷ []) none c.requires.1

pub returns : goal.returns
returns g c = λ pair.
    let none = rw c.expect-parts.ensures at c.new.ensures in
    let points = c.requires.2 ∙ ap (λ z. ring_of (corners_of z)) (sym c.piece-whole.ensures) in
    subst (λ t. AreCut c.args.tree.now.layout.cells c.args.tree.now.top t pair) (sym c.push.ensures)
    (all_cut c.args.tree.now.layout.cells c.args.tree.now.top c.expect-parts.result c.piece-whole.result
    c.y0-bottom.ensures.shot none c.requires.0 c.requires.1 points pair)
