use Rattle.std.proofs.Common.{◌∙◌, sym, ap, subst, ◌<◌, length}
use Rattle.cell_tree.specs.Cells.{shapes_at}
use Rattle.flat_walk.proofs.ReadLemmas.{shapes_read}
use Rattle.flat_walk.proofs.walks.shapes_of.Goals as goal

pub returns : goal.returns
returns c =
    (shapes_read c.cells-cells.result.now c.args.cell c.index-cells-cell.result
    (subst (λ l. c.args.cell < length l) (sym c.cells-cells.ensures.value) c.requires)
    ∙ ap (λ cells. shapes_at cells c.args.cell) c.cells-cells.ensures.value)
