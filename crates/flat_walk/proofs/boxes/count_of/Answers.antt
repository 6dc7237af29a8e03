use Rattle.std.proofs.Common.{◌∙◌, ap, length}
use Rattle.flat_walk.proofs.ReadLemmas.{placements_read}
use Rattle.flat_walk.proofs.boxes.count_of.Goals as goal

pub returns : goal.returns
returns c = ap length (c.as_slice.ensures ∙ placements_read c.args.cells.now c.args.cell c.index-cells-cell.result c.requires)
