use Rattle.flat_walk.proofs.ReadLemmas.{shapes_read}
use Rattle.flat_walk.proofs.tables.shapes_of.Goals as goal

pub returns : goal.returns
returns c = shapes_read c.args.cells.now c.args.cell c.index-cells-cell.result c.requires
