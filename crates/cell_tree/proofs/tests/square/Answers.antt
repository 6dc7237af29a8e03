use Rattle.std.proofs.Common.{subst, sym}
use Rattle.layout_model.specs.Layouts.{IsShapeOnGrid}
use Rattle.cell_tree.proofs.tests.square.Goals as goal

pub returns : goal.returns
returns g c = subst IsShapeOnGrid (sym c.kept.ensures) c.drawn-shape.ensures
