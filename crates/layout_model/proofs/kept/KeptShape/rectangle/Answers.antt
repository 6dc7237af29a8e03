use Rattle.std.specs.Prelude.{true}
use Rattle.half_grid.specs.Outlines.{HasGridEdges}
use Rattle.half_grid.specs.declared.plane.Point.{Point}
use Rattle.layout_model.proofs.RectangleLemmas.{ring_on_grid}
use Rattle.layout_model.specs.Kept.{ring_between}
use Rattle.layout_model.proofs.kept.KeptShape.rectangle.Goals as goal

edges : (first opposite : Point) → HasGridEdges (ring_between first opposite true)
edges first opposite =
    ring_on_grid (record {
      x0 = first.x;
      y0 = first.y;
      x1 = opposite.x;
      y1 = opposite.y;
    })

pub returns-in-Some-clause-edges : goal.returns-in-Some-clause-edges
returns-in-Some-clause-edges c = edges c.args.first c.args.opposite

pub returns-clause-edges : goal.returns-clause-edges
returns-clause-edges c = edges c.args.first c.args.opposite
