use Rattle.std.proofs.Common.{subst, sym}
use Rattle.std.specs.Prelude.{All}
use Rattle.gds_reader.proofs.reading.close.Goals as goal
use Rattle.layout_model.specs.Layouts.{IsCellOnGrid, IsShapeOnGrid, IsPlacementOnGrid}
use Rattle.gds_reader.proofs.GridLemmas.{all_more}

pub returns-in_ok-push-in-Ok-clause-grid : goal.returns-in_ok-push-in-Ok-clause-grid
returns-in_ok-push-in-Ok-clause-grid c = λ cells shapes placements.
    all_more IsCellOnGrid c.args.cells.now c.push.new.self _ cells
    (record {
      shapes = subst (All IsShapeOnGrid) (sym c.replace-shapes.ensures.value) shapes;
      placements = subst (All IsPlacementOnGrid) (sym c.replace-placements.ensures.value) placements;
    })
    c.in_ok-push-in-Ok.ensures.ok
