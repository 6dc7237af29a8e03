use Rattle.layout_model.specs.Layouts.{IsShapeOnGrid}
use Rattle.gds_reader.proofs.drawing.draw_boundary.Goals as goal
use Rattle.gds_reader.proofs.GridLemmas.{all_more}

pub returns-clause-grid : goal.returns-clause-grid
returns-clause-grid c = λ all.
    all_more IsShapeOnGrid c.args.shapes.now c.push.new.self c.in_ok-shape.shape all c.in_ok-shape.ensures.grid c.in_ok-push.ensures
