use Rattle.gds_reader.proofs.placing.put.Goals as goal
use Rattle.layout_model.specs.Layouts.{IsPlacementOnGrid}
use Rattle.gds_reader.proofs.GridLemmas.{all_more, file_move}

pub returns-in_ok-push-in-Ok-clause-grid : goal.returns-in_ok-push-in-Ok-clause-grid
returns-in_ok-push-in-Ok-clause-grid c = λ all.
    all_more IsPlacementOnGrid c.args.placements.now c.push.new.self _ all
    (record { orient = c.requires.orient; at = file_move c.args.at c.requires.at; offsets = c.requires.offsets })
    c.in_ok-push-in-Ok.ensures.ok
