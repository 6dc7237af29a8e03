use Rattle.gds_reader.specs.Meaning.{origin}
use Rattle.gds_reader.proofs.drawing.is_closed.Goals as goal
use Rattle.gds_reader.proofs.GridLemmas.{closed_by_ends}

pub returns : goal.returns
returns c =
    let ends = closed_by_ends c.args.points.now origin c.requires in
    (λ yes. ends.0 (c.are_same.ensures.0 yes), λ closed. c.are_same.ensures.1 (ends.1 closed))
