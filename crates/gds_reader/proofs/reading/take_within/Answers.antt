use Rattle.gds_reader.proofs.reading.take_within.Goals as goal
use Rattle.gds_reader.proofs.TakeLemmas.{taken_structure, taken_keeps, taken_refused}

pub returns-in-Xy-clause-structure : goal.returns-in-Xy-clause-structure
returns-in-Xy-clause-structure c = λ past wanted f d s.
    taken_structure c.args.bytes.now wanted past c.args.current c.args.element.now c.args.drawn c.take_points.result c.args.structure.now
    c.take_points.new.structure c.in-Xy.is f d s c.take_points.ensures.named c.take_points.ensures.shapes c.take_points.ensures.placements
    c.take_points.ensures.shapes_grid c.take_points.ensures.placements_grid

pub returns-in-Xy-clause-kept : goal.returns-in-Xy-clause-kept
returns-in-Xy-clause-kept c = λ past wanted f d.
    taken_keeps c.args.bytes.now wanted past c.args.current c.args.element.now c.args.drawn c.take_points.result c.in-Xy.is f d c.take_points.ensures.kept

pub returns-in-Xy-clause-broken : goal.returns-in-Xy-clause-broken
returns-in-Xy-clause-broken c = λ past wanted f d.
    taken_refused c.args.bytes.now wanted past c.args.current c.args.element.now c.args.drawn c.take_points.result c.args.at c.in-Xy.is f d
    c.take_points.ensures.broken
