use Rattle.layout_model.proofs.SegmentListLemmas.{many_extended}
use Rattle.layout_model.proofs.shared_paths.ends_at.Goals as goal

pub returns-clause-last : goal.returns-clause-last
returns-clause-last c =
    rw (many_extended c.args.brush.half c.args.brush.begin c.args.brush.end c.args.segments.now) c.stretch_at-2.ensures
