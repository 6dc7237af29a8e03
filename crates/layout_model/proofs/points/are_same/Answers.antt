use Rattle.std.proofs.lemmas.Slice.Eq.{slice_eq-Decides}
use Rattle.layout_model.proofs.PointLemmas.{points_decide}
use Rattle.layout_model.proofs.points.are_same.Goals as goal

pub returns : goal.returns
returns c = (slice_eq-Decides points_decide c.args.points.now c.args.others.now c.eq.result c.eq.ensures).0
