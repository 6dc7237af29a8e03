use Rattle.std.proofs.Common.{◌≡◌, ap}
use Rattle.std.specs.Bool.{Decides}
use Rattle.std.specs.Prelude.{◌&&◌}
use Rattle.std.specs.Ordering.{int_eq}
use Rattle.std.proofs.lemmas.Bool.Decides.{Decides-and}
use Rattle.std.proofs.lemmas.Slice.Eq.{slice_eq-Decides}
use Rattle.layout_model.specs.declared.stretches.Segment.{Segment}
use Rattle.layout_model.proofs.PointLemmas.{points_decide}
use Rattle.layout_model.proofs.shape_lists.are_same.Goals as goal

-- `==` of segments decides whether they are the same
decides : (s t : Segment) → Decides ((int_eq s.from.x t.from.x && int_eq s.from.y t.from.y) && (int_eq s.to.x t.to.x && int_eq s.to.y t.to.y)) (s ≡ t)
decides s t =
    let both = Decides-and (int_eq s.from.x t.from.x && int_eq s.from.y t.from.y) (int_eq s.to.x t.to.x && int_eq s.to.y t.to.y)
    (points_decide s.from t.from) (points_decide s.to t.to) in
    (λ e. (let h = both.0 e in λ i. record { from = h.0 i; to = h.1 i }), λ e. both.1 (ap (λ r. r.from) e, ap (λ r. r.to) e))

pub returns : goal.returns
returns c = (slice_eq-Decides decides c.args.segments.now c.args.others.now c.eq.result c.eq.ensures).0
