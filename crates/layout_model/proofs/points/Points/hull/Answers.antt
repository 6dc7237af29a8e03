use Rattle.std.proofs.Common.{sym, ap, subst, ◌≡◌, ◌∙◌}
use Rattle.layout_model.specs.Hulls.{IsLeastBoxOf}
use Rattle.layout_model.specs.Points.{points_of, AreSound}
use Rattle.layout_model.specs.declared.points.Held.TheVariants.{Shared}
use Rattle.layout_model.proofs.PointLemmas.{box_moved, left_reaches, bottom_reaches, right_reaches, top_reaches}
use Rattle.layout_model.proofs.points.Points.hull.Goals as goal

pub hull_moved-requires-clause-x0 : goal.hull_moved-requires-clause-x0
hull_moved-requires-clause-x0 c =
    let sound : AreSound (Shared c.in-Shared.many c.in-Shared.by) = subst AreSound c.in-Shared.is c.self.invariant in
    rw c.deref.ensures (left_reaches c.in-Shared.many.value.points.items c.in-Shared.by c.in-Shared.many.value.hull sound.0.hull sound.1)

pub hull_moved-requires-clause-y0 : goal.hull_moved-requires-clause-y0
hull_moved-requires-clause-y0 c =
    let sound : AreSound (Shared c.in-Shared.many c.in-Shared.by) = subst AreSound c.in-Shared.is c.self.invariant in
    rw c.deref.ensures (bottom_reaches c.in-Shared.many.value.points.items c.in-Shared.by c.in-Shared.many.value.hull sound.0.hull sound.1)

pub hull_moved-requires-clause-x1 : goal.hull_moved-requires-clause-x1
hull_moved-requires-clause-x1 c =
    let sound : AreSound (Shared c.in-Shared.many c.in-Shared.by) = subst AreSound c.in-Shared.is c.self.invariant in
    rw c.deref.ensures (right_reaches c.in-Shared.many.value.points.items c.in-Shared.by c.in-Shared.many.value.hull sound.0.hull sound.1)

pub hull_moved-requires-clause-y1 : goal.hull_moved-requires-clause-y1
hull_moved-requires-clause-y1 c =
    let sound : AreSound (Shared c.in-Shared.many c.in-Shared.by) = subst AreSound c.in-Shared.is c.self.invariant in
    rw c.deref.ensures (top_reaches c.in-Shared.many.value.points.items c.in-Shared.by c.in-Shared.many.value.hull sound.0.hull sound.1)

pub returns-in-Shared : goal.returns-in-Shared
returns-in-Shared c =
    let sound : AreSound (Shared c.in-Shared.many c.in-Shared.by) = subst AreSound c.in-Shared.is c.self.invariant in
    let list : points_of (Shared c.in-Shared.many c.in-Shared.by) ≡ c.args.self.now = ap points_of (sym c.in-Shared.is) ∙ c.self.view_is in
    let items = c.in-Shared.many.value.points.items in
    let box = c.deref.result.now.hull in
    let least : IsLeastBoxOf items box = rw c.deref.ensures sound.0.hull in
    subst (λ points. IsLeastBoxOf points c.hull_moved.result) list
    (box_moved items c.in-Shared.by box c.hull_moved.result least
    c.hull_moved.ensures.x0 c.hull_moved.ensures.y0 c.hull_moved.ensures.x1 c.hull_moved.ensures.y1)
