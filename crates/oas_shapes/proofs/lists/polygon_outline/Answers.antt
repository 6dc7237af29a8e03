use Rattle.std.proofs.Common.{◌∙◌, sym, ap, subst}
use Rattle.oas_shapes.specs.Rules.{AreNear}
use Rattle.oas_shapes.specs.Vertices.{ring_by}
use Rattle.oas_shapes.proofs.VertexLemmas.{some_points, few_vertices, polygon_is, polygon_near, near_polygon}
use Rattle.oas_shapes.proofs.lists.polygon_outline.Goals as goal

pub closed-requires : goal.closed-requires
closed-requires c = λ none. some_points c.args.at c.args.points.now (sym c.in-Ok.ensures.places ∙ none)

pub returns-in-Ok-closed-clause-outline : goal.returns-in-Ok-closed-clause-outline
returns-in-Ok-closed-clause-outline c =
    c.in-Ok-closed.ensures.ok ∙ ap (ring_by c.args.points.now.kind) c.in-Ok.ensures.places ∙ polygon_is c.args.at c.args.points.now

pub returns-in-Ok-closed-clause-near : goal.returns-in-Ok-closed-clause-near
returns-in-Ok-closed-clause-near c =
    subst AreNear
    (sym (c.in-Ok-closed.ensures.ok ∙ ap (ring_by c.args.points.now.kind) c.in-Ok.ensures.places ∙ polygon_is c.args.at c.args.points.now))
    (polygon_near c.args.at c.args.points.now (subst AreNear c.in-Ok.ensures.places c.in-Ok.ensures.near))

pub returns-in-Err-clause-far : goal.returns-in-Err-clause-far
returns-in-Err-clause-far c = λ e near. c.in-Err.ensures.far e (near_polygon c.args.at c.args.points.now near)

pub returns-in-Err-closed-clause-few : goal.returns-in-Err-closed-clause-few
returns-in-Err-closed-clause-few c = λ few.
    let taken =
    c.in-Err-closed.ensures.few
    (few_vertices c.args.at c.args.points.now c.in-Ok.vertices.items c.in-Ok.ensures.places few) c.in-Ok.ensures.room in
    absurd (let no : ⊥ = cc in no)
