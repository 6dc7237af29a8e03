use Rattle.std.proofs.Common.{◌∷◌, ◌∙◌, sym, ap, subst}
use Rattle.layout_model.specs.Images.{moved}
use Rattle.oas_shapes.specs.Plane.{origin, places_along}
use Rattle.oas_shapes.specs.PointLists.{added_up}
use Rattle.oas_shapes.specs.Trails.{IsTrail}
use Rattle.oas_shapes.proofs.TrailLemmas.{changes_on, few_changes, no_refusal}
use Rattle.oas_shapes.proofs.trails.along_changes.Goals as goal

pub loop-change-preserved : goal.loop-change-preserved
loop-change-preserved c =
    let whole = places_along c.args.start (added_up origin c.args.changes.now) in
    let rest = c.next.new.self in
    let trail = c.loop-change.trail in
    let way = moved c.loop-change.way c.in-Some.change in
    let t = subst (λ xs. IsTrail whole trail (added_up c.loop-change.way xs)) c.in-Some.ensures c.loop-change.invariant in
    let same = c.joined.ensures in
    let on = c.in-Ok.ensures.on whole (added_up way rest) (subst (λ w. IsTrail whole trail (w ∷ added_up way rest)) (sym same) t) in
    changes_on whole trail _ c.way_between-way.result way rest c.way_between-way.ensures.x c.way_between-way.ensures.y
    (c.in-Ok.ensures.at ∙ ap (λ w. moved trail.at w) same) on

pub way_between-way-requires-clause-to : goal.way_between-way-requires-clause-to
way_between-way-requires-clause-to c =
    let whole = places_along c.args.start (added_up origin c.args.changes.now) in
    let rest = c.next.new.self in
    let trail = c.loop-change.trail in
    let way = moved c.loop-change.way c.in-Some.change in
    let t = subst (λ xs. IsTrail whole trail (added_up c.loop-change.way xs)) c.in-Some.ensures c.loop-change.invariant in
    (c.in-Ok.ensures.on whole (added_up way rest) (subst (λ w. IsTrail whole trail (w ∷ added_up way rest)) (sym c.joined.ensures) t)).here

pub returns-in-Err-clause-few : goal.returns-in-Err-clause-few
returns-in-Err-clause-few c = λ few.
    let whole = places_along c.args.start (added_up origin c.args.changes.now) in
    let rest = c.next.new.self in
    let trail = c.loop-change.trail in
    let way = moved c.loop-change.way c.in-Some.change in
    let t = subst (λ xs. IsTrail whole trail (added_up c.loop-change.way xs)) c.in-Some.ensures c.loop-change.invariant in
    c.in-Err.ensures.few whole (added_up way rest) (subst (λ w. IsTrail whole trail (w ∷ added_up way rest)) (sym c.joined.ensures) t)
    (few_changes c.args.start origin c.args.changes.now few)

pub returns-clause-few : goal.returns-clause-few
returns-clause-few c = λ few.
    let whole = places_along c.args.start (added_up origin c.args.changes.now) in
    let t = subst (λ xs. IsTrail whole c.loop-change.trail (added_up c.loop-change.way xs)) c.in_default.ensures c.loop-change.invariant in
    no_refusal _ c.finish.result (c.finish.ensures.few whole t (few_changes c.args.start origin c.args.changes.now few))
