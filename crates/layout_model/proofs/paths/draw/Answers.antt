use Rattle.std.proofs.Common.{get_or, drop, pos, subst, sym, ap, ◌∙◌, ◌≡◌, ◌+◌, ◌∷◌, ◌++◌, [], List, Vec, Global}
use Rattle.std.proofs.lemmas.List.{drop_more}
use Rattle.std.proofs.Math.ListN.{drop_of_length-le}
use Rattle.layout_model.specs.declared.shapes.Shape.{Shape}
use Rattle.layout_model.specs.declared.stretches.Stretch.{Stretch}
use Rattle.layout_model.specs.Walks.{stretch_of}
use Rattle.layout_model.proofs.WalkLemmas.{walk_list}
use Rattle.layout_model.proofs.DrawLemmas.{Drawn, drawn, drawn_begin, drawn_turn, drawn_on, drawn_as, drawn_end}
use Rattle.half_grid.specs.declared.plane.Point.{Point}
use Rattle.layout_model.proofs.paths.draw.Goals as goal
use Rattle.layout_model.proofs.paths.draw.Goals.{then-turns_at+in_ok-shape+in_ok-push, else-turns_at}

pub loop-point-init : goal.loop-point-init
loop-point-init c =
    drawn_begin c.args.pair c.args.offsets.now c.args.fixed c.args.brush c.args.points.now c.in-Some.start.now
    c.in-Some.rest.now c.new-shapes.result.items c.new-walk.result
    c.in-Some.ensures.cases.0 c.new-shapes.ensures.items c.new-walk.ensures c.requires.brush c.requires.points

pub loop-point-preserved : goal.loop-point-preserved
loop-point-preserved c =
    let whole : List Stretch = walk_list c.args.brush c.new-walk.result c.in-Some.rest.now in
    let point : Point = get_or c.in-Some.rest.now c.loop-point.point-index (record { x = pos 0; y = pos 0 }) in
    let left = drop (c.loop-point.point-index + 1) c.in-Some.rest.now in
    let here : drop c.loop-point.point-index c.in-Some.rest.now ≡ point ∷ left =
    drop_more c.in-Some.rest.now c.loop-point.point-index
    (record { x = pos 0; y = pos 0 }) c.loop-point-test.true in
    let draws : Stretch → Shape = drawn c.args.pair c.args.offsets.now c.args.fixed in
    let before = subst (λ rest.
    Drawn c.args.pair c.args.offsets.now c.args.fixed c.args.brush whole c.loop-point.shapes.items
    c.loop-point.walk rest) here c.loop-point.invariant in
    elim c.if-turns_at.branch [
      | then-turns_at+in_ok-shape+in_ok-push w ↦
          (let made : w.in_ok-shape.shape ≡ draws (stretch_of c.args.brush c.args.brush.half c.loop-point.walk) =
          w.in_ok-shape.ensures ∙ ap draws w.joint.ensures in
          drawn_as c.args.pair c.args.offsets.now c.args.fixed c.args.brush whole _ _ _ _ left (w.walk-is ∙ w.round-walk.ensures)
          (ap (λ (v : Vec Shape Global). v.items) w.shapes-is ∙ w.in_ok-push.ensures.items ∙ ap (λ shape. c.loop-point.shapes.items ++ shape ∷ []) made)
          (drawn_turn c.args.pair c.args.offsets.now c.args.fixed c.args.brush whole c.loop-point.shapes.items
          c.loop-point.walk point left c.requires.brush before (sym c.turns_at.ensures ∙ w.if-turns_at.true)))
      | else-turns_at w ↦
          drawn_as c.args.pair c.args.offsets.now c.args.fixed c.args.brush whole _ _ _ _ left
          (w.walk-is ∙ w.on-walk.ensures) (ap (λ (v : Vec Shape Global). v.items) w.shapes-is)
          (drawn_on c.args.pair c.args.offsets.now c.args.fixed c.args.brush whole c.loop-point.shapes.items
          c.loop-point.walk point left before (sym c.turns_at.ensures ∙ w.if-turns_at.false))
    ]

pub returns : goal.returns
returns c =
    let draws : Stretch → Shape = drawn c.args.pair c.args.offsets.now c.args.fixed in
    let none : drop c.loop-point.point-index c.in-Some.rest.now ≡ [] = drop_of_length-le c.in-Some.rest.now c.loop-point-test.false in
    let at_end = subst (λ rest. Drawn c.args.pair c.args.offsets.now c.args.fixed c.args.brush
    (walk_list c.args.brush c.new-walk.result c.in-Some.rest.now) c.loop-point.shapes.items c.loop-point.walk
    rest) none c.loop-point.invariant in
    let whole = subst (λ walk. Drawn c.args.pair c.args.offsets.now c.args.fixed c.args.brush
    (walk_list c.args.brush walk c.in-Some.rest.now) c.loop-point.shapes.items c.loop-point.walk [])
    c.new-walk.ensures at_end in
    let made : c.in_ok-shape-2.shape ≡ draws (stretch_of c.args.brush c.args.brush.end c.loop-point.walk) =
    c.in_ok-shape-2.ensures ∙ ap draws c.finish.ensures in
    c.in_ok-push-2.ensures.items
    ∙ ap (λ shape. c.loop-point.shapes.items ++ shape ∷ []) made
    ∙ drawn_end c.args.pair c.args.offsets.now c.args.fixed c.args.brush c.args.points.now c.in-Some.start.now
    c.in-Some.rest.now c.loop-point.shapes.items c.loop-point.walk c.in-Some.ensures.cases.0 c.requires.long whole
