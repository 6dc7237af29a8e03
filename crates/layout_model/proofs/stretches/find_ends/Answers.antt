use Rattle.std.proofs.Common.{get_or, drop, pos, subst, sym, ap, ◌∙◌, ◌≡◌, ◌+◌, ◌-◌, ◌∷◌, [], Some, List, length, unwrap_or, slice_get}
use Rattle.std.proofs.lemmas.List.{drop_more}
use Rattle.std.proofs.Math.ListN.{drop_of_length-le}
use Rattle.layout_model.specs.declared.stretches.Stretch.{Stretch}
use Rattle.layout_model.specs.Walks.{walk_from}
use Rattle.layout_model.proofs.WalkLemmas.{walk_list, whole_walk}
use Rattle.layout_model.proofs.EndLemmas.{Ended, ended_turn, ended_on, ended_as, ended_first, ended_last}
use Rattle.half_grid.specs.declared.plane.Point.{Point}
use Rattle.layout_model.proofs.stretches.find_ends.Goals as goal
use Rattle.layout_model.proofs.stretches.find_ends.Goals.{then-turns_at, else-turns_at}

pub loop-point-preserved : goal.loop-point-preserved
loop-point-preserved c =
    let whole : List Stretch = walk_list c.args.brush (walk_from c.args.brush c.args.start) c.args.rest.now in
    let point : Point = get_or c.args.rest.now c.loop-point.point-index (record { x = pos 0; y = pos 0 }) in
    let left = drop (c.loop-point.point-index + 1) c.args.rest.now in
    let here : drop c.loop-point.point-index c.args.rest.now ≡ point ∷ left =
    drop_more c.args.rest.now c.loop-point.point-index
    (record { x = pos 0; y = pos 0 }) c.loop-point-test.true in
    let before = subst (λ rest. Ended c.args.brush whole c.loop-point.walk c.loop-point.first rest) here c.loop-point.invariant in
    elim c.if-turns_at.branch [
      | then-turns_at w ↦
          ended_as c.args.brush whole _ _ _ _ left (w.walk-is ∙ w.round-walk.ensures)
          (w.first-is ∙ ap Some (w.unwrap_or.ensures ∙ ap (unwrap_or c.loop-point.first) w.joint.ensures))
          (ended_turn c.args.brush whole c.loop-point.walk c.loop-point.first point left before (sym c.turns_at.ensures ∙ w.if-turns_at.true))
      | else-turns_at w ↦
          ended_as c.args.brush whole _ _ _ _ left (w.walk-is ∙ w.on-walk.ensures) w.first-is
          (ended_on c.args.brush whole c.loop-point.walk c.loop-point.first point left before (sym c.turns_at.ensures ∙ w.if-turns_at.false))
    ]

pub returns-clause-first : goal.returns-clause-first
returns-clause-first c =
    let whole : List Stretch = walk_list c.args.brush (walk_from c.args.brush c.args.start) c.args.rest.now in
    let none : drop c.loop-point.point-index c.args.rest.now ≡ [] = drop_of_length-le c.args.rest.now c.loop-point-test.false in
    let at_end = subst (λ rest. Ended c.args.brush whole c.loop-point.walk c.loop-point.first rest) none c.loop-point.invariant in
    ap (λ (s : List Stretch). slice_get s 0) (sym (whole_walk c.args.brush c.args.rest.now c.args.start c.requires))
    ∙ ended_first c.args.brush whole c.loop-point.walk c.loop-point.first at_end
    ∙ ap Some (sym (c.unwrap_or-2.ensures ∙ ap (unwrap_or c.loop-point.first) c.finish-last.ensures))

pub returns-clause-last : goal.returns-clause-last
returns-clause-last c =
    let whole : List Stretch = walk_list c.args.brush (walk_from c.args.brush c.args.start) c.args.rest.now in
    let none : drop c.loop-point.point-index c.args.rest.now ≡ [] = drop_of_length-le c.args.rest.now c.loop-point-test.false in
    let at_end = subst (λ rest. Ended c.args.brush whole c.loop-point.walk c.loop-point.first rest) none c.loop-point.invariant in
    ap (λ (s : List Stretch). slice_get s (length s - 1)) (sym (whole_walk c.args.brush c.args.rest.now c.args.start c.requires))
    ∙ ended_last c.args.brush whole c.loop-point.walk c.loop-point.first at_end
    ∙ ap Some (sym c.finish-last.ensures)
