use Rattle.std.proofs.Common.{◌≡◌, ◌∙◌, ap, ◌+◌, ◌∷◌, [], ◌++◌, ◌^◌, All, take, sym, subst, refl, arith}
use Rattle.std.proofs.lemmas.List.{take_more, take_all}
use Rattle.std.proofs.lemmas.List.Elements.{All-push, All-weaker, All-same}
use Rattle.deck_plan.specs.Bounds.{IsAround, HasCornersUpTo}
use Rattle.deck_plan.proofs.Boxes.{box_around, box_full, with_around, still_around, with_full, only_one, IsBoxOf, IsBoxWith}
use Rattle.deck_plan.proofs.sizing.hull_from.Goals as goal

pub loop-trap-init : goal.loop-trap-init
loop-trap-init c =
    let own : IsBoxOf c.args.first.now c.box_of-hull.result =
    record {
      left = c.box_of-hull.ensures.left;
      bottom = c.box_of-hull.ensures.bottom;
      right =
          c.box_of-hull.ensures.right;
      top = c.box_of-hull.ensures.top;
    } in
    record {
      around = only_one (IsAround c.box_of-hull.result) c.args.first.now (box_around c.args.first.now c.box_of-hull.result own);
      full = box_full c.args.first.now c.box_of-hull.result c.box_of-hull.ensures.shot.legal c.requires.first own;
    }

pub loop-trap-preserved : goal.loop-trap-preserved
loop-trap-preserved c =
    let item = c.trap-item.result in
    let hull = c.box_with-hull.result in
    let before = take c.loop-trap.trap-index c.args.rest.now in
    let with : IsBoxWith c.loop-trap.hull item hull =
    record {
      left = c.box_with-hull.ensures.left;
      bottom = c.box_with-hull.ensures.bottom;
      right =
          c.box_with-hull.ensures.right;
      top = c.box_with-hull.ensures.top;
    } in
    let near = subst (HasCornersUpTo (2 ^ 42)) (sym c.trap-item.is) (c.requires.rest c.loop-trap.trap-index item c.loop-trap-test.true) in
    let more : take (c.loop-trap.trap-index + 1) c.args.rest.now ≡ before ++ item ∷ [] =
    take_more c.args.rest.now c.loop-trap.trap-index item (omega arith) ∙ ap (λ x. before ++ x ∷ [])
    (sym c.trap-item.is) in
    record {
      around = subst (λ xs. All (IsAround hull) (c.args.first.now ∷ xs)) (sym more)
          (All-push (IsAround hull) (c.args.first.now ∷ before) item
          (All-weaker (IsAround c.loop-trap.hull) (IsAround hull)
          (λ y h. still_around c.loop-trap.hull y item hull with h)
          (c.args.first.now ∷ before) c.loop-trap.invariant.around) (with_around c.loop-trap.hull item hull with));
      full = with_full c.loop-trap.hull item hull near with c.loop-trap.invariant.full;
    }

pub returns-clause-around : goal.returns-clause-around
returns-clause-around c =
    All-same (IsAround c.loop-trap.hull) (c.args.first.now ∷ c.args.rest.now) (c.args.first.now ∷ take c.loop-trap.trap-index c.args.rest.now)
    (rw (take_all c.loop-trap.trap-index c.args.rest.now c.loop-trap-test.false) refl) c.loop-trap.invariant.around
