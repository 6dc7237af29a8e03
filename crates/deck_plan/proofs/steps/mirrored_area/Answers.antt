use Rattle.std.proofs.Common.{◌≡◌, ◌∙◌, w64, FitsSigned, map}
use Rattle.std.proofs.lemmas.Int.{to_z-of_z}
use Rattle.std.proofs.lemmas.Result.{IfOk-weaker}
use Rattle.square_size.specs.EdgeLaws.{IsInSome}
use Rattle.tone_mirror.specs.Mirrors.{mirrored_tile, mirrored_trapezoid}
use Rattle.deck_plan.specs.Lists.{HasArea}
use Rattle.deck_plan.proofs.ImageLemmas.{images_have}
use Rattle.deck_plan.proofs.Singles.{mirrored_has, images_within}
use Rattle.deck_plan.proofs.steps.mirrored_area.Goals as goal

pub new-requires-2 : goal.new-requires-2
new-requires-2 c =
    let m : FitsSigned w64 c.args.m = c.ranges.m in
    (c.args.traps.now, c.new.ensures.list, simp to_z-of_z (images_within c.args.m c.args.traps.now c.requires.at c.requires.near))

pub images_in_order-requires-clause-within : goal.images_in_order-requires-clause-within
images_in_order-requires-clause-within c =
    let m : FitsSigned w64 c.args.m = c.ranges.m in
    simp to_z-of_z (images_within c.args.m c.args.traps.now c.requires.at c.requires.near)

pub returns-then-lie_in : goal.returns-then-lie_in
returns-then-lie_in c =
    let m : FitsSigned w64 c.args.m = c.ranges.m in
    let images = simp to_z-of_z at c.images_in_order.ensures in
    IfOk-weaker c.images_in_order.result _ (λ mirrored. HasArea c.args.window (λ t. IsInSome c.args.traps.now (mirrored_tile c.args.m t)) mirrored.items)
    (λ mirrored are. images_have c.args.m c.requires.joined.0 c.args.window c.args.traps.now mirrored.items
    c.requires.joined.1 (c.lie_in.ensures c.if-lie_in.true) are)
    images

pub returns : goal.returns
returns c =
    let m : FitsSigned w64 c.args.m = c.ranges.m in
    let images : c.in_ok-images.images.items ≡ map (mirrored_trapezoid c.args.m) c.args.traps.now =
    simp to_z-of_z at (c.in_ok-images.ensures _ (c.new-2.ensures.list c.args.traps.now c.new.ensures.list)) in
    IfOk-weaker c.combine.result _ (λ traps. HasArea c.args.window (λ t. IsInSome c.args.traps.now (mirrored_tile c.args.m t)) traps.items)
    (λ traps joined. mirrored_has c.args.m c.args.traps.now c.as_slice.result.now (c.as_slice.ensures.value ∙ images) c.args.window traps.items joined)
    c.combine.ensures
