use Rattle.std.proofs.Common.{◌≡◌, ◌∙◌, ◌++◌, ◌∷◌, [], Err, ap, sym, subst}
use Rattle.std.specs.Prelude.{OnOk, option_copied}
use Rattle.std.proofs.lemmas.Result.{on_ok_weaker}
use Rattle.half_grid.specs.Outlines.{IsClosed, HasGridEdges}
use Rattle.oas_shapes.specs.Outlines.{outline_shape}
use Rattle.oas_shapes.specs.Repetitions.{offsets_in}
use Rattle.oas_shapes.specs.Rules.{AreNear, KeepsShape, KeepsPolygon, IsLowest}
use Rattle.oas_shapes.proofs.MoveLemmas.{outline_there, edges_there}
use Rattle.oas_shapes.proofs.RuleLemmas.{polygon_keeps, polygon_lowest, polygon_far}
use Rattle.oas_shapes.proofs.VertexLemmas.{polygon_closed}
use Rattle.oas_shapes.proofs.drawing.draw_polygon.Goals as goal

pub returns-in_default-clause-broken : goal.returns-in_default-clause-broken
returns-in_default-clause-broken c = λ rule e.
    subst (λ d. IsLowest (KeepsPolygon c.args.at d (option_copied c.args.repetition)) rule) c.written.ensures (c.draw_written.ensures.broken rule e)

pub add_made-requires-clause-closed : goal.add_made-requires-clause-closed
add_made-requires-clause-closed c =
    let there = outline_there c.args.points.now c.in-Some.made.now c.args.at c.in-Some.ensures in
    subst IsClosed (sym (c.in-Ok.ensures.outline ∙ there)) (polygon_closed c.args.at c.args.points.now)

pub add_made-requires-clause-edges : goal.add_made-requires-clause-edges
add_made-requires-clause-edges c =
    let there = outline_there c.args.points.now c.in-Some.made.now c.args.at c.in-Some.ensures in
    subst HasGridEdges (sym (c.in-Ok.ensures.outline ∙ there)) (edges_there c.args.points.now c.in-Some.made.now c.args.at c.in-Some.ensures)

pub returns-in-Ok-clause-shapes : goal.returns-in-Ok-clause-shapes
returns-in-Ok-clause-shapes c =
    let there = outline_there c.args.points.now c.in-Some.made.now c.args.at c.in-Some.ensures in
    subst
    (λ o. OnOk c.add_made.result
    (c.add_made.new.shapes ≡ c.args.shapes.now ++ outline_shape c.args.pair o (offsets_in (option_copied c.args.repetition)) ∷ []))
    (c.in-Ok.ensures.outline ∙ there) c.add_made.ensures.shapes

pub returns-in-Ok-clause-kept : goal.returns-in-Ok-clause-kept
returns-in-Ok-clause-kept c =
    let e = c.in-Ok.ensures.outline ∙ outline_there c.args.points.now c.in-Some.made.now c.args.at c.in-Some.ensures in
    let rep = option_copied c.args.repetition in
    on_ok_weaker c.add_made.result
    (λ kept rule.
    polygon_keeps c.args.at c.args.points.now rep (subst AreNear e c.in-Ok.ensures.near) rule (subst (λ o. KeepsShape o rep rule) e (kept rule)))
    c.add_made.ensures.kept

pub returns-in-Ok-clause-broken : goal.returns-in-Ok-clause-broken
returns-in-Ok-clause-broken c = λ rule bad.
    let e = c.in-Ok.ensures.outline ∙ outline_there c.args.points.now c.in-Some.made.now c.args.at c.in-Some.ensures in
    let rep = option_copied c.args.repetition in
    polygon_lowest c.args.at c.args.points.now rep (subst AreNear e c.in-Ok.ensures.near) rule
    (subst (λ o. IsLowest (KeepsShape o rep) rule) e (c.add_made.ensures.broken rule bad))

pub returns-in-Err-Far-clause-broken : goal.returns-in-Err-Far-clause-broken
returns-in-Err-Far-clause-broken c = λ rule e.
    let rep = option_copied c.args.repetition in
    let there = outline_there c.args.points.now c.in-Some.made.now c.args.at c.in-Some.ensures in
    let far = c.in-Err-Far.ensures.far (ap Err c.in-Err-Far.field-0-is) in
    let one : 1 ≡ rule = cc in
    subst (IsLowest (KeepsPolygon c.args.at c.args.points.now rep)) one
    (polygon_far c.args.at c.args.points.now rep (λ near. far (subst AreNear (sym there) near)))
