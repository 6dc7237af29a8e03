use Rattle.std.proofs.Common.{◌∙◌, sym, subst}
use Rattle.std.proofs.lemmas.Result.{on_ok_weaker}
use Rattle.oas_shapes.specs.Short.{IsShortIn}
use Rattle.oas_reader.proofs.FigureLemmas.{figure_added, figure_keeps_by, figure_lowest_by, polygon_few}
use Rattle.oas_reader.proofs.FigureLemmas.{polygon_keeps_by, polygon_lowest, path_few, path_keeps_by, path_lowest}
use Rattle.oas_reader.proofs.drawing.draw_body.Goals as goal

pub returns-in-Some-clause-shapes : goal.returns-in-Some-clause-shapes
returns-in-Some-clause-shapes c =
    on_ok_weaker c.draw_figure.result
    (λ e. e ∙ figure_added c.args.outline.body c.args.fields.now _ _ c.in-Some.figure _ _ c.args.shapes.now
    (sym c.figure_of.ensures ∙ c.in-Some.is) c.pair_of-pair.ensures c.point_of-at.ensures.value c.repetition_in-repetition.ensures)
    c.draw_figure.ensures.shapes

pub returns-in-Some-clause-kept : goal.returns-in-Some-clause-kept
returns-in-Some-clause-kept c =
    on_ok_weaker c.draw_figure.result
    (λ kept rule. figure_keeps_by c.args.outline.body c.args.fields.now _ _ c.in-Some.figure _ rule
    (sym c.figure_of.ensures ∙ c.in-Some.is) c.point_of-at.ensures.value c.repetition_in-repetition.ensures (kept rule))
    c.draw_figure.ensures.kept

pub returns-in-Some-clause-broken : goal.returns-in-Some-clause-broken
returns-in-Some-clause-broken c = λ rule e.
    figure_lowest_by c.args.outline.body c.args.fields.now _ _ c.in-Some.figure _ rule (sym c.figure_of.ensures ∙ c.in-Some.is)
    c.point_of-at.ensures.value c.repetition_in-repetition.ensures (c.draw_figure.ensures.broken rule e)

pub returns-in-Some-polygon_points-clause-broken :
    goal.returns-in-Some-polygon_points-clause-broken
returns-in-Some-polygon_points-clause-broken c = λ rule e.
    polygon_lowest c.args.outline.body c.args.fields.now _ _ c.in-Some-polygon_points.points _ rule c.in-Polygon.is
    c.in-Some-polygon_points.is c.point_of-at.ensures.value c.repetition_in-repetition.ensures (c.draw_polygon.ensures.broken rule e)

pub returns-in-Some-path_points-clause-broken :
    goal.returns-in-Some-path_points-clause-broken
returns-in-Some-path_points-clause-broken c = λ rule e.
    path_lowest c.args.outline.body c.args.fields.now _ _ c.in-Some-path_points.points _ _ rule c.in-Path.is
    c.in-Some-path_points.is c.point_of-at.ensures.value c.brush_of-brush.ensures c.repetition_in-repetition.ensures
    (c.draw_path.ensures.broken rule e)

pub returns-in-Some-clause-memory : goal.returns-in-Some-clause-memory
returns-in-Some-clause-memory c = λ few short e rule.
    figure_keeps_by c.args.outline.body c.args.fields.now _ _ c.in-Some.figure _ rule (sym c.figure_of.ensures ∙ c.in-Some.is)
    c.point_of-at.ensures.value c.repetition_in-repetition.ensures
    (c.draw_figure.ensures.memory (subst IsShortIn (sym c.repetition_in-repetition.ensures) short) e rule)

pub returns-in-Some-polygon_points-clause-memory :
    goal.returns-in-Some-polygon_points-clause-memory
returns-in-Some-polygon_points-clause-memory c = λ few short e rule.
    let points = polygon_few c.args.outline.body c.args.fields.now _ c.in-Polygon.is c.in-Some-polygon_points.is few in
    polygon_keeps_by c.args.outline.body c.args.fields.now _ _ c.in-Some-polygon_points.points _ rule c.in-Polygon.is
    c.in-Some-polygon_points.is c.point_of-at.ensures.value c.repetition_in-repetition.ensures
    (c.draw_polygon.ensures.memory points (subst IsShortIn (sym c.repetition_in-repetition.ensures) short) e rule)

pub returns-in-Some-path_points-clause-memory :
    goal.returns-in-Some-path_points-clause-memory
returns-in-Some-path_points-clause-memory c = λ few short e rule.
    let points = path_few c.args.outline.body c.args.fields.now _ c.in-Path.is c.in-Some-path_points.is few in
    path_keeps_by c.args.outline.body c.args.fields.now _ _ c.in-Some-path_points.points _ _ rule c.in-Path.is
    c.in-Some-path_points.is c.point_of-at.ensures.value c.brush_of-brush.ensures c.repetition_in-repetition.ensures
    (c.draw_path.ensures.memory points (subst IsShortIn (sym c.repetition_in-repetition.ensures) short) e rule)
