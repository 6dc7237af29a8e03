use Rattle.std.proofs.Common.{None, Err, ap, refl, ◌∙◌}
use Rattle.oas_shapes.specs.declared.figures.Figure.TheVariants as figures
use Rattle.oas_reader.specs.declared.bodies.Body.TheVariants as bodies
use Rattle.oas_reader.proofs.FigureLemmas.{figure_added, figure_keeps_by, figure_lowest_by}
use Rattle.oas_reader.proofs.PlainLemmas.{plain_figure}
use Rattle.oas_reader.proofs.WantedLemmas.{refused_by}
use Rattle.oas_reader.proofs.plain.draw_plain.Goals as goal

pub returns-in-Ok-clause-shapes : goal.returns-in-Ok-clause-shapes
returns-in-Ok-clause-shapes c =
    let fields = c.args.fields.now in
    let figure = plain_figure fields c.or_none-width.result c.or_none-height.result c.or_none-width.ensures c.or_none-height.ensures in
    c.in-Ok.ensures.shapes
    ∙ figure_added bodies.Rectangle fields None None (figures.Rectangle c.or_none-width.result c.or_none-height.result) c.pair_of-pair.result
    c.point_of-place.result c.args.shapes.now figure c.pair_of-pair.ensures c.point_of-place.ensures.value refl

pub returns-in-Ok-clause-kept : goal.returns-in-Ok-clause-kept
returns-in-Ok-clause-kept c = λ rule.
    let fields = c.args.fields.now in
    let figure = plain_figure fields c.or_none-width.result c.or_none-height.result c.or_none-width.ensures c.or_none-height.ensures in
    figure_keeps_by bodies.Rectangle fields None None (figures.Rectangle c.or_none-width.result c.or_none-height.result)
    c.point_of-place.result rule figure c.point_of-place.ensures.value refl (c.in-Ok.ensures.kept rule)

pub returns-in-Err-clause-broken : goal.returns-in-Err-clause-broken
returns-in-Err-clause-broken c =
    let fields = c.args.fields.now in
    let figure = plain_figure fields c.or_none-width.result c.or_none-height.result c.or_none-width.ensures c.or_none-height.ensures in
    refused_by _ c.args.at c.in-Err.undrawn _ c.bad_at.ensures
    (λ rule e. figure_lowest_by bodies.Rectangle fields None None (figures.Rectangle c.or_none-width.result c.or_none-height.result)
    c.point_of-place.result rule figure c.point_of-place.ensures.value refl (c.in-Err.ensures.broken rule (ap Err e)))
