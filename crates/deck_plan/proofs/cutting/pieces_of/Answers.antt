use Rattle.std.proofs.lemmas.Result.{IfOk-weaker}
use Rattle.half_grid.specs.Trapezoids.{CoversExactly}
use Rattle.half_grid.specs.Winding.{IsInPolygon}
use Rattle.layout_model.specs.ShapeLists.{shape_in}
use Rattle.deck_plan.proofs.PieceLemmas.{pieces_cover}
use Rattle.deck_plan.proofs.cutting.pieces_of.Goals as goal

pub returns : goal.returns
returns c =
    IfOk-weaker c.pieces.result _ (λ traps. CoversExactly traps.items (IsInPolygon (shape_in c.args.shape).points))
    (λ traps pieces. pieces_cover (shape_in c.args.shape).points traps.items c.requires.closed pieces)
    c.pieces.ensures
