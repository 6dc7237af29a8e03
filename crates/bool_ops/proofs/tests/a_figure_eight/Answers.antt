use Rattle.std.proofs.Common.{sym, subst, ap, ◌∙◌}
use Rattle.half_grid.specs.Outlines.{HasGridEdges}
use Rattle.layout_model.specs.declared.shapes.Shape.{Shape}
use Rattle.bool_ops.proofs.tests.a_figure_eight.Goals as goal

pub pieces-requires-clause-grid : goal.pieces-requires-clause-grid
pieces-requires-clause-grid g c =
    subst HasGridEdges (sym (ap (λ (shape : Shape). shape.points) c.by_ref.ensures ∙ c.in-Ok.ensures.points)) c.in-Ok.ensures.grid
