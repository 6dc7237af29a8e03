use Rattle.layout_model.proofs.SlantLemmas.{no_slant}
use Rattle.layout_model.proofs.shapes.has_grid_edges.Goals as goal

pub returns-in-Some : goal.returns-in-Some
returns-in-Some c = (λ yes. absurd (cc), λ all. absurd (no_slant c.args.points.now c.in-Some._slant all c.in-Some.ensures.some))
