use Rattle.oas_shapes.specs.Ways.{way_of}
use Rattle.oas_shapes.proofs.TrailLemmas.{trail_far}
use Rattle.oas_shapes.proofs.trails.Trail.go.Goals as goal

pub returns-in_default-clause-far : goal.returns-in_default-clause-far
returns-in_default-clause-far c = λ whole moves t e. trail_far whole _ (way_of c.args.way) moves t c.in_default.ensures.none
