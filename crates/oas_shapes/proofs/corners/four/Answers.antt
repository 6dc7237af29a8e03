use Rattle.std.proofs.Common.{arith}
use Rattle.oas_shapes.specs.Plane.{origin}
use Rattle.oas_shapes.proofs.corners.four.Goals as goal

pub returns-in_default-clause-none : goal.returns-in_default-clause-none
returns-in_default-clause-none c = λ all. c.in_default.ensures.none (all 0 origin (omega arith))

pub returns-in_default-placed-clause-none : goal.returns-in_default-placed-clause-none
returns-in_default-placed-clause-none c = λ all. c.in_default-placed.ensures.none (all 1 origin (omega arith))

pub returns-in_default-placed-2-clause-none : goal.returns-in_default-placed-2-clause-none
returns-in_default-placed-2-clause-none c = λ all. c.in_default-placed-2.ensures.none (all 2 origin (omega arith))

pub returns-in_default-placed-3-clause-none : goal.returns-in_default-placed-3-clause-none
returns-in_default-placed-3-clause-none c = λ all. c.in_default-placed-3.ensures.none (all 3 origin (omega arith))
