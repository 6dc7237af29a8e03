use Rattle.half_grid.specs.Trapezoids.{IsShot}
use Rattle.shot_reader.specs.Fields.{HasShape, IsCornered}
use Rattle.shot_reader.proofs.Shapes.{cornered, shaped}
use Rattle.shot_reader.proofs.Nears.{near_fields, some_by}
use Rattle.shot_reader.proofs.corners.trap_of.Goals as goal

pub returns-then-not-are_near-clause-all : goal.returns-then-not-are_near-clause-all
returns-then-not-are_near-clause-all c = λ z shot h. c.if-not-are_near.ensures.1 (near_fields c.args.fields.now z shot h)

pub returns-clause-some : goal.returns-clause-some
returns-clause-some c = some_by c.trap_with.result (λ z. IsShot z × IsCornered c.corners_of.result z)
    (λ z. IsShot z × HasShape c.args.fields.now z)
    (λ z p. (p.0, shaped c.args.fields.now c.corners_of.result z p.1 c.corners_of.ensures)) c.trap_with.ensures.some

pub returns-clause-all : goal.returns-clause-all
returns-clause-all c = λ z shot h. c.trap_with.ensures.all z shot (cornered c.args.fields.now c.corners_of.result z shot h c.corners_of.ensures)
