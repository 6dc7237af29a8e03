use Rattle.shot_writer.proofs.SoFar.{some_triangles}
use Rattle.shot_writer.proofs.Triangles.{few_triangles}
use Rattle.shot_writer.proofs.parts.triangles_in.Goals as goal

pub returns-clause-some : goal.returns-clause-some
returns-clause-some c = some_triangles c.args.trap.now c.size_of.result c.y0-bottom.ensures.shot.legal c.size_of.ensures.value

pub returns-clause-few : goal.returns-clause-few
returns-clause-few c = few_triangles c.args.trap.now c.size_of.result c.y0-bottom.ensures.shot c.size_of.ensures.value
