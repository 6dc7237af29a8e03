use Rattle.mdp_job.specs.Table.{unpacking_command}
use Rattle.mdp_job.specs.FileAnswers.{shot_data}
use Rattle.mdp_job.proofs.Taken.{made_answers}
use Rattle.mdp_job.proofs.packing.unpack.Goals as goal

pub returns-in-Ok-clause-answer : goal.returns-in-Ok-clause-answer
returns-in-Ok-clause-answer g c = λ told.
    let at = g.D.Depot.content in
    let counts = g.D.Depot.counts in
    let e = c.in-Ok.ensures in
    made_answers (unpacking_command c.args.out.now) (at c.args.depot.now) _ (at c.unpack_file.new.depot)
    (counts c.args.depot.now) _ (counts c.unpack_file.new.depot) c.args.file.now (shot_data c.in-Ok.read) c.unpack_file.result
    (e.held told) (e.whole told) e.uncounted (c.unpack_file.ensures.made told)
