use Rattle.mdp_job.specs.Runs.{run_of}
use Rattle.mdp_job.specs.FileAnswers.{shot_data}
use Rattle.std.proofs.Common.{pos}
use Rattle.mdp_job.proofs.Splits.{split_answers, refused_answers, refused_kind}
use Rattle.mdp_job.proofs.splitting.split.Goals as goal

pub returns-in-Ok-clause-answer : goal.returns-in-Ok-clause-answer
returns-in-Ok-clause-answer g c = λ told.
    let at = g.D.Depot.content in
    let counts = g.D.Depot.counts in
    let e = c.in-Ok.ensures in
    split_answers (at c.args.depot.now) (at c.read_shot_file.new.depot) (at c.split_file.new.depot)
    (counts c.args.depot.now) (counts c.read_shot_file.new.depot) (counts c.split_file.new.depot) c.args.file.now
    (pos c.args.size) c.args.out.now (shot_data c.in-Ok.read) c.split_file.result (e.held told) (e.whole told) e.uncounted (c.split_file.ensures.made told)

pub returns-in-Err-clause-answer : goal.returns-in-Err-clause-answer
returns-in-Err-clause-answer g c = λ told.
    let at = g.D.Depot.content in
    let counts = g.D.Depot.counts in
    refused_answers (pos c.args.size) c.args.out.now
    (run_of (at c.args.depot.now) (at c.read_shot_file.new.depot) (counts c.args.depot.now)
    (counts c.read_shot_file.new.depot)) c.args.file.now c.in-Err.status
    (c.in-Err.ensures.refused told)

pub returns-in-Err-clause-kind : goal.returns-in-Err-clause-kind
returns-in-Err-clause-kind g c = refused_kind c.in-Err.status c.in-Err.ensures.kind
