use Rattle.std.proofs.Common.{subst}
use Rattle.mdp_job.specs.FieldAnswers.{IsSpan}
use Rattle.mdp_job.specs.FileAnswers.{shot_data}
use Rattle.mdp_job.proofs.Splits.{none_ended}
use Rattle.mdp_job.proofs.splitting.split_span.Goals as goal

pub split_shots-requires : goal.split_shots-requires
split_shots-requires g c =
    let span = subst (IsSpan c.args.fields.now (shot_data c.args.file.now).shots) c.in-Some.is c.requires.span in
    record { plain = c.requires.plain; size = c.requires.size; within = c.requires.within; stripes = span.0; few = span.1 }

pub returns-in-None-clause-made : goal.returns-in-None-clause-made
returns-in-None-clause-made g c = λ told.
    let at = g.D.Depot.content in
    let none = subst (IsSpan c.args.fields.now (shot_data c.args.file.now).shots) c.in-None.is c.requires.span in
    none_ended (at c.args.depot.now) (at c.say_stripes.new.depot) _ _ c.args.fields.now c.args.out.now
    (shot_data c.args.file.now) c.no_sums.result c.say_stripes.result none
    c.no_sums.ensures.shots c.no_sums.ensures.triangles (c.say_stripes.ensures.said told)
