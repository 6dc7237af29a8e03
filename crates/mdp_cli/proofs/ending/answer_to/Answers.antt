use Rattle.std.proofs.Common.{◌≡◌, IfSome, subst, sym, refl}
use Rattle.job_words.specs.Texts.{texts}
use Rattle.job_report.specs.Codes.{code_of}
use Rattle.mdp_job.specs.Runs.{run_of}
use Rattle.mdp_cli.specs.Ends.{IsEnd}
use Rattle.mdp_cli.proofs.ending.answer_to.Goals as goal

pub returns-in-Some-clause-end : goal.returns-in-Some-clause-end
returns-in-Some-clause-end g c =
    subst
    (λ o. IfSome o (λ w. IsEnd g.D.Depot.tells
    (run_of (g.D.Depot.content c.args.depot.now) (g.D.Depot.content c.run.new.depot)
    (g.D.Depot.counts c.args.depot.now) (g.D.Depot.counts c.run.new.depot)) (texts w.items) (code_of c.run.result)))
    (sym c.in-Some.is)
    (subst
    (λ ws. IsEnd g.D.Depot.tells
    (run_of (g.D.Depot.content c.args.depot.now) (g.D.Depot.content c.run.new.depot)
    (g.D.Depot.counts c.args.depot.now) (g.D.Depot.counts c.run.new.depot)) (texts ws) (code_of c.run.result))
    c.deref.ensures.value
    (record {
      answer = c.run.result;
      is = refl;
      refused = c.run.ensures.words;
      belongs = c.run.ensures.belongs;
      faults_told = c.run.ensures.faults_told;
      covers = c.run.ensures.covers;
      certifies = c.run.ensures.certifies;
      accepts = c.run.ensures.accepts;
      refuses = c.run.ensures.refuses;
      leaves = c.run.ensures.leaves;
      says = c.run.ensures.says;
    }))
