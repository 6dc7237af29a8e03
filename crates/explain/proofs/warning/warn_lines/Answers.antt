use Rattle.std.proofs.Common.{refl}
use Rattle.explain.proofs.LeftOnly.{left_again}
use Rattle.explain.proofs.warning.warn_lines.Goals as goal

pub loop-line-init : goal.loop-line-init
loop-line-init g c = λ tells. refl

pub returns-in_default : goal.returns-in_default
returns-in_default g c = record { reads = λ tells. c.loop-line.invariant tells }

pub returns-in_err-output : goal.returns-in_err-output
returns-in_err-output g c = record {
  reads = λ tells. left_again (g.D.Depot.content c.args.depot.now) (g.D.Depot.content c.loop-line.depot) (g.D.Depot.content c.warn_line.new.depot)
      (c.loop-line.invariant tells) (c.warn_line.ensures.reads tells);
}

pub loop-line-preserved : goal.loop-line-preserved
loop-line-preserved g c = λ tells. left_again (g.D.Depot.content c.args.depot.now) (g.D.Depot.content c.loop-line.depot) (g.D.Depot.content c.warn_line.new.depot)
    (c.loop-line.invariant tells) (c.warn_line.ensures.reads tells)

pub returns : goal.returns
returns g c = record { reads = λ tells. c.loop-line.invariant tells }
