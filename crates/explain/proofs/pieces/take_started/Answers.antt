use Rattle.std.proofs.Common.{refl}
use Rattle.explain.proofs.LeftOnly.{left_again}
use Rattle.explain.proofs.pieces.take_started.Goals as goal

pub loop-chunk-init : goal.loop-chunk-init
loop-chunk-init g c = λ tells. refl

pub returns-in_err-count : goal.returns-in_err-count
returns-in_err-count g c = record {
  reads = λ tells. left_again (g.D.Depot.content c.args.depot.now) (g.D.Depot.content c.loop-chunk.depot) (g.D.Depot.content c.read.new.depot)
      (c.loop-chunk.invariant tells) (c.read.ensures.reads tells);
}

pub returns-in_default : goal.returns-in_default
returns-in_default g c = record {
  reads = λ tells. left_again (g.D.Depot.content c.args.depot.now) (g.D.Depot.content c.loop-chunk.depot) (g.D.Depot.content c.read.new.depot)
      (c.loop-chunk.invariant tells) (c.read.ensures.reads tells);
}

pub returns-in_err-take : goal.returns-in_err-take
returns-in_err-take g c = record {
  reads = λ tells. left_again (g.D.Depot.content c.args.depot.now) (g.D.Depot.content c.loop-chunk.depot) (g.D.Depot.content c.read.new.depot)
      (c.loop-chunk.invariant tells) (c.read.ensures.reads tells);
}

pub returns-then-not-branch : goal.returns-then-not-branch
returns-then-not-branch g c = record {
  reads = λ tells. left_again (g.D.Depot.content c.args.depot.now) (g.D.Depot.content c.loop-chunk.depot) (g.D.Depot.content c.read.new.depot)
      (c.loop-chunk.invariant tells) (c.read.ensures.reads tells);
}

pub loop-chunk-preserved : goal.loop-chunk-preserved
loop-chunk-preserved g c = λ tells. left_again (g.D.Depot.content c.args.depot.now) (g.D.Depot.content c.loop-chunk.depot) (g.D.Depot.content c.read.new.depot)
    (c.loop-chunk.invariant tells) (c.read.ensures.reads tells)

pub returns : goal.returns
returns g c = record { reads = λ tells. c.loop-chunk.invariant tells }
