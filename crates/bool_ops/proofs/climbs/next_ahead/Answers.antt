use Rattle.std.proofs.Common.{arith}
use Rattle.std.proofs.lemmas.Int.{ints}
use Rattle.std.proofs.lemmas.Option.{IfSome_then}
use Rattle.bool_ops.specs.Monotone.{twice_round}
use Rattle.bool_ops.proofs.AscentLemmas.{way_next}
use Rattle.bool_ops.proofs.climbs.next_ahead.Goals as goal

pub returns-clause-way : goal.returns-clause-way
returns-clause-way c =
    IfSome_then c.ascent_ahead.result c.ascent_ahead.ensures.ascent (λ b up.
    way_next (twice_round c.args.points.now) c.args.from c.args.ahead b c.requires.top (omega (arith, ints, c.if-from-ahead.false, c.requires.rows)) up)
