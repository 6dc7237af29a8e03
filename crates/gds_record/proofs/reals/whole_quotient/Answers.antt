use Rattle.gds_record.proofs.RealLemmas.{quotient_exact}
use Rattle.gds_record.proofs.reals.whole_quotient.Goals as goal

pub returns-then-fraction-divisor-eq0-clause-exact : goal.returns-then-fraction-divisor-eq0-clause-exact
returns-then-fraction-divisor-eq0-clause-exact c = quotient_exact c.args.fraction c.args.shift c.requires c.if-fraction-divisor-eq0.true
