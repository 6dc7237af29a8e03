use Rattle.std.proofs.Common.{refl, arith}
use Rattle.oas_lex.proofs.RealLemmas.{whole_kind}
use Rattle.oas_lex.proofs.reals.magnitude_of.Goals as goal

pub returns-in-0-to-1 : goal.returns-in-0-to-1
returns-in-0-to-1 c = λ q small.
    let kind = whole_kind c.args.real c.args.real.kind q refl (omega (arith, c.in-0-to-1)) in
    (λ e. kind.0 ((c.whole_quotient.ensures q).0 e), λ p. (c.whole_quotient.ensures q).1 (kind.1 p))
