use Rattle.std.proofs.Common.{refl}
use Rattle.oas_lex.proofs.Readers.{found_ok, delta2_reader}
use Rattle.oas_lex.proofs.deltas.delta2.Goals as goal

pub returns-clause-found : goal.returns-clause-found
returns-clause-found c = λ p next. found_ok (delta2_reader c.args.bytes.now c.args.at) _
    (c.towards.result, c.in_ok-code.next) refl (c.in_ok-code.code, c.in_ok-code.ensures.ok, c.towards.ensures) (p, next)
