use Rattle.std.proofs.Common.{◌≡◌, ◌∙◌, arith}
use Rattle.gds_record.specs.Reals.{sign_of}
use Rattle.gds_record.proofs.RealLemmas.{positive, agrees_at}
use Rattle.gds_record.proofs.reals.unit_agrees.Goals as goal

pub returns : goal.returns
returns c =
    let real = c.real_of-real in
    let signed : sign_of c.args.bits ≡ 0 =
    positive c.args.bits c.ranges.bits.fits (λ one. absurd (let yes = real.ensures.sign.1 one in cc)) in
    agrees_at c.args.bits c.args.unit c.from.result c.from-2.result real.result.exponent c.is_within.result signed
    (c.from.ensures ∙ real.ensures.fraction) c.from-2.ensures real.ensures.exponent (omega arith) (omega arith) c.is_within.ensures
