use Rattle.std.proofs.Common.{◌≡◌, None, w64, to_z, of_z, arith, subst, sym}
use Rattle.std.specs.Prelude.{pos, neg_ℤ, ◌-ℤ◌}
use Rattle.gds_record.specs.Reals.{IsWholeGdsiiReal}
use Rattle.gds_record.proofs.RealLemmas.{negated_magnitude, signed_magnitude, positive, no_quotient, some_quotient, taken}
use Rattle.gds_record.proofs.reals.real_whole.Goals as goal

pub returns-in_err-magnitude : goal.returns-in_err-magnitude
returns-in_err-magnitude c n =
    let none : c.from_residual.result ≡ None = c.from_residual.ensures in
    let real = c.real_of-real in (
      λ some. absurd (cc),
      λ w. absurd (
          no_quotient c.args.bits real.result.fraction real.result.exponent c.whole_quotient.result real.ensures.fraction
          real.ensures.exponent (omega arith) c.whole_quotient.ensures.exact (c.in_err-magnitude.was) n w
          ),
    )

pub returns-then-real : goal.returns-then-real
returns-then-real c =
    let real = c.real_of-real in
    let q = c.in_ok-magnitude.magnitude in
    let product = (c.whole_quotient.ensures.exact q).0 c.in_ok-magnitude.was in
    let whole : IsWholeGdsiiReal c.args.bits (neg_ℤ (pos q)) =
    some_quotient c.args.bits 1 real.result.fraction real.result.exponent q (real.ensures.sign.0 c.if-real.true)
    real.ensures.fraction real.ensures.exponent (omega arith) (omega arith) product in
    let value : to_z w64 (of_z w64 (pos 0 -ℤ to_z w64 q)) ≡ neg_ℤ (pos q) =
    negated_magnitude q real.result.fraction c.args.bits c.in_ok-magnitude.ensures.bounded real.ensures.fraction in
    taken c.args.bits _ (subst (IsWholeGdsiiReal c.args.bits) (sym value) whole)

pub returns : goal.returns
returns c =
    let real = c.real_of-real in
    let q = c.in_ok-magnitude.magnitude in
    let product = (c.whole_quotient.ensures.exact q).0 c.in_ok-magnitude.was in
    let whole : IsWholeGdsiiReal c.args.bits (pos q) =
    some_quotient c.args.bits 0 real.result.fraction real.result.exponent q
    (positive c.args.bits c.ranges.bits.fits (λ one. absurd (let yes = real.ensures.sign.1 one in cc)))
    real.ensures.fraction real.ensures.exponent (omega arith) (omega arith) product in
    let value : to_z w64 q ≡ pos q =
    signed_magnitude q real.result.fraction c.args.bits c.in_ok-magnitude.ensures.bounded real.ensures.fraction in
    taken c.args.bits _ (subst (IsWholeGdsiiReal c.args.bits) (sym value) whole)
