use Rattle.std.proofs.Common.{refl, arith, ◌≡◌, ◌+◌, ◌-◌, ◌*◌, ◌/◌, ◌^◌, ◌%◌, inl, inr}
use Rattle.std.proofs.lemmas.Nat.{one_shl}
use Rattle.oas_lex.proofs.RealLemmas.{ieee_none, ieee_outside, ieee_is}
use Rattle.oas_lex.proofs.reals.ieee_whole.Goals as goal
use Rattle.oas_lex.proofs.reals.ieee_whole.Goals.{then-exponent-bias-via-then-exponent-bias, then-exponent-bias-via-else-exponent-bias+then-exponent-bias-2}

pub returns-then-bits-eq0 : goal.returns-then-bits-eq0
returns-then-bits-eq0 c = λ q small. ieee_none c.args.fraction c.args.bias c.args.bits q c.requires.bias.0 c.if-bits-eq0.true

pub returns-then-exponent-bias : goal.returns-then-exponent-bias
returns-then-exponent-bias c = λ q small.
    let whole : (1 * 2 ^ c.args.fraction) % 2 ^ 64 ≡ 2 ^ c.args.fraction = one_shl c.args.fraction 64 (omega (arith, c.requires.fraction.1)) in (
      λ e. absurd (cc),
      λ p. absurd (ieee_outside c.args.fraction c.args.bias c.args.bits q c.requires.fraction.0 small c.if-bits-eq0.false
          (elim c.then-exponent-bias.branch [
            | then-exponent-bias-via-then-exponent-bias w ↦ inl (rw whole at w.if-exponent-bias.true)
            | then-exponent-bias-via-else-exponent-bias+then-exponent-bias-2 w ↦ inr (rw whole at w.if-exponent-bias-2.true)
          ]) p),
    )

pub returns : goal.returns
returns c = λ q small.
    let whole : (1 * 2 ^ c.args.fraction) % 2 ^ 64 ≡ 2 ^ c.args.fraction = one_shl c.args.fraction 64 (omega (arith, c.requires.fraction.1)) in
    let quotient = rw whole at c.whole_quotient.ensures in
    let low = rw whole at c.if-exponent-bias.false in
    let high = rw whole at c.if-exponent-bias-2.false in
    let shift = c.args.fraction - (c.args.bits / 2 ^ c.args.fraction - c.args.bias) in
    let power : (1 * 2 ^ shift) % 2 ^ 64 ≡ 2 ^ shift = one_shl shift 64 (omega (arith, c.requires.fraction.1)) in
    let same = ieee_is c.args.fraction c.args.bias c.args.bits q
    (2 ^ c.args.fraction + c.args.bits % 2 ^ c.args.fraction)
    ((1 * 2 ^ shift) % 2 ^ 64) c.requires.fraction.0 small c.if-bits-eq0.false low high refl power in
    (λ e. same.0 ((quotient q).0 e), λ p. (quotient q).1 (same.1 p))
