use Rattle.std.proofs.Common.{ap, sym, Ok}
use Rattle.oas_lex.proofs.Reading.{has_not_wide, ends_not_has, has_one}
use Rattle.oas_lex.proofs.Readers.{pair_is}
use Rattle.oas_lex.proofs.numbers.unsigned.Goals as goal

pub returns-in-Some-clause-read : goal.returns-in-Some-clause-read
returns-in-Some-clause-read c = λ n next h.
    let both = has_one c.args.bytes.now c.args.at n next c.in-Some.read.0 c.in-Some.read.1 h c.in-Some.ensures in
    ap Ok (pair_is c.in-Some.read (n, next) (sym both.0) (sym both.1))

pub returns-in-Some-clause-short : goal.returns-in-Some-clause-short
returns-in-Some-clause-short c = (
  λ e. absurd (cc),
  λ e. absurd (ends_not_has c.args.bytes.now c.args.at c.in-Some.read.0 c.in-Some.read.1 e c.in-Some.ensures),
)

pub returns-in-Some-clause-wide : goal.returns-in-Some-clause-wide
returns-in-Some-clause-wide c = (
  λ e. absurd (cc),
  λ w. absurd (has_not_wide c.args.bytes.now c.args.at c.in-Some.read.0 c.in-Some.read.1 c.in-Some.ensures w),
)
