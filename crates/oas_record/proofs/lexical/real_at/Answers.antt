use Rattle.std.proofs.Common.{refl}
use Rattle.oas_record.proofs.Ends.{real_within}
use Rattle.oas_record.proofs.lexical.real_at.Goals as goal

pub returns-clause-ok : goal.returns-clause-ok
returns-clause-ok c = (c.in_ok-real.ensures.found c.in_ok-real.field-0.0 c.in_ok-real.field-0.1).0 refl

pub returns-clause-within : goal.returns-clause-within
returns-clause-within c = real_within c.args.bytes.now c.args.at c.in_ok-real.field-0.0 c.in_ok-real.field-0.1
    ((c.in_ok-real.ensures.found c.in_ok-real.field-0.0 c.in_ok-real.field-0.1).0 refl)
