use Rattle.std.proofs.Common.{refl}
use Rattle.oas_record.proofs.lexical.text_at.Goals as goal

pub returns-clause-ok : goal.returns-clause-ok
returns-clause-ok c = (c.in_ok-text.ensures.found c.in_ok-text.field-0.0 c.in_ok-text.field-0.1).0 refl

pub returns-clause-within : goal.returns-clause-within
returns-clause-within c = ((c.in_ok-text.ensures.found c.in_ok-text.field-0.0 c.in_ok-text.field-0.1).0 refl).2.within
