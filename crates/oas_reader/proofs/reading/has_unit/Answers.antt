use Rattle.std.proofs.Common.{rules}
use Rattle.oas_reader.proofs.FileLemmas.{unit_is, no_unit}
use Rattle.oas_reader.proofs.reading.has_unit.Goals as goal

pub returns-in-Some : goal.returns-in-Some
returns-in-Some c = unit_is c.args.real c.in-Some.whole c.args.unit c.from.result c.real_whole.result
    c.real_whole.ensures c.in-Some.is (search rules) c.from.ensures

pub returns-in-None : goal.returns-in-None
returns-in-None c = (λ h. absurd (cc), λ wanted. absurd (no_unit c.args.real c.args.unit c.real_whole.result c.real_whole.ensures c.in-None.is wanted))
