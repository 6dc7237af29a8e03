use Rattle.std.proofs.Common.{rules, vec_len}
use Rattle.scan_line.proofs.Opening.{ends_in_place}
use Rattle.scan_line.proofs.filling.end.Goals as goal

pub returns-in-Some-clause-items : goal.returns-in-Some-clause-items
returns-in-Some-clause-items c = ends_in_place _ c.in-Some.run'.now c.args.line (vec_len c.args.runs.now) (search rules) c.in-Some.ensures.value
