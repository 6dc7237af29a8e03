use Rattle.std.proofs.Common.{refl}
use Rattle.scan_line.specs.ClippedEdges.{parts_in}
use Rattle.scan_line.proofs.clipped.Clipped.new.Goals as goal

pub returns-clause-some_list : goal.returns-clause-some_list
returns-clause-some_list g c = λ given. (parts_in c.args.window given.0, record { edges = given.0; source = given.1; each = refl })
