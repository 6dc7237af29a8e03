use Rattle.std.proofs.Common.{refl}
use Rattle.fracture.specs.Cutting.{shots_of}
use Rattle.fracture.proofs.cuts.Cuts.new.Goals as goal

pub returns-clause-some_list : goal.returns-clause-some_list
returns-clause-some_list g c = λ some. (shots_of c.args.limits.height c.args.limits.width some.0, record { traps = some.0; is = refl; given = some.1 })
