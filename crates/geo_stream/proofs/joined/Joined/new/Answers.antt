use Rattle.std.proofs.Common.{◌++◌, refl}
use Rattle.geo_stream.proofs.joined.Joined.new.Goals as goal

pub returns-clause-some_list : goal.returns-clause-some_list
returns-clause-some_list g c = λ p q. (p.0 ++ q.0, record { front = p.0; back = q.0; is = refl; first = p.1; second = q.1 })
