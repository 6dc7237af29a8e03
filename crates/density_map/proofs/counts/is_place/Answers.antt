use Rattle.std.proofs.Common.{arith, rules}
use Rattle.density_map.proofs.PlaceLemmas.{place_here}
use Rattle.density_map.proofs.counts.is_place.Goals as goal

pub returns : goal.returns
returns c =
    λ yes. place_here c.args.counts.now c.requires c.args.sought.now.column c.args.at
    (omega (arith, c.if-counts-at.false)) (c.is_less_before.ensures (search rules)) (c.is_not_less.ensures yes)
