use Rattle.std.proofs.Common.{◌^◌, ◌≤◌, arith}
use Rattle.density_map.proofs.WedgeLemmas.{product_small}
use Rattle.density_map.proofs.tiles.squared.Goals as goal

pub returns-clause-small : goal.returns-clause-small
returns-clause-small c =
    let one : c.from.result ≤ 2 ^ 46 = omega (arith, c.from.ensures, c.requires) in
    let two : c.from-2.result ≤ 2 ^ 46 = omega (arith, c.from-2.ensures, c.requires) in
    let product = product_small c.from.result c.from-2.result (2 ^ 46) (2 ^ 46) one two in
    omega (arith, product)
