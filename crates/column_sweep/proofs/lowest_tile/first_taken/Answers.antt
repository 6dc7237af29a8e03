use Rattle.std.proofs.Common.{ℤ, Bool, ◌<◌, length, arith, FitsSigned, rules}
use Rattle.std.specs.Int.{w128}
use Rattle.std.proofs.lemmas.Int.{to_z-of_z}
use Rattle.std.proofs.lemmas.Bool.Decides.{nat_tests}
use Rattle.column_sweep.proofs.LowestTiles.{lowest_in_slab}
use Rattle.column_sweep.proofs.lowest_tile.first_taken.Goals as goal

pub returns-in-Some-first-clause-found : goal.returns-in-Some-first-clause-found
returns-in-Some-first-clause-found g c =
    let post : g.row.F.Denot → ℤ → ℤ → Bool → Type 0 = λ rule a b r. g.F.Fn.post rule (a, (b, tt)) r in
    let fits_a : FitsSigned w128 c.in-Some-first.run'.now.a = search rules in
    let fits_b : FitsSigned w128 c.in-Some-first.run'.now.b = search rules in
    let i = c.loop-slab.invariant in
    let slab = c.in-Some.ensures in
    let test = c.in-Some-first.ensures.item.0 in
    let some : 0 < length c.runs.result.now = grind (arith, nat_tests, test) in
    lowest_in_slab post c.args.scan.now.rule c.loop-slab.scan.rule c.args.scan.now.edges c.loop-slab.scan.edges
    c.args.scan.now.window c.loop-slab.scan.window i.rule i.edges i.window
    c.loop-slab.scan.y c.in-Some.slab.y0 c.in-Some.slab.y1 slab.from slab.slab.has_rows slab.within
    c.next.new.self.runs c.runs.result.now slab.runs c.runs.ensures
    c.in-Some-first.run'.now some c.in-Some-first.ensures.item.1 i.none
    _ c.first_tile.ensures.row c.first_tile.ensures.number (to_z-of_z w128 c.in-Some-first.run'.now.a fits_a) (to_z-of_z w128 c.in-Some-first.run'.now.b fits_b)
