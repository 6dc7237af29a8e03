use Rattle.std.proofs.Common.{◌≡◌, List, subst, sym, rules}
use Rattle.std.specs.List.{insert}
use Rattle.density_map.specs.declared.counts.Counted.{Counted}
use Rattle.density_map.specs.Counts.{AreCounts, HasColumn}
use Rattle.density_map.proofs.PlaceLemmas.{inserted}
use Rattle.density_map.proofs.counts.add_at.Goals as goal

pub returns-clause-counts : goal.returns-clause-counts
returns-clause-counts c =
    let e : c.insert.new.self.items ≡ insert c.args.counts.now.items c.args.at c.args.more = search rules in
    subst AreCounts (sym e)
    (inserted c.args.counts.now.items c.requires.counts c.args.more c.args.at c.requires.place
    (λ h. (let there : HasColumn c.as_slice.result.now c.args.at c.args.more.column = subst
    (λ (xs : List Counted). HasColumn xs c.args.at c.args.more.column) (sym c.as_slice.ensures.value) h in
    let yes = c.has_column.ensures.1 there in
    let clash : ⊥ = search rules in clash))
    c.requires.some)
