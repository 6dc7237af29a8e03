use Rattle.std.proofs.Common.{◌+◌, pos, get_or, refl, arith}
use Rattle.std.proofs.lemmas.List.Sums.{sum_by_more, sum_by_more_le}
use Rattle.density_map.specs.declared.counts.Counted.{Counted}
use Rattle.density_report.proofs.TotalsLemmas.{totals_next}
use Rattle.density_report.proofs.entries.count_row.Goals as goal

pub overflow_add-totals : goal.overflow_add-totals
overflow_add-totals c =
    let l = c.loop-counted in
    let none : Counted = record { column = pos 0; tiles = 0 } in
    let most = sum_by_more_le (λ (y : Counted). y.tiles) c.args.counts.now l.counted-index none c.loop-counted-test.true in
    let few = c.requires.few in
    let sum = l.invariant.sum in
    record { fits = omega (arith, sum, most, few) }

pub loop-counted-preserved : goal.loop-counted-preserved
loop-counted-preserved c =
    let l = c.loop-counted in
    let xs = c.args.counts.now in
    let none : Counted = record { column = pos 0; tiles = 0 } in
    let x = get_or xs l.counted-index none in
    let more = sum_by_more (λ (y : Counted). y.tiles) xs l.counted-index none c.loop-counted-test.true in
    let sum = l.invariant.sum in
    record {
      totals_of = λ entries before.
          totals_next entries c.args.strip.now.row xs l.counted-index x none c.entry_of.result l.totals
          c.greater-totals.result (l.totals.triangles + x.tiles)
          c.loop-counted-test.true refl c.entry_of.ensures (l.invariant.totals_of entries before) (λ most. c.greater-totals.ensures _ most) refl;
      sum = omega (arith, sum, more);
    }
