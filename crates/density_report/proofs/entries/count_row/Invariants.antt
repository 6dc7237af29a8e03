use Rattle.std.proofs.Common.{◌≡◌, ◌+◌, ◌++◌, List, take}
use Rattle.density_report.specs.declared.entries.Entry.{Entry}
use Rattle.density_report.specs.Rows.{entries_of, triangles_of, AreTotals}
use Rattle.density_report.proofs.entries.count_row.Given as goal

abbrev pub invariant-loop-counted : goal.invariant-loop-counted
invariant-loop-counted l = record {
  totals_of : (entries : List Entry) → AreTotals entries l.initial.totals
      → AreTotals (entries ++ entries_of l.strip.row (take l.counted-index l.counts)) l.totals;
  sum : l.totals.triangles ≡ l.initial.totals.triangles + triangles_of (take l.counted-index l.counts);
}
