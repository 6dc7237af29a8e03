use Rattle.std.proofs.Common.{FitsSigned, w64, ℕ, ◌<ℤ◌, ◌≡◌, ◌<◌, ℤ, pos, ◌+ℤ◌, ◌*ℤ◌, ◌≤ℤ◌, List, ◌∷◌, [], ◌++◌, length}
use Rattle.std.proofs.Common.{flat_map, ap, subst, sym, ◌∙◌, arith, rules}
use Rattle.std.proofs.lemmas.Int.{ints, to_z-of_z}
use Rattle.std.proofs.lemmas.List.{length-append}
use Rattle.depot.specs.Content.{IsPartSaid}
use Rattle.depot.specs.Printing.{IsSaidButFor}
use Rattle.depot.proofs.ForCallers.{refused}
use Rattle.density_map.specs.declared.counts.Counted.{Counted}
use Rattle.density_map.specs.Rows.{RowMap}
use Rattle.density_report.specs.declared.entries.Entry.{Entry}
use Rattle.density_report.specs.declared.strips.Mesh.{Mesh}
use Rattle.deck_plan.specs.Plans.{planned_area}
use Rattle.density_report.specs.Rows.{counted_line, entries_of, AreCountsFrom, AreRowCounts, AreTotals, HasNone}
use Rattle.density_report.proofs.MapLemmas.{last_counts, rest_counts, no_counts}
use Rattle.density_report.proofs.StripLemmas.{batch_of_rows, near_of_rows, from_parts, steps_left, steps_fall, filled_falls}
use Rattle.density_report.proofs.TotalsLemmas.{no_totals}
use Rattle.density_report.proofs.RowSteps.{rows_told, no_rows, stopped, few, row_cut, row_put, rows_passed, rows_put}
use Rattle.density_report.proofs.tables.say_rows.Goals as goal

pub batch_of-left-requires-clause-near : goal.batch_of-left-requires-clause-near
batch_of-left-requires-clause-near g c = near_of_rows c.args.rows c.requires.near

pub loop-left-init : goal.loop-left-init
loop-left-init g c =
    let hold = c.batch_of-left.ensures.rows in
    let batch = batch_of_rows c.args.mesh.now c.args.rows c.batch_of-left.result c.requires.size c.requires.near c.batch_of-left.ensures.mesh hold in
    let ascending = batch.ascending in
    let none = ap (λ (l : List RowMap). length l) c.new-maps.ensures.items in
    record {
      rows = rows_told c.note.ensures.content
          (no_rows c.args.plan.now c.args.output c.args.mesh.now.size c.batch_of-left.result.row g.D.Depot.tells
          (g.D.Depot.content c.args.depot.now) c.args.buffer.now _ c.args.rows no_totals
          c.requires.outside hold.from);
      counts = no_counts (planned_area c.args.plan.now c.args.output) c.args.mesh.now.size c.batch_of-left.result.row
          c.new-maps.result.items c.new-maps.ensures.items;
      batch = batch;
      mesh = c.batch_of-left.ensures.mesh;
      inside = omega (arith, ints, ascending, none);
      last = hold.up_to;
      uncounted = c.note.ensures.counts;
    }

pub returns-in-Err-clause-refused : goal.returns-in-Err-clause-refused
returns-in-Err-clause-refused g c =
    let l = c.loop-left in
    λ told. stopped c.args.plan.now c.args.output c.args.mesh.now.size l.left.row g.D.Depot.tells
    (g.D.Depot.content c.args.depot.now) c.args.buffer.now l.totals l.buffer (g.D.Depot.content l.depot)
    l.invariant.rows told

pub fill-requires-clause-left : goal.fill-requires-clause-left
fill-requires-clause-left g c = c.loop-left.invariant.batch

pub fill-requires-clause-some : goal.fill-requires-clause-some
fill-requires-clause-some g c =
    let fl : FitsSigned w64 c.loop-left.left.row = search rules in
    let fe : FitsSigned w64 c.loop-left.left.end = search rules in
    let test = simp to_z-of_z at c.loop-left-test.true in
    omega (arith, ints, test)

pub fill-requires-clause-empty : goal.fill-requires-clause-empty
fill-requires-clause-empty g c = c.in_default.ensures.empty

pub after_first-left-requires-clause-batch : goal.after_first-left-requires-clause-batch
after_first-left-requires-clause-batch g c = c.loop-left.invariant.batch

pub after_first-left-requires-clause-some : goal.after_first-left-requires-clause-some
after_first-left-requires-clause-some g c =
    let fl : FitsSigned w64 c.loop-left.left.row = search rules in
    let fe : FitsSigned w64 c.loop-left.left.end = search rules in
    let test = simp to_z-of_z at c.loop-left-test.true in
    omega (arith, ints, test)

pub count_row-requires : goal.count_row-requires
count_row-requires g c =
    let l = c.loop-left in
    let whole = c.in-Some.ensures.some in
    let more = last_counts
    (planned_area c.args.plan.now c.args.output) c.args.mesh.now.size l.left.row l.maps.items c.take_first.new.maps.items
    c.in-Some.map whole l.invariant.counts in
    record {
      few = few c.args.plan.now c.args.output c.args.mesh.now.size l.left.row g.D.Depot.tells
          (g.D.Depot.content c.args.depot.now) c.args.buffer.now l.totals l.buffer
          (g.D.Depot.content l.depot) l.invariant.rows
          c.counts-counts.result.now c.requires.size c.counts-counts.ensures.counts
          (subst (λ (cs : List Counted). AreRowCounts
          (planned_area c.args.plan.now c.args.output) c.args.mesh.now.size l.left.row cs)
          (sym c.counts-counts.ensures.value) more);
    }

pub returns-in_err-say_row-clause-refused : goal.returns-in_err-say_row-clause-refused
returns-in_err-say_row-clause-refused g c =
    let l = c.loop-left in
    let fits : FitsSigned w64 c.loop-left.left.row = search rules in
    let whole = c.in-Some.ensures.some in
    let more = last_counts
    (planned_area c.args.plan.now c.args.output) c.args.mesh.now.size l.left.row l.maps.items c.take_first.new.maps.items
    c.in-Some.map whole l.invariant.counts in
    refused c.from_residual.result _ (λ told.
    row_cut c.args.plan.now c.args.output c.args.mesh.now.size l.left.row g.D.Depot.tells
    (g.D.Depot.content c.args.depot.now) c.args.buffer.now l.totals l.buffer
    (g.D.Depot.content l.depot) l.invariant.rows
    c.counts-counts.result.now c.requires.size c.counts-counts.ensures.counts
    (subst (λ (cs : List Counted). AreRowCounts
    (planned_area c.args.plan.now c.args.output) c.args.mesh.now.size l.left.row cs)
    (sym c.counts-counts.ensures.value) more)
    (g.D.Depot.content c.say_row.new.depot) told
    (subst (λ (r : ℤ). IsPartSaid (g.D.Depot.content l.depot)
    (l.buffer ++ flat_map (counted_line r) c.counts-counts.result.now) (g.D.Depot.content c.say_row.new.depot))
    (to_z-of_z w64 l.left.row fits) (c.in_err-say_row.ensures.content.refused told)))

pub loop-left-smaller : goal.loop-left-smaller
loop-left-smaller g c =
    let fl : FitsSigned w64 c.loop-left.left.row = search rules in
    let fe : FitsSigned w64 c.loop-left.left.end = search rules in
    let test = simp to_z-of_z at c.loop-left-test.true in
    let less : c.loop-left.left.row <ℤ c.loop-left.left.end = omega (arith, ints, test) in
    let l = c.loop-left in
    let row = c.after_first-left.ensures.row in
    steps_fall l.left c.after_first-left.result (length l.maps.items) (length c.take_first.new.maps.items)
    (omega (arith, ints, row)) less c.after_first-left.ensures.end

pub loop-left-preserved : goal.loop-left-preserved
loop-left-preserved g c =
    let fl : FitsSigned w64 c.loop-left.left.row = search rules in
    let fe : FitsSigned w64 c.loop-left.left.end = search rules in
    let test = simp to_z-of_z at c.loop-left-test.true in
    let less : c.loop-left.left.row <ℤ c.loop-left.left.end = omega (arith, ints, test) in
    let l = c.loop-left in
    let row = c.after_first-left.ensures.row in
    let whole = c.in-Some.ensures.some in
    let both = length-append c.take_first.new.maps.items (c.in-Some.map ∷ []) in
    let count = ap (λ (ms : List RowMap). length ms) whole in
    let within = l.invariant.inside in
    let same = c.after_first-left.ensures.end in
    let more = last_counts
    (planned_area c.args.plan.now c.args.output) c.args.mesh.now.size l.left.row l.maps.items c.take_first.new.maps.items
    c.in-Some.map whole l.invariant.counts in
    record {
      rows = rows_told c.note-in-loop-left.ensures.content
          (row_put c.args.plan.now c.args.output c.args.mesh.now.size l.left.row g.D.Depot.tells
          (g.D.Depot.content c.args.depot.now) c.args.buffer.now l.totals l.buffer
          (g.D.Depot.content l.depot) l.invariant.rows
          c.counts-counts.result.now c.requires.size c.counts-counts.ensures.counts
          (subst (λ (cs : List Counted). AreRowCounts
          (planned_area c.args.plan.now c.args.output) c.args.mesh.now.size l.left.row cs)
          (sym c.counts-counts.ensures.value) more)
          c.count_row.new.totals c.say_row.new.buffer
          (g.D.Depot.content c.say_row.new.depot) c.after_first-left.result.row c.after_first-left.ensures.row
          (subst (λ (r : ℤ). (entries : List Entry) → AreTotals entries l.totals
          → AreTotals (entries ++ entries_of r c.counts-counts.result.now) c.count_row.new.totals)
          (to_z-of_z w64 l.left.row fl) c.count_row.ensures)
          (λ told. subst (λ (r : ℤ). IsSaidButFor (g.D.Depot.content l.depot)
          (l.buffer ++ flat_map (counted_line r) c.counts-counts.result.now)
          c.say_row.new.buffer (g.D.Depot.content c.say_row.new.depot))
          (to_z-of_z w64 l.left.row fl) (c.in_ok-say_row.ensures.content.ok told)));
      counts = subst (λ (r : ℤ). AreCountsFrom
          (planned_area c.args.plan.now c.args.output) c.args.mesh.now.size r c.take_first.new.maps.items)
          (sym c.after_first-left.ensures.row)
          (rest_counts (planned_area c.args.plan.now c.args.output) c.args.mesh.now.size l.left.row l.maps.items
          c.take_first.new.maps.items c.in-Some.map whole l.invariant.counts);
      batch = from_parts l.left c.after_first-left.result
          (l.left.row +ℤ pos 1) l.invariant.batch c.after_first-left.ensures.mesh c.after_first-left.ensures.row
          c.after_first-left.ensures.end
          (omega (arith, ints)) (omega (arith, ints, less));
      mesh = c.after_first-left.ensures.mesh ∙ l.invariant.mesh;
      inside = omega (arith, ints, within, both, count, row, same);
      last = subst (λ (e : ℤ). c.args.rows.y1 ≤ℤ (e *ℤ c.args.mesh.now.size)) (sym c.after_first-left.ensures.end) l.invariant.last;
      uncounted = c.note-in-loop-left.ensures.counts ∙ c.in_ok-say_row.ensures.counts.uncounted ∙ l.invariant.uncounted;
    }

pub loop-left-smaller-in_default : goal.loop-left-smaller-in_default
loop-left-smaller-in_default g c =
    let fl : FitsSigned w64 c.loop-left.left.row = search rules in
    let fe : FitsSigned w64 c.loop-left.left.end = search rules in
    let test = simp to_z-of_z at c.loop-left-test.true in
    let less : c.loop-left.left.row <ℤ c.loop-left.left.end = omega (arith, ints, test) in
    let l = c.loop-left in
    let f = c.in-Ok.ensures in
    let empty = c.in_default.ensures.none in
    let count = ap (λ (ms : List RowMap). length ms) empty in
    subst (λ (n : ℕ). steps_left c.in-Ok.left (length c.fill.new.maps.items) < steps_left l.left n) (sym count)
    (filled_falls l.left c.in-Ok.left (length c.fill.new.maps.items) f.passed.forward f.some less f.passed.end)

pub loop-left-preserved-in_default : goal.loop-left-preserved-in_default
loop-left-preserved-in_default g c =
    let l = c.loop-left in
    let f = c.in-Ok.ensures in
    let none = subst (λ (m : Mesh). HasNone (planned_area c.args.plan.now c.args.output) m.size l.left.row c.in-Ok.left.row) l.invariant.mesh f.passed.none in
    record {
      rows = rows_passed c.args.plan.now c.args.output c.args.mesh.now.size l.left.row g.D.Depot.tells
          (g.D.Depot.content c.args.depot.now) c.args.buffer.now l.totals l.buffer
          (g.D.Depot.content l.depot) l.invariant.rows
          c.in-Ok.left.row c.requires.size f.passed.forward none;
      counts = subst (λ (m : Mesh). AreCountsFrom
          (planned_area c.args.plan.now c.args.output) m.size c.in-Ok.left.row c.fill.new.maps.items) l.invariant.mesh
          f.counts;
      batch = f.passed.batch;
      mesh = f.passed.mesh ∙ l.invariant.mesh;
      inside = f.inside;
      last = subst (λ (e : ℤ). c.args.rows.y1 ≤ℤ (e *ℤ c.args.mesh.now.size)) (sym f.passed.end) l.invariant.last;
      uncounted = l.invariant.uncounted;
    }

pub returns-clause-ok : goal.returns-clause-ok
returns-clause-ok g c =
    let l = c.loop-left in
    let fl : FitsSigned w64 c.loop-left.left.row = search rules in
    let fe : FitsSigned w64 c.loop-left.left.end = search rules in
    let test = simp to_z-of_z at c.loop-left-test.false in
    let ascending = l.invariant.batch.ascending in
    let here : l.left.end ≡ l.left.row = omega (arith, ints, test, ascending) in
    rows_put c.args.plan.now c.args.output c.args.mesh.now.size l.left.row g.D.Depot.tells
    (g.D.Depot.content c.args.depot.now) c.args.buffer.now l.totals l.buffer
    (g.D.Depot.content l.depot) l.invariant.rows
    c.args.rows c.requires.outside (subst (λ (r : ℤ). c.args.rows.y1 ≤ℤ (r *ℤ c.args.mesh.now.size)) here l.invariant.last)
