use Rattle.std.proofs.Common.{◌≡◌, length, List, subst, sym, arith}
use Rattle.std.proofs.lemmas.Int.{ints}
use Rattle.std.proofs.lemmas.Bool.Decides.{nat_tests}
use Rattle.std.proofs.lemmas.List.{nil_from_length}
use Rattle.std.proofs.lemmas.Result.{IfOk-weaker}
use Rattle.std.specs.List.{All}
use Rattle.half_grid.specs.JoinedLists.{IsInWindow}
use Rattle.half_grid.specs.Trapezoids.{Trapezoid}
use Rattle.density_map.specs.Rows.{AreApart}
use Rattle.deck_plan.specs.Plans.{planned_area}
use Rattle.density_report.specs.Rows.{rows_of, AreMapsOf, IsFilled, IsPassed}
use Rattle.density_report.proofs.AreaLemmas.{all_passed, filled, passed_as, passed_both, passed_only}
use Rattle.density_report.proofs.MapLemmas.{counts_from}
use Rattle.density_report.proofs.RowSteps.{traps_apart}
use Rattle.density_report.proofs.areas.fill.Goals as goal

pub area_in-requires-clause-batch : goal.area_in-requires-clause-batch
area_in-requires-clause-batch c = c.lower-batch.ensures.batch

pub area_in-requires-clause-few : goal.area_in-requires-clause-few
area_in-requires-clause-few c = c.lower-batch.ensures.few

pub skip-requires-clause-left : goal.skip-requires-clause-left
skip-requires-clause-left c =
    let new = c.above.ensures in
    let few : length c.in_ok-traps.traps.items ≡ 0 = grind (arith, nat_tests) in
    let none = nil_from_length c.in_ok-traps.traps.items few in
    let p = passed_as (planned_area c.args.plan.now c.args.output) c.args.left.now c.above.result c.lower-batch.result.end new.mesh new.row new.end
    (all_passed c.args.plan.now c.args.output c.args.left.now c.lower-batch.result c.in_ok-traps.traps.items
    c.requires.left c.lower-batch.ensures c.in_ok-traps.ensures none) in
    p.batch

pub returns-then-is_empty : goal.returns-then-is_empty
returns-then-is_empty c =
    let some = c.lower-batch.ensures.some in
    let row = c.lower-batch.ensures.row in
    let new = c.above.ensures in
    let at = new.row in
    let few : length c.in_ok-traps.traps.items ≡ 0 = grind (arith, nat_tests) in
    let none = nil_from_length c.in_ok-traps.traps.items few in
    let p = passed_as (planned_area c.args.plan.now c.args.output) c.args.left.now c.above.result c.lower-batch.result.end new.mesh new.row new.end
    (all_passed c.args.plan.now c.args.output c.args.left.now c.lower-batch.result c.in_ok-traps.traps.items
    c.requires.left c.lower-batch.ensures c.in_ok-traps.ensures none) in
    IfOk-weaker c.skip.result (λ new. IsPassed (planned_area c.args.plan.now c.args.output) c.above.result new)
    (λ new. IsFilled (planned_area c.args.plan.now c.args.output) c.args.left.now new c.args.maps.now.items)
    (λ new q. (
    let forward = q.forward in
    passed_only (planned_area c.args.plan.now c.args.output) c.args.left.now new c.args.maps.now.items c.requires.empty (omega (arith, ints, forward, some, row, at))
    (passed_both (planned_area c.args.plan.now c.args.output) c.args.left.now c.above.result new p q)
    ))
    c.skip.ensures

pub put_maps-requires-clause-batch : goal.put_maps-requires-clause-batch
put_maps-requires-clause-batch c = c.lower-batch.ensures.batch

pub put_maps-requires-clause-apart : goal.put_maps-requires-clause-apart
put_maps-requires-clause-apart c =
    subst (λ (ts : List Trapezoid). AreApart ts) (sym c.as_slice.ensures.value)
    (traps_apart c.args.plan.now c.args.output (rows_of c.lower-batch.result) c.in_ok-traps.traps.items c.in_ok-traps.ensures.joined)

pub put_maps-requires-clause-inside : goal.put_maps-requires-clause-inside
put_maps-requires-clause-inside c =
    subst (λ (ts : List Trapezoid). All (IsInWindow (rows_of c.lower-batch.result)) ts)
    (sym c.as_slice.ensures.value) c.in_ok-traps.ensures.joined.joined.in_window

pub returns : goal.returns
returns c =
    let maps = subst (λ (ts : List Trapezoid).
    AreMapsOf c.lower-batch.result.mesh.size c.lower-batch.result.end ts c.put_maps.new.maps.items)
    c.as_slice.ensures.value c.in_ok-put_maps.ensures.maps in
    filled (planned_area c.args.plan.now c.args.output) c.args.left.now c.lower-batch.result c.put_maps.new.maps.items
    c.requires.left c.lower-batch.ensures c.in_ok-put_maps.ensures.count
    (counts_from c.args.plan.now c.args.output c.lower-batch.result c.in_ok-traps.traps.items c.put_maps.new.maps.items
    c.lower-batch.ensures.batch c.in_ok-traps.ensures maps c.in_ok-put_maps.ensures.count)
