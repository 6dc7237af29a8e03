use Rattle.std.proofs.Common.{FitsSigned, w64, rules, ◌<◌, ◌<ℤ◌, ℤ, List, refl, sym, ap, subst, arith}
use Rattle.std.proofs.lemmas.Int.{ints, to_z-of_z}
use Rattle.std.specs.Int.{int_gap}
use Rattle.std.specs.List.{All}
use Rattle.half_grid.specs.JoinedLists.{IsInWindow}
use Rattle.half_grid.specs.Trapezoids.{Trapezoid}
use Rattle.density_report.specs.declared.strips.Mesh.{Mesh}
use Rattle.deck_plan.specs.Plans.{planned_area}
use Rattle.density_report.specs.Rows.{rows_of}
use Rattle.density_report.proofs.AreaLemmas.{none_yet, first_passed, passed_as, passed_both, portion_more}
use Rattle.density_report.proofs.StripLemmas.{gap_falls}
use Rattle.density_report.proofs.areas.skip.Goals as goal

pub loop-rest-init : goal.loop-rest-init
loop-rest-init c = record {
  passed = none_yet (planned_area c.args.plan.now c.args.output) c.args.left.now c.requires.left;
  portion = c.requires.portion;
}

pub lower-batch-requires-clause-left : goal.lower-batch-requires-clause-left
lower-batch-requires-clause-left c = c.loop-rest.invariant.passed.batch

pub lower-batch-requires-clause-portion : goal.lower-batch-requires-clause-portion
lower-batch-requires-clause-portion c =
    let l = c.loop-rest in
    portion_more c.args.left.now.mesh.size l.rest.mesh.size l.portion c.doubled-portion.result
    (ap (λ (m : Mesh). m.size) l.invariant.passed.mesh) l.invariant.portion
    c.doubled-portion.ensures.no_fewer c.doubled-portion.ensures.high

pub area_in-requires-clause-batch : goal.area_in-requires-clause-batch
area_in-requires-clause-batch c = c.lower-batch.ensures.batch

pub area_in-requires-clause-few : goal.area_in-requires-clause-few
area_in-requires-clause-few c = c.lower-batch.ensures.few

pub first_of-first-requires-clause-batch : goal.first_of-first-requires-clause-batch
first_of-first-requires-clause-batch c = c.lower-batch.ensures.batch

pub first_of-first-requires-clause-inside : goal.first_of-first-requires-clause-inside
first_of-first-requires-clause-inside c =
    subst (λ (ts : List Trapezoid). All (IsInWindow (rows_of c.lower-batch.result)) ts)
    (sym c.as_slice.ensures.value) c.in_ok-traps.ensures.joined.joined.in_window

pub returns-then-first-batch : goal.returns-then-first-batch
returns-then-first-batch c =
    let l = c.loop-rest in
    let e = c.first_of-first.ensures in
    let new = c.from_strip-rest.ensures in
    passed_both (planned_area c.args.plan.now c.args.output) c.args.left.now l.rest c.from_strip-rest.result l.invariant.passed
    (passed_as (planned_area c.args.plan.now c.args.output) l.rest c.from_strip-rest.result c.first_of-first.result.row new.mesh new.row new.end
    (first_passed c.args.plan.now c.args.output l.rest c.lower-batch.result c.in_ok-traps.traps.items
    c.as_slice.result.now c.first_of-first.result l.invariant.passed.batch c.lower-batch.ensures
    c.in_ok-traps.ensures c.as_slice.ensures.value e.size e.from e.up_to e.below))

pub loop-rest-preserved : goal.loop-rest-preserved
loop-rest-preserved c =
    let l = c.loop-rest in
    let e = c.first_of-first.ensures in
    let new = c.from_strip-rest.ensures in
    record {
      passed = passed_both (planned_area c.args.plan.now c.args.output) c.args.left.now l.rest c.from_strip-rest.result l.invariant.passed
          (passed_as (planned_area c.args.plan.now c.args.output) l.rest c.from_strip-rest.result c.first_of-first.result.row new.mesh new.row new.end
          (first_passed c.args.plan.now c.args.output l.rest c.lower-batch.result c.in_ok-traps.traps.items
          c.as_slice.result.now c.first_of-first.result l.invariant.passed.batch c.lower-batch.ensures
          c.in_ok-traps.ensures c.as_slice.ensures.value e.size e.from e.up_to e.below));
      portion = portion_more c.args.left.now.mesh.size c.args.left.now.mesh.size l.portion c.doubled-portion.result
          refl l.invariant.portion c.doubled-portion.ensures.no_fewer c.doubled-portion.ensures.high;
    }

pub loop-rest-smaller : goal.loop-rest-smaller
loop-rest-smaller c =
    let l = c.loop-rest in
    let row = c.lower-batch.ensures.row in
    let some = c.lower-batch.ensures.some in
    let new = c.from_strip-rest.ensures.row in
    let fr : FitsSigned w64 c.loop-rest.rest.row = search rules in
    let fe : FitsSigned w64 c.loop-rest.rest.end = search rules in
    let ff : FitsSigned w64 c.first_of-first.result.row = search rules in
    let fb : FitsSigned w64 c.lower-batch.result.end = search rules in
    let test = simp to_z-of_z at c.loop-rest-test.true in
    let less : c.loop-rest.rest.row <ℤ c.loop-rest.rest.end = omega (arith, ints, test) in
    let else = simp to_z-of_z at c.if-first-batch.false in
    let falls = gap_falls l.rest.row l.rest.end c.from_strip-rest.result.row (omega (arith, ints, row, some, new, else)) less in
    subst (λ (e : ℤ). int_gap c.from_strip-rest.result.row e < int_gap c.loop-rest.rest.row c.loop-rest.rest.end) (sym c.from_strip-rest.ensures.end) falls
