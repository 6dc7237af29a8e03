use Rattle.std.proofs.Common.{◌≡◌, ◌≤ℤ◌, ◌<ℤ◌, ◌-ℤ◌, refl, sym, ap, subst, ◌∙◌, arith, rules}
use Rattle.std.proofs.lemmas.Int.{ints}
use Rattle.half_grid.specs.Windows.{RowRange}
use Rattle.file_check.specs.Fronts.{IsJudgedTo}
use Rattle.file_check.proofs.Covers.{is_rest, fewer_rows, band_fault, band_none}
use Rattle.file_check.proofs.bands.fault_of_band.Goals as goal

pub loop-alloc-init : goal.loop-alloc-init
loop-alloc-init g c =
    let some = c.requires.band.is_band.has_rows in
    record {
      areas = c.requires.areas;
      judged = λ shots at. at;
      low = omega (arith, ints);
      high = omega (arith, ints, some);
      top = refl;
      content = refl;
      counts = refl;
    }

pub next_part-requires-clause-left : goal.next_part-requires-clause-left
next_part-requires-clause-left g c =
    let i = c.loop-alloc.invariant in
    let low = c.y0.ensures.value in
    let high = c.y1.ensures.value in
    let test : c.y0.result <ℤ c.y1.result = search rules in
    is_rest c.args.band c.loop-alloc.left c.requires.band i.low (omega (arith, ints, low, high, test)) i.top

pub fault_in-requires : goal.fault_in-requires
fault_in-requires g c = (c.loop-alloc.invariant.judged c.requires.judged.0 c.requires.judged.1).passed.ascend

pub returns-in-Some-clause-fault : goal.returns-in-Some-clause-fault
returns-in-Some-clause-fault g c = λ shots at.
    let p = c.args.plan.now in
    let k = c.args.output in
    let here = subst (λ y. IsJudgedTo p k shots y c.loop-alloc.front) (sym c.in_ok-part.ensures.from) (c.loop-alloc.invariant.judged shots at) in
    let fault = rw (c.in-Some.is, c.as_slice.ensures.value) at (c.in_ok-fault.ensures.fault shots here.passed) in
    band_fault p k shots c.in_ok-part.part.rows c.in_ok-part.part.traps.items here.agrees c.in_ok-part.ensures.joined.covers
    c.in-Some.fault.tile c.in-Some.fault.count c.in-Some.fault.wanted fault

pub loop-alloc-smaller : goal.loop-alloc-smaller
loop-alloc-smaller g c =
    let from = c.in_ok-part.ensures.from in
    let some = c.in_ok-part.ensures.some in
    let to = c.in_ok-part.ensures.to in
    let bottom : c.rows_above-left.result.y0 ≡ c.in_ok-part.part.rows.y1 = ap (λ (w : RowRange). w.y0) c.rows_above-left.ensures in
    let top : c.rows_above-left.result.y1 ≡ c.loop-alloc.left.y1 = ap (λ (w : RowRange). w.y1) c.rows_above-left.ensures in
    fewer_rows (c.rows_above-left.result.y1 -ℤ c.rows_above-left.result.y0) (c.loop-alloc.left.y1 -ℤ c.loop-alloc.left.y0)
    (omega (arith, ints, from, some, bottom, top)) (omega (arith, ints, from, some, to))

pub loop-alloc-preserved : goal.loop-alloc-preserved
loop-alloc-preserved g c =
    let p = c.args.plan.now in
    let k = c.args.output in
    let i = c.loop-alloc.invariant in
    let low = i.low in
    let from = c.in_ok-part.ensures.from in
    let some = c.in_ok-part.ensures.some in
    let to = c.in_ok-part.ensures.to in
    let bottom : c.rows_above-left.result.y0 ≡ c.in_ok-part.part.rows.y1 = ap (λ (w : RowRange). w.y0) c.rows_above-left.ensures in
    let top : c.rows_above-left.result.y1 ≡ c.loop-alloc.left.y1 = ap (λ (w : RowRange). w.y1) c.rows_above-left.ensures in
    record {
      areas = c.next_part.ensures.areas;
      judged = λ shots at.
          let here = subst (λ y. IsJudgedTo p k shots y c.loop-alloc.front) (sym from) (i.judged shots at) in
          let alike = rw (c.in_default.is, c.as_slice.ensures.value) at (c.in_ok-fault.ensures.none shots here.passed) in
          subst (λ y. IsJudgedTo p k shots y c.fault_in.new.front) (sym bottom)
          (record {
            passed = c.in_ok-fault.ensures.front shots here.passed;
            agrees = band_none p k shots c.in_ok-part.part.rows c.in_ok-part.part.traps.items here.agrees
                c.in_ok-part.ensures.joined.covers alike;
          });
      low = omega (arith, ints, low, from, some, bottom);
      high = omega (arith, ints, to, bottom, top);
      top = top ∙ i.top;
      content = c.note.ensures.content ∙ i.content;
      counts = c.note.ensures.counts ∙ i.counts;
    }

pub returns-clause-none : goal.returns-clause-none
returns-clause-none g c = λ shots at.
    let i = c.loop-alloc.invariant in
    let low = c.y0.ensures.value in
    let high = c.y1.ensures.value in
    let test : c.y1.result ≤ℤ c.y0.result = search rules in
    let order = i.high in
    let top = i.top in
    let end_of : c.loop-alloc.left.y0 ≡ c.args.band.y1 = omega (arith, ints, low, high, test, order, top) in
    subst (λ y. IsJudgedTo c.args.plan.now c.args.output shots y c.loop-alloc.front) end_of (i.judged shots at)
