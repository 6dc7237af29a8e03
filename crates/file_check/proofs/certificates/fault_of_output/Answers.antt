use Rattle.std.proofs.Common.{◌≡◌, ◌≤ℤ◌, ◌<ℤ◌, ◌-ℤ◌, refl, sym, ap, subst, ◌∙◌, IfSome, IfNone, arith, rules}
use Rattle.std.proofs.lemmas.Int.{ints}
use Rattle.std.proofs.lemmas.Result.{IfOk-weaker}
use Rattle.std.proofs.lemmas.Option.{IfSome_then}
use Rattle.half_grid.specs.Trapezoids.{CoversExactly}
use Rattle.half_grid.specs.Windows.{RowRange}
use Rattle.deck_text.specs.declared.deck.Deck.{Deck}
use Rattle.file_check.specs.Certificates.{IsFirstWrongTile}
use Rattle.file_check.specs.Fronts.{IsFrontAt, IsJudgedTo}
use Rattle.file_check.proofs.FaultLemmas.{none_weaker}
use Rattle.file_check.proofs.Covers.{first_front, is_band, fewer_rows, first_fault, first_none, last_fault, last_none}
use Rattle.file_check.proofs.certificates.fault_of_output.Goals as goal
use Rattle.deck_plan.specs.Plans.{planned_area}

pub returns-in-Some-clause-fault : goal.returns-in-Some-clause-fault
returns-in-Some-clause-fault g c =
    let at = first_front c.args.shots.now c.in_ok-sorted.sorted.items _ _ c.rows_below.result.y0 c.new.ensures.items
    c.as_slice.ensures.value c.in_ok-sorted.ensures.counts c.in_ok-sorted.ensures.ascend in
    let fault = rw c.in-Some.is at (c.in_ok-fault.ensures.fault c.args.shots.now at) in
    first_fault c.args.plan.now c.args.output c.args.shots.now c.rows-rows.result c.rows-rows.ensures.outside
    c.rows_below.result c.first_band-band.result.y0 c.rows_below.ensures c.first_band-band.ensures.below
    c.rows-rows.ensures.low c.requires.shots
    c.in-Some.fault.tile c.in-Some.fault.count c.in-Some.fault.wanted fault

pub loop-deck-init : goal.loop-deck-init
loop-deck-init g c =
    let at = first_front c.args.shots.now c.in_ok-sorted.sorted.items _ _ c.rows_below.result.y0 c.new.ensures.items
    c.as_slice.ensures.value c.in_ok-sorted.ensures.counts c.in_ok-sorted.ensures.ascend in
    let alike = rw c.in_default.is at (c.in_ok-fault.ensures.none c.args.shots.now at) in
    let top : c.rows_below.result.y1 ≡ c.first_band-band.result.y0 = ap (λ (w : RowRange). w.y1) c.rows_below.ensures in
    let below = c.first_band-band.ensures.below in
    let order = c.rows-rows.ensures.high in
    let window : c.rows-rows.result.y0 ≤ℤ c.rows-rows.result.y1 = search rules in
    record {
      areas = c.new-areas.ensures;
      judged = subst (λ y. IsJudgedTo c.args.plan.now c.args.output c.args.shots.now y c.fault_in.new.front) top
          (record {
            passed = c.in_ok-fault.ensures.front c.args.shots.now at;
            agrees = first_none c.args.plan.now c.args.output c.args.shots.now c.rows-rows.result c.rows-rows.ensures.outside
                c.rows_below.result c.first_band-band.result.y0 c.rows_below.ensures c.first_band-band.ensures.below
                c.rows-rows.ensures.low c.requires.shots alike;
          });
      low = c.first_band-band.ensures.low;
      high = omega (arith, ints, below, order, window);
      height = c.first_band-band.ensures.height;
      content = c.note.ensures.content;
      counts = c.note.ensures.counts;
    }

pub fault_of_band-requires-clause-judged : goal.fault_of_band-requires-clause-judged
fault_of_band-requires-clause-judged g c = (c.args.shots.now, c.loop-deck.invariant.judged)

pub fault_of_band-requires-clause-band : goal.fault_of_band-requires-clause-band
fault_of_band-requires-clause-band g c =
    let i = c.loop-deck.invariant in
    let sound = c.deck-deck.ensures.sound.2 in
    let same = ap (λ (d : Deck). d.band) c.deck-deck.ensures.value in
    is_band c.loop-deck.band _ i.low i.high i.height (rw same sound.band_low) (rw same sound.band_high)

pub returns-in-Some-found-clause-fault : goal.returns-in-Some-found-clause-fault
returns-in-Some-found-clause-fault g c = rw c.in-Some-found.is at (c.in_ok-found.ensures.fault c.args.shots.now c.loop-deck.invariant.judged)

pub next_band-band-requires-clause-some : goal.next_band-band-requires-clause-some
next_band-band-requires-clause-some g c =
    let sound = c.deck-deck.ensures.sound.2 in
    let same = ap (λ (d : Deck). d.band) c.deck-deck.ensures.value in
    let some = sound.band_low in
    omega (arith, ints, same, some)

pub loop-deck-smaller : goal.loop-deck-smaller
loop-deck-smaller g c =
    let i = c.loop-deck.invariant in
    let sound = c.deck-deck.ensures.sound.2 in
    let same = ap (λ (d : Deck). d.band) c.deck-deck.ensures.value in
    let some = sound.band_low in
    let height = i.height in
    let next : c.next_band-band.result.y0 ≡ c.loop-deck.band.y1 = ap (λ (w : RowRange). w.y0) c.next_band-band.ensures in
    let low = c.y0-in-loop-deck.ensures.value in
    let high = c.y1.ensures.value in
    let test : c.y0-in-loop-deck.result <ℤ c.y1.result = search rules in
    fewer_rows (c.rows-rows.result.y1 -ℤ c.next_band-band.result.y0) (c.rows-rows.result.y1 -ℤ c.loop-deck.band.y0)
    (omega (arith, ints, next, height, same, some)) (omega (arith, ints, low, high, test))

pub loop-deck-preserved : goal.loop-deck-preserved
loop-deck-preserved g c =
    let i = c.loop-deck.invariant in
    let sound = c.deck-deck.ensures.sound.2 in
    let same = ap (λ (d : Deck). d.band) c.deck-deck.ensures.value in
    let some = sound.band_low in
    let few = sound.band_high in
    let height = i.height in
    let low_is = i.low in
    let next : c.next_band-band.result.y0 ≡ c.loop-deck.band.y1 = ap (λ (w : RowRange). w.y0) c.next_band-band.ensures in
    let next_top = ap (λ (w : RowRange). w.y1) c.next_band-band.ensures in
    let low = c.y0-in-loop-deck.ensures.value in
    let high = c.y1.ensures.value in
    let test : c.y0-in-loop-deck.result <ℤ c.y1.result = search rules in
    let order = c.rows-rows.ensures.high in
    let judged = rw c.in_default-found.is at (c.in_ok-found.ensures.none c.args.shots.now i.judged) in
    record {
      areas = c.fault_of_band.ensures.areas;
      judged = subst (λ y. IsJudgedTo c.args.plan.now c.args.output c.args.shots.now y c.fault_of_band.new.front) (sym next) judged;
      low = omega (arith, ints, next, height, same, some, low_is);
      high = omega (arith, ints, next, height, same, few, low, high, test, order);
      height = next_top ∙ (rw next refl);
      content = c.fault_of_band.ensures.content ∙ i.content;
      counts = c.fault_of_band.ensures.counts ∙ i.counts;
    }

pub returns-clause-fault : goal.returns-clause-fault
returns-clause-fault g c =
    let i = c.loop-deck.invariant in
    let low = c.y0-in-loop-deck.ensures.value in
    let high = c.y1.ensures.value in
    let test : c.y1.result ≤ℤ c.y0-in-loop-deck.result = search rules in
    let over : c.rows-rows.result.y1 ≤ℤ c.loop-deck.band.y0 = omega (arith, ints, low, high, test) in
    let bottom : c.rows_from.result.y0 ≡ c.loop-deck.band.y0 = ap (λ (w : RowRange). w.y0) c.rows_from.ensures in
    let at = subst (λ y. IsFrontAt c.args.shots.now y c.loop-deck.front.meeting.items c.loop-deck.front.later.now) (sym bottom) i.judged.passed in
    IfOk-weaker c.fault_in-2.result _
    (λ answer. IfSome answer
    (λ fault. IsFirstWrongTile
    (planned_area c.args.plan.now c.args.output) c.args.shots.now fault.tile fault.count fault.wanted))
    (λ answer h. IfSome_then answer h
    (λ fault. last_fault c.args.plan.now c.args.output c.args.shots.now c.rows-rows.result
    c.rows-rows.ensures.outside c.rows_from.result c.loop-deck.band.y0 c.rows_from.ensures over
    c.rows-rows.ensures.high c.requires.shots i.judged.agrees fault.tile fault.count fault.wanted))
    (c.fault_in-2.ensures.fault c.args.shots.now at)

pub returns-clause-none : goal.returns-clause-none
returns-clause-none g c =
    let i = c.loop-deck.invariant in
    let low = c.y0-in-loop-deck.ensures.value in
    let high = c.y1.ensures.value in
    let test : c.y1.result ≤ℤ c.y0-in-loop-deck.result = search rules in
    let over : c.rows-rows.result.y1 ≤ℤ c.loop-deck.band.y0 = omega (arith, ints, low, high, test) in
    let bottom : c.rows_from.result.y0 ≡ c.loop-deck.band.y0 = ap (λ (w : RowRange). w.y0) c.rows_from.ensures in
    let at = subst (λ y. IsFrontAt c.args.shots.now y c.loop-deck.front.meeting.items c.loop-deck.front.later.now) (sym bottom) i.judged.passed in
    IfOk-weaker c.fault_in-2.result _ (λ answer. IfNone answer (CoversExactly c.args.shots.now (planned_area c.args.plan.now c.args.output)))
    (λ answer. none_weaker answer
    (last_none c.args.plan.now c.args.output c.args.shots.now c.rows-rows.result c.rows-rows.ensures.outside
    c.rows_from.result c.loop-deck.band.y0 c.rows_from.ensures over c.rows-rows.ensures.high c.requires.shots
    i.judged.agrees))
    (c.fault_in-2.ensures.none c.args.shots.now at)
