use Rattle.std.proofs.Common.{rules, arith, refl, sym, pos, ◌-ℤ◌, FitsSigned, w64, to_z}
use Rattle.std.proofs.lemmas.Int.{to_z-of_z}
use Rattle.std.proofs.lemmas.Option.{slice_get_read}
use Rattle.field_split.proofs.LookLemmas.{IsBetween, member_at, lower, higher, wider, of_all, stripes_are, high_fits}
use Rattle.field_split.proofs.looks.stripes.Goals as goal

pub loop-shot-init : goal.loop-shot-init
loop-shot-init c =
    let low : FitsSigned w64 c.y0-low.result = search rules in
    let high : FitsSigned w64 c.y1-high.result = search rules in
    let member = member_at c.args.shots.now 0 c.in_ok-first.first.now (sym c.in_ok-first.ensures.value) in
    simp to_z-of_z (record {
      low = record { z = c.in_ok-first.first.now; member = member; shot = c.y0-low.ensures.shot; is = sym c.y0-low.ensures.value };
      high = record { z = c.in_ok-first.first.now; member = member; shot = c.y0-low.ensures.shot; is = sym c.y1-high.ensures.value };
      between = λ i z lt is. absurd (omega (arith, lt));
    })

pub loop-shot-preserved : goal.loop-shot-preserved
loop-shot-preserved c =
    let y0 : FitsSigned w64 c.y0.result = search rules in
    let y1 : FitsSigned w64 c.y1.result = search rules in
    let low : FitsSigned w64 c.min-low.result = search rules in
    let high : FitsSigned w64 c.max-high.result = search rules in
    let lesser = rw c.y0.ensures.value at simp to_z-of_z at c.min-low.ensures.value in
    let greater = rw c.y1.ensures.value at simp to_z-of_z at c.max-high.ensures.value in
    let at = slice_get_read c.args.shots.now _ c.loop-shot.shot-index c.shot-item.result refl c.loop-shot-test.true c.shot-item.is in
    let member = member_at c.args.shots.now c.loop-shot.shot-index c.shot-item.result at in
    let was = c.loop-shot.invariant in
    simp to_z-of_z (record {
      low = lower c.args.shots.now (to_z w64 c.loop-shot.low-bits) c.min-low.result c.shot-item.result was.low member c.y0.ensures.shot lesser;
      high = higher c.args.shots.now (to_z w64 c.loop-shot.high-bits) c.max-high.result c.shot-item.result was.high member c.y0.ensures.shot greater;
      between = wider c.args.shots.now c.loop-shot.shot-index (to_z w64 c.loop-shot.low-bits)
          (to_z w64 c.loop-shot.high-bits) c.min-low.result c.max-high.result c.shot-item.result at lesser greater
          was.between;
    })

pub overflow_sub-high : goal.overflow_sub-high
overflow_sub-high c = high_fits c.args.shots.now (to_z w64 c.loop-shot.high-bits) c.loop-shot.invariant.high

pub returns-clause-some : goal.returns-clause-some
returns-clause-some c =
    let first : FitsSigned w64 c.stripe_of.result = search rules in
    let last : FitsSigned w64 c.stripe_of-2.result = search rules in
    let was = c.loop-shot.invariant in
    let high : FitsSigned w64 (to_z w64 c.loop-shot.high-bits -ℤ pos 1) = high_fits c.args.shots.now (to_z w64 c.loop-shot.high-bits) was.high in
    let top = simp to_z-of_z at c.stripe_of-2.ensures in
    let all = of_all (IsBetween (to_z w64 c.loop-shot.low-bits) (to_z w64 c.loop-shot.high-bits)) c.args.shots.now
    c.loop-shot.shot-index c.loop-shot-test.false was.between in
    simp to_z-of_z (stripes_are c.args.fields.now (to_z w64 c.loop-shot.low-bits)
    (to_z w64 c.loop-shot.high-bits) c.stripe_of.result c.stripe_of-2.result c.args.shots.now was.low was.high all
    c.stripe_of.ensures top)
