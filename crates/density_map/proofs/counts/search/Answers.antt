use Rattle.std.proofs.Common.{◌+◌, ◌-◌, ◌/◌, arith}
use Rattle.density_map.proofs.PlaceLemmas.{less_up_to, not_less_from, middle_low, middle_high}
use Rattle.density_map.proofs.counts.search.Goals as goal

pub loop-low-preserved-then-is_less : goal.loop-low-preserved-then-is_less
loop-low-preserved-then-is_less c =
    let l = c.loop-low in
    let inside = middle_high l.low l.high c.loop-low-test.true in
    record {
      order = omega (arith, inside);
      inside = l.invariant.inside;
      before = λ k d below. less_up_to c.args.counts.now c.requires c.args.sought.now.column
          (l.low + (l.high - l.low) / 2) k d (c.is_less.ensures.less c.if-is_less.true d)
          (omega (arith, inside, l.invariant.inside)) below;
      after = l.invariant.after;
    }

pub loop-low-preserved : goal.loop-low-preserved
loop-low-preserved c =
    let l = c.loop-low in
    let inside = middle_high l.low l.high c.loop-low-test.true in
    record {
      order = middle_low l.low l.high;
      inside = omega (arith, inside, l.invariant.inside);
      before = l.invariant.before;
      after = λ k d from under. not_less_from c.args.counts.now c.requires c.args.sought.now.column
          (l.low + (l.high - l.low) / 2) k d (c.is_less.ensures.not_less c.if-is_less.false d) under from;
    }
