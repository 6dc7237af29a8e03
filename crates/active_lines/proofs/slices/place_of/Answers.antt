use Rattle.std.proofs.Common.{◌+◌, ◌-◌, ◌/◌, arith, add-one}
use Rattle.active_lines.proofs.Halving.{before_up_to, after_from, middle_low, middle_high}
use Rattle.active_lines.proofs.slices.place_of.Goals as goal

pub loop-low-preserved-then-is_before : goal.loop-low-preserved-then-is_before
loop-low-preserved-then-is_before c =
    let l = c.loop-low in
    let inside = middle_high l.low l.high c.loop-low-test.true in
    let less = c.is_before.ensures.before c.if-is_before.true in
    record {
      order = omega (arith, inside);
      inside = l.invariant.inside;
      before = rw add-one (before_up_to c.args.point.x c.args.point.y c.args.lines.now (l.low + (l.high - l.low) / 2) _ c.requires.ascend
          (omega (arith, inside, l.invariant.inside)) less);
      after = l.invariant.after;
    }

pub loop-low-preserved : goal.loop-low-preserved
loop-low-preserved c =
    let l = c.loop-low in
    let inside = middle_high l.low l.high c.loop-low-test.true in
    let more = c.is_before.ensures.not_before c.if-is_before.false in
    record {
      order = middle_low l.low l.high;
      inside = omega (arith, inside, l.invariant.inside);
      before = l.invariant.before;
      after = after_from c.args.point.x c.args.point.y c.args.lines.now (l.low + (l.high - l.low) / 2) _ c.requires.ascend
          (omega (arith, inside, l.invariant.inside)) more;
    }
