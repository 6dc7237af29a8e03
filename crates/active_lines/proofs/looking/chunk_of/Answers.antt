use Rattle.std.proofs.Common.{◌+◌, ◌-◌, ◌/◌, ◌<◌, length, List, ap, sym, ◌∙◌, arith}
use Rattle.active_lines.specs.declared.item.ActiveLine.{ActiveLine}
use Rattle.active_lines.specs.ActiveLists.{last_of}
use Rattle.active_lines.specs.Chunked.{chunk_at}
use Rattle.active_lines.proofs.Halving.{middle_low, middle_high}
use Rattle.active_lines.proofs.Places.{chunk_read}
use Rattle.active_lines.proofs.Points.{chunks_before, ends_not}
use Rattle.active_lines.proofs.looking.chunk_of.Goals as goal

pub loop-low-preserved-then-is_before : goal.loop-low-preserved-then-is_before
loop-low-preserved-then-is_before c =
    let l = c.loop-low in
    let chunks = c.args.chunks.now in
    let middle = l.low + (l.high - l.low) / 2 in
    let less = middle_high l.low l.high c.loop-low-test.true in
    let inside : middle < length chunks = omega (arith, less, l.invariant.inside) in
    let last = sym (ap (λ (lines : List ActiveLine). last_of lines)
    (chunk_read chunks middle c.index-chunks-middle.result inside c.index-chunks-middle.is)) ∙ c.last.ensures.line in
    record {
      order = omega (arith, less);
      inside = l.invariant.inside;
      before = chunks_before chunks c.args.point.y c.requires.full c.requires.ascend c.args.point.x middle c.last.result inside last
          (c.is_before.ensures.before c.if-is_before.true);
      at = l.invariant.at;
    }

pub loop-low-preserved : goal.loop-low-preserved
loop-low-preserved c =
    let l = c.loop-low in
    let chunks = c.args.chunks.now in
    let middle = l.low + (l.high - l.low) / 2 in
    let less = middle_high l.low l.high c.loop-low-test.true in
    let inside : middle < length chunks = omega (arith, less, l.invariant.inside) in
    let last = sym (ap (λ (lines : List ActiveLine). last_of lines)
    (chunk_read chunks middle c.index-chunks-middle.result inside c.index-chunks-middle.is)) ∙ c.last.ensures.line in
    record {
      order = middle_low l.low l.high;
      inside = omega (arith, less, l.invariant.inside);
      before = l.invariant.before;
      at = λ _. ends_not c.args.point.x c.args.point.y (chunk_at chunks middle) c.last.result last (c.is_before.ensures.not_before c.if-is_before.false);
    }
