use Rattle.std.proofs.Common.{arith}
use Rattle.active_lines.proofs.Lasts.{last_before_line, last_before_start}
use Rattle.active_lines.proofs.looking.last_before.Goals as goal

pub returns-then-place-gt0 : goal.returns-then-place-gt0
returns-then-place-gt0 c =
    last_before_line c.args.chunks.now c.args.place.chunk c.args.place.at c.requires c.if-place-gt0.true
    c.index-chunks-place.result c.get.result c.index-chunks-place.is c.get.ensures.line

pub returns-then-place-gt0-2 : goal.returns-then-place-gt0-2
returns-then-place-gt0-2 c =
    last_before_start c.args.chunks.now c.args.place.chunk c.args.place.at c.requires
    (omega (arith, c.if-place-gt0.false)) c.if-place-gt0-2.true c.index-chunks-place-then-place-gt0-2.result
    c.last.result c.index-chunks-place-then-place-gt0-2.is c.last.ensures.line
