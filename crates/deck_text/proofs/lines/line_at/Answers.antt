use Rattle.deck_text.proofs.LineLemmas.{line_last, line_first}
use Rattle.std.proofs.Common.{arith}
use Rattle.deck_text.proofs.lines.line_at.Goals as goal

pub returns-then-end-bytes-clause-line : goal.returns-then-end-bytes-clause-line
returns-then-end-bytes-clause-line c = line_last c.args.bytes.now c.args.at c.line_end-end.result c.requires c.if-end-bytes.true c.line_end-end.ensures.line

pub returns-clause-line : goal.returns-clause-line
returns-clause-line c =
    line_first c.args.bytes.now c.without_return.result.now c.args.at c.line_end-end.result
    c.line_end-end.ensures.forward (omega arith)
    (c.line_end-end.ensures.stops (omega arith)) c.line_end-end.ensures.line c.without_return.ensures
