use Rattle.std.proofs.Common.{sym, ◌∙◌, arith}
use Rattle.deck_text.proofs.PieceLemmas.{skip}
use Rattle.deck_text.proofs.tokens.after_blanks.Goals as goal

pub loop-start-preserved : goal.loop-start-preserved
loop-start-preserved c = record {
  within = omega arith;
  same = sym (skip c.args.line.now c.loop-start.start c.loop-start-test.true (sym c.is_blank.ensures ∙ c.if-is_blank.true)) ∙ c.loop-start.invariant.same;
}
