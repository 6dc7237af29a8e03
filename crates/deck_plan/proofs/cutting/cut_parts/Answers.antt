use Rattle.std.proofs.Common.{rules}
use Rattle.deck_plan.proofs.PieceLemmas.{none_cut}
use Rattle.deck_plan.proofs.cutting.cut_parts.Goals as goal

pub loop-cell-init : goal.loop-cell-init
loop-cell-init c = record {
  cut = none_cut c.args.tree.now.layout.cells c.args.tree.now.top c.in_ok-parts.parts c.in_ok-parts.ensures;
  few = search rules;
}
