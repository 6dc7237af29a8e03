use Rattle.std.proofs.Common.{ap, length, arith}
use Rattle.std.proofs.lemmas.Grind.{common_steps}
use Rattle.cell_tree.proofs.TableLemmas.{nothing_in_none, nothing_pushed}
use Rattle.cell_tree.proofs.hulls.empty_lists.Goals as goal

pub loop-n-init : goal.loop-n-init
loop-n-init c = record {
  long = ap length c.in_ok-lists.ensures.items;
  empty = nothing_in_none (λ list. list.items) c.in_ok-lists.lists.items c.in_ok-lists.ensures.items;
}

pub loop-n-preserved : goal.loop-n-preserved
loop-n-preserved c = record {
  long = grind (arith, common_steps);
  empty = nothing_pushed (λ list. list.items) c.loop-n.lists.items c.push.new.self.items c.new.result
      c.in_ok-push.ensures.items c.new.ensures.items c.loop-n.invariant.empty;
}
