use Rattle.std.proofs.Common.{◌∙◌, sym, ap}
use Rattle.std.specs.List.{list_any}
use Rattle.std.proofs.lemmas.List.Sorted.{list_any-IsPermutation}
use Rattle.layout_model.specs.Pairs.{same_pair}
use Rattle.layout_model.proofs.wanted.sorted_pairs.Goals as goal
use Rattle.layout_model.proofs.PairLemmas.{sorted_all}

pub returns-clause-same : goal.returns-clause-same
returns-clause-same c = λ pair.
    ap (list_any (same_pair pair)) (sym c.in_ok-sorted.ensures.items)
    ∙ list_any-IsPermutation (same_pair pair) c.in_ok-sorted.sorted.items c.sort.new.self.items c.in_ok-sort.ensures.permutation

pub returns-clause-order : goal.returns-clause-order
returns-clause-order c = sorted_all c.sort.new.self.items c.in_ok-sort.ensures.sorted
