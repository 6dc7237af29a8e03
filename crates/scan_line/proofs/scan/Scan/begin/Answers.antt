use Rattle.std.proofs.Common.{arith}
use Rattle.std.proofs.lemmas.List.Sorted.{IsPermutation-sym, length_permutation}
use Rattle.scan_line.proofs.Transport.{balanced_permuted}
use Rattle.scan_line.proofs.scan.Scan.begin.Goals as goal

pub invariant_of-result : goal.invariant_of-result
invariant_of-result g c =
    let sweep = c.in_ok-sweep.ensures in
    let same = length_permutation _ _ sweep.edges in
    let capacity = c.in_ok-runs.ensures.capacity in
    let items = c.args.edges.ok.0 in
    record {
      balanced = rw sweep.window (balanced_permuted _ _ _ (IsPermutation-sym _ _ sweep.edges) c.requires.balanced);
      fits = omega (arith, same, capacity, items, c.len.ensures);
    }
