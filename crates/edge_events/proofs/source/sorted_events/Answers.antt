use Rattle.std.proofs.Common.{◌≡◌, ◌++◌, ◌∙◌, take, drop, length, rules}
use Rattle.std.proofs.Math.Seq.{take-append_seam}
use Rattle.std.proofs.lemmas.List.Sorted.{length_permutation}
use Rattle.edge_events.proofs.ByNumber.{events_sorted}
use Rattle.edge_events.proofs.source.sorted_events.Goals as goal

pub returns : goal.returns
returns c =
    let known = rw c.as_slice.ensures.value at c.know_parts.ensures.known in
    let short = rw c.as_slice.ensures.value at c.know_parts.ensures.short in
    let events = rw c.as_slice-2.ensures.value at c.in_ok-numbers.ensures.events in
    let sorted = c.sort_numbers.new.numbers in
    let there : c.as_mut_slice.result.now ≡ c.in_ok-numbers.numbers.items = search rules in
    let whole : length c.as_mut_slice.result.now ≡ c.in_ok-numbers.numbers.len = search rules in
    let len : length sorted ≡ c.in_ok-numbers.numbers.len = length_permutation _ _ c.in_ok-sort_numbers.ensures.permutation ∙ whole in
    let back : take c.in_ok-numbers.numbers.len (sorted ++ drop (length sorted) c.in_ok-numbers.numbers.items) ≡ sorted = rw (← len) (take-append_seam _ _) in
    let permutation = rw there at c.in_ok-sort_numbers.ensures.permutation in
    rw back (events_sorted _ _ _ known short events c.in_ok-numbers.ensures.numbers permutation c.in_ok-sort_numbers.ensures.ascend)
