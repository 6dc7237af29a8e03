-- The order of pairs: by layer, and those of one layer by datatype. Lists of pairs in this order.
use Rattle.std.specs.Prelude.{◌≡◌, ◌==◌, ◌&&◌, Bool, List}
use Rattle.std.specs.List.{list_any}
use Rattle.std.specs.List.Sorted.{IsNonDecreasingBy}
use Rattle.std.specs.Ordering.{nat_cmp, ordering_then, ordering_index}
use Rattle.std.specs.declared.cmp.Ordering.{Ordering}
use Rattle.layout_model.specs.declared.pair.Pair.{Pair}

abbrev pub by_layer : Pair → Pair → Ordering
by_layer p q = ordering_then (nat_cmp p.layer q.layer) (nat_cmp p.datatype q.datatype)

abbrev pub same_pair : Pair → Pair → Bool
same_pair p q = (p.layer == q.layer) && (p.datatype == q.datatype)

-- the same pairs are in both lists
abbrev pub AreSamePairs : List Pair → List Pair → Type 0
AreSamePairs pairs others = (pair : Pair) → list_any (same_pair pair) pairs ≡ list_any (same_pair pair) others

-- the pairs ascend: to whichever pair they are compared, the answers rise
abbrev pub AreSorted : List Pair → Type 0
AreSorted pairs = (pair : Pair) → IsNonDecreasingBy (λ other. ordering_index (by_layer other pair)) pairs
