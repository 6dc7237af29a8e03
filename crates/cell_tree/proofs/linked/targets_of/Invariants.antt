use Rattle.std.proofs.Common.{◌≡◌, take}
use Rattle.cell_tree.specs.Linking.{pointed, places_among}
use Rattle.cell_tree.proofs.linked.targets_of.Given as goal

abbrev pub invariant-loop-placement : goal.invariant-loop-placement
invariant-loop-placement l = l.targets.items ≡ places_among (pointed l.names.keys) (take l.placement-index l.placements)
