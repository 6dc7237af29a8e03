use Rattle.std.proofs.Common.{◌≡◌, ◌∷◌, [], ◌++◌, length, take}
use Rattle.density_report.proofs.MapLemmas.{AreDoneTo}
use Rattle.density_report.proofs.maps.add_next.Given as goal

abbrev pub invariant-loop-at : goal.invariant-loop-at
invariant-loop-at l = record {
  count : length l.maps.items ≡ length l.fn.maps.items;
  done : AreDoneTo l.batch.mesh.size l.batch.end (take l.next l.traps) (take l.next l.traps ++ l.trap ∷ []) l.initial.at l.at l.maps.items;
}
