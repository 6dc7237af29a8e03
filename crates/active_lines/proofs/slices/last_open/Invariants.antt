use Rattle.std.proofs.Common.{◌≡◌, ◌++◌, List, All, length}
use Rattle.active_lines.specs.declared.item.ActiveLine.{ActiveLine}
use Rattle.active_lines.specs.ActiveLists.{IsShut}
use Rattle.active_lines.proofs.slices.last_open.Given as goal

abbrev pub invariant-loop-last : goal.invariant-loop-last
invariant-loop-last l = (passed : List ActiveLine) × (l.lines ≡ l.front ++ passed) × All IsShut passed

abbrev pub decreases-loop-last : goal.decreases-loop-last
decreases-loop-last l = length l.front
