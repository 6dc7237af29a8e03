use Rattle.std.proofs.Common.{take, List, ◌++◌}
use Rattle.half_grid.specs.Edges.{EdgeParts}
use Rattle.column_sweep.specs.Parts.{AreSplit}
use Rattle.column_sweep.proofs.parting.split.Given as goal

abbrev pub invariant-loop-edge : goal.invariant-loop-edge
invariant-loop-edge l = (before : List EdgeParts)
    → AreSplit l.cut.x before l.initial.parts.own.items l.initial.parts.beyond.items
    → AreSplit l.cut.x (before ++ take l.edge-index l.edges) l.parts.own.items l.parts.beyond.items
