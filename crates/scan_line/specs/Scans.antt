-- What a scan is seen as: its edges, its window and its rule, the stop at which its next slab begins, the runs of the
-- slab that it stands at, and how many edges it has gone over.
use Rattle.std.specs.Prelude.{ℕ, ℤ, ◌≤◌, List, length}
use Rattle.half_grid.specs.Edges.{EdgeParts}
use Rattle.half_grid.specs.Windows.{RowRange}
use Rattle.scan_line.specs.Runs.{IsBalanced}
use Rattle.scan_line.specs.declared.runs.Run.{Run}

pub record ScanState (F : Type 0) : Type 0 where
  pub rule : F
  pub edges : List EdgeParts
  pub window : RowRange
  pub y : ℤ
  pub runs : List Run
  pub walked : ℕ

-- in each row of the window as many edges go up as down, and there is room for a run at each edge
pub record HasRoomAndBalance (edges : List EdgeParts) (window : RowRange) (room : ℕ) : Type 0 where
  pub balanced : IsBalanced edges window
  pub fits : length edges ≤ room
