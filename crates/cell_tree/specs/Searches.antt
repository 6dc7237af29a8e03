-- A search along placements from the top cell: each cell is new, or open, on the path that the search has come, or done.
use Rattle.std.specs.Prelude.{◌≡◌, ◌<◌, ◌+◌, ◌-◌, ◌⊎◌, ℕ, suc, List, [], ◌∷◌, Some, length, slice_get, All}
use Rattle.std.specs.List.{sum_by}
use Rattle.layout_model.specs.declared.cells.Cell.{Cell}
use Rattle.cell_tree.specs.Cells.{PlacesAt, PlacesCell, targets_at}
use Rattle.cell_tree.specs.Chains.{IsReachable, IsCycle}
use Rattle.cell_tree.specs.Orders.{IsAmong, IsBefore}
use Rattle.cell_tree.specs.declared.orders.Mark.{Mark}
use Rattle.cell_tree.specs.declared.orders.Mark.TheVariants.{New, Open, Done}
use Rattle.cell_tree.specs.declared.orders.Stop.{Stop}

-- the search has met the cell
abbrev pub IsMet : List Mark → ℕ → Type 0
IsMet marks n = (slice_get marks n ≡ Some Open) ⊎ (slice_get marks n ≡ Some Done)

-- stop i of the path is at this cell
abbrev pub IsStop : List Stop → ℕ → ℕ → Type 0
IsStop path i n = (stop : Stop) × (slice_get path i ≡ Some stop) × (stop.cell ≡ n)

abbrev pub IsOnPath : List Stop → ℕ → Type 0
IsOnPath path n = (i : ℕ) × IsStop path i n

pub record IsSearch (cells : List Cell) (top : ℕ) (marks : List Mark) (path : List Stop) (order cycle : List ℕ) : Type 0 where
  pub sized : length marks ≡ length cells
  pub top_met : IsMet marks top
  pub path_reachable : (i : ℕ) (stop : Stop) → slice_get path i ≡ Some stop → IsReachable cells top stop.cell
  pub path_onward : (i : ℕ) (stop next : Stop) → slice_get path i ≡ Some stop → slice_get path (suc i) ≡ Some next → PlacesCell cells stop.cell next.cell
  pub on_path : (n : ℕ) → slice_get marks n ≡ Some Open → IsOnPath path n
  pub is_done : (n : ℕ) → slice_get marks n ≡ Some Done → IsAmong order n
  pub order_reachable : (k n : ℕ) → slice_get order k ≡ Some n → IsReachable cells top n
  -- what was looked at was met, and is done, or is the next stop
  pub met : (i : ℕ) (stop : Stop) (k m : ℕ) → slice_get path i ≡ Some stop → k < stop.next → PlacesAt cells stop.cell k m → IsMet marks m
  pub left : cycle ≡ [] → (i : ℕ) (stop : Stop) (k m : ℕ) → slice_get path i ≡ Some stop → k < stop.next → PlacesAt cells stop.cell k m
      → (slice_get marks m ≡ Some Done) ⊎ IsStop path (suc i) m
  pub done_met : (j n k m : ℕ) → slice_get order j ≡ Some n → PlacesAt cells n k m → IsMet marks m
  pub upward : cycle ≡ [] → (j n k m : ℕ) → slice_get order j ≡ Some n → PlacesAt cells n k m → IsBefore order j m
  pub cyclic : (cycle ≡ []) ⊎ IsCycle cells top cycle

-- the work that is left: each placement of a new cell and each that is left at a stop is to be looked at, and each such
-- cell is to be met and left
abbrev pub new_work : List Mark → List Cell → ℕ
new_work [] cells = 0
new_work (mark ∷ marks) [] = 0
new_work (New ∷ marks) (cell ∷ cells) = (length cell.placements + 2) + new_work marks cells
new_work (Open ∷ marks) (cell ∷ cells) = new_work marks cells
new_work (Done ∷ marks) (cell ∷ cells) = new_work marks cells

abbrev pub stop_work : List Cell → Stop → ℕ
stop_work cells stop = (length (targets_at cells stop.cell) - stop.next) + 1

abbrev pub work_left : List Cell → List Mark → List Stop → ℕ
work_left cells marks path = new_work marks cells + sum_by (stop_work cells) path

-- what a search that has ended found
pub record IsFound (cells : List Cell) (top : ℕ) (order cycle : List ℕ) : Type 0 where
  pub within : All (λ n. n < length cells) order
  pub reachable : (k n : ℕ) → slice_get order k ≡ Some n → IsReachable cells top n
  pub all : (n : ℕ) → IsReachable cells top n → IsAmong order n
  pub upward : cycle ≡ [] → (j n k m : ℕ) → slice_get order j ≡ Some n → PlacesAt cells n k m → IsBefore order j m
  pub cyclic : (cycle ≡ []) ⊎ IsCycle cells top cycle
