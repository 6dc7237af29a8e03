-- The reachable cells from the leaves up.
use Rattle.std.specs.Prelude.{◌≡◌, ◌<◌, ℕ, List, Some, length, slice_get, All}
use Rattle.layout_model.specs.declared.cells.Cell.{Cell}
use Rattle.cell_tree.specs.Cells.{PlacesAt}
use Rattle.cell_tree.specs.Chains.{IsReachable}

abbrev pub IsAmong : List ℕ → ℕ → Type 0
IsAmong numbers n = (k : ℕ) × (slice_get numbers k ≡ Some n)

-- the number stands before place j
abbrev pub IsBefore : List ℕ → ℕ → ℕ → Type 0
IsBefore numbers j n = (k : ℕ) × (k < j) × (slice_get numbers k ≡ Some n)

-- each cell stands after all that it places
pub record IsUpward (cells : List Cell) (order : List ℕ) : Type 0 where
  pub within : All (λ n. n < length cells) order
  pub upward : (j n k m : ℕ) → slice_get order j ≡ Some n → PlacesAt cells n k m → IsBefore order j m

-- just the reachable cells, each after all that it places
pub record IsOrder (cells : List Cell) (top : ℕ) (order : List ℕ) : Type 0 where
  pub is_upward : IsUpward cells order
  pub reachable : (k n : ℕ) → slice_get order k ≡ Some n → IsReachable cells top n
  pub all : (n : ℕ) → IsReachable cells top n → IsAmong order n
