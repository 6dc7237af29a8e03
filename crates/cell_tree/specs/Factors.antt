-- The greatest factor of the chains of placements from a cell, or 17 where one is greater than 16; also of those alone
-- that end in a cell with a fixed shape.
use Rattle.std.specs.Prelude.{◌≡◌, ◌≤◌, ◌<◌, ◌*◌, ◌-◌, ◌⊎◌, ℕ, true, Bool, List, Option, Some, None, slice_get, get_or}
use Rattle.std.specs.Prelude.{take, length, IfSome, IsSomeAnd, min, nat_lt, if◌then◌else◌}
use Rattle.std.specs.Option.{option_map}
use Rattle.layout_model.specs.declared.cells.Placement.{Placement}
use Rattle.layout_model.specs.declared.cells.Cell.{Cell}
use Rattle.cell_tree.specs.Cells.{placements_at, PlacesAt, HasFixed}
use Rattle.cell_tree.specs.Chains.{Link, IsChain, IsReachable, chain_cells, chain_end, chain_factor}
use Rattle.cell_tree.specs.Orders.{IsAmong}
use Rattle.cell_tree.specs.declared.factors.Far.{Far}

-- a chain may end here
abbrev pub IsEnd : List Cell → Bool → ℕ → Type 0
IsEnd cells only_fixed n = only_fixed ≡ true → HasFixed cells n

pub record IsEndOfChain (cells : List Cell) (only_fixed : Bool) (n : ℕ) (far : Far) : Type 0 where
  pub links : List Link
  pub chain : IsChain cells n links
  pub end : chain_end n links ≡ far.cell
  pub ends : IsEnd cells only_fixed far.cell
  pub factor : far.factor ≡ min 17 (chain_factor links)

-- of the chains from a cell, the far one has the greatest factor; none where there is no chain
pub record IsFarthest (cells : List Cell) (only_fixed : Bool) (n : ℕ) (far : Option Far) : Type 0 where
  pub chain : IfSome far (IsEndOfChain cells only_fixed n)
  pub greatest : (links : List Link) → IsChain cells n links → IsEnd cells only_fixed (chain_end n links)
      → IsSomeAnd far (λ far. min 17 (chain_factor links) ≤ far.factor)

-- of each cell of the order
abbrev pub AreFarthest : List Cell → Bool → List ℕ → List (Option Far) → Type 0
AreFarthest cells only_fixed order farthest = (n : ℕ) → IsAmong order n → IsFarthest cells only_fixed n (get_or farthest n None)

-- of each reachable cell
abbrev pub AreFarthestBelow : List Cell → Bool → ℕ → List (Option Far) → Type 0
AreFarthestBelow cells only_fixed top farthest = (n : ℕ) → IsReachable cells top n → IsFarthest cells only_fixed n (get_or farthest n None)

-- the factor is at most 17
abbrev pub IsCapped : Option Far → Type 0
IsCapped far = IfSome far (λ far. far.factor ≤ 17)

abbrev pub placed_far : Placement → Far → Far
placed_far placement far = record { cell = far.cell; factor = min 17 (placement.orient.mag * far.factor) }

-- placement k of cell n leads to a cell from which a chain leads so far
pub record LeadsFar (cells : List Cell) (farthest : List (Option Far)) (n : ℕ) (far : Far) : Type 0 where
  pub number : ℕ
  pub placement : Placement
  pub target : ℕ
  pub from : Far
  pub placed : slice_get (placements_at cells n) number ≡ Some placement
  pub places : PlacesAt cells n number target
  pub there : get_or farthest target None ≡ Some from
  pub is : far ≡ placed_far placement from

-- the farthest chain of a cell by those of the cells that it places
pub record IsFarthestOf (cells : List Cell) (only_fixed : Bool) (farthest : List (Option Far)) (n : ℕ) (best : Option Far) : Type 0 where
  pub here : IsEnd cells only_fixed n → IsSomeAnd best (λ far. 1 ≤ far.factor)
  pub above : (far : Far) → LeadsFar cells farthest n far → IsSomeAnd best (λ best. far.factor ≤ best.factor)
  pub from : IfSome best (λ far. ((far.cell ≡ n) × (far.factor ≡ 1) × IsEnd cells only_fixed n) ⊎ LeadsFar cells farthest n far)

-- the one of the greater factor
abbrev pub better : Option Far → Option Far → Option Far
better None second = second
better (Some first) None = Some first
better (Some first) (Some second) = if nat_lt second.factor first.factor then Some first else Some second

-- the farthest chain by way of a placement
abbrev pub through : List (Option Far) → Placement → Option ℕ → Option Far
through farthest placement None = None
through farthest placement (Some m) = option_map (placed_far placement) (get_or farthest m None)

-- from the placed cell a chain leads on to a factor above 16
pub record GoesBeyond (farthest : List (Option Far)) (factor : ℕ) (placement : Placement) (target : Option ℕ) (far : Far) : Type 0 where
  pub from : Far
  pub places : target ≡ Some far.cell
  pub there : get_or farthest far.cell None ≡ Some from
  pub is : far.factor ≡ factor * placement.orient.mag
  pub beyond : 17 ≤ far.factor * from.factor

-- placement k leads to such a cell
pub record LeadsBeyond (placements : List Placement) (targets : List (Option ℕ)) (farthest : List (Option Far)) (factor : ℕ) (k : ℕ) (far : Far) : Type 0 where
  pub placement : Placement
  pub target : Option ℕ
  pub placed : slice_get placements k ≡ Some placement
  pub targeted : slice_get targets k ≡ Some target
  pub goes : GoesBeyond farthest factor placement target far

-- a chain from the top of a factor above 16, while it isn't without its last placement
pub record IsScaledChain (cells : List Cell) (top : ℕ) (numbers : List ℕ) (factor : ℕ) : Type 0 where
  pub links : List Link
  pub chain : IsChain cells top links
  pub numbers_are : numbers ≡ chain_cells top links
  pub factor_is : factor ≡ chain_factor links
  pub above : 16 < factor
  pub small : factor ≤ 256
  pub before : chain_factor (take (length links - 1) links) ≤ 16
