-- Chains of placements.
use Rattle.std.proofs.Common.{◌≡◌, ℕ, zero, suc, ◌*◌, ◌<◌, List, [], ◌∷◌, ◌++◌, Some, length, take, get_or, slice_get}
use Rattle.std.proofs.Common.{refl, sym, ap, subst, ◌∙◌, arith, mul_assoc}
use Rattle.std.proofs.lemmas.List.{map_push}
use Rattle.layout_model.specs.declared.cells.Placement.{Placement}
use Rattle.layout_model.specs.declared.cells.Cell.{Cell}
use Rattle.cell_tree.specs.Cells.{Places, PlacesCell, PlacesAt, placements_at, cell_number, name_at}
use Rattle.cell_tree.specs.Chains.{Link, IsChain, chain_cells, chain_end, chain_factor, IsReachable}
use Rattle.cell_tree.proofs.SlotLemmas.{map_slot, slot_map}
use Rattle.cell_tree.proofs.NameLemmas.{number_within}

-- a placement by its number
pub record PlacesBy (cells : List Cell) (n k : ℕ) (m : ℕ) : Type 0 where
  pub placement : Placement
  pub here : slice_get (placements_at cells n) k ≡ Some placement
  pub target : cell_number cells placement.target ≡ Some m

pub placement_of : (cells : List Cell) (n k m : ℕ) → PlacesAt cells n k m → PlacesBy cells n k m
placement_of cells n k m at =
    let found = map_slot (λ p. cell_number cells p.target) (placements_at cells n) k (Some m) at in
    record { placement = found.0; here = found.1; target = found.2 }

pub places_by : (cells : List Cell) (n k m : ℕ) (at : PlacesAt cells n k m) → Places cells n (placement_of cells n k m at).placement m
places_by cells n k m at =
    let by = placement_of cells n k m at in
    record { number = k; placed = by.here; target = by.target }

pub places_cell : (cells : List Cell) (n k m : ℕ) → PlacesAt cells n k m → PlacesCell cells n m
places_cell cells n k m at = ((placement_of cells n k m at).placement, places_by cells n k m at)

pub places_at : (cells : List Cell) (n : ℕ) (placement : Placement) (m : ℕ) (places : Places cells n placement m) → PlacesAt cells n places.number m
places_at cells n placement m places = slot_map (λ p. cell_number cells p.target)
    (placements_at cells n) places.number placement places.placed ∙ ap Some places.target

pub placed_within : (cells : List Cell) (n : ℕ) (placement : Placement) (m : ℕ) → Places cells n placement m → m < length cells
placed_within cells n placement m places = number_within cells placement.target m places.target

-- ---- chains one after another

pub chain_joined : (cells : List Cell) (n : ℕ) (a b : List Link) → IsChain cells n a → IsChain cells (chain_end n a) b → IsChain cells n (a ++ b)
chain_joined cells n [] b first second = second
chain_joined cells n (link ∷ a) b first second = (first.0, chain_joined cells link.cell a b first.1 second)

pub end_joined : (n : ℕ) (a b : List Link) → chain_end n (a ++ b) ≡ chain_end (chain_end n a) b
end_joined n [] b = refl
end_joined n (link ∷ a) b = end_joined link.cell a b

pub factor_joined : (a b : List Link) → chain_factor (a ++ b) ≡ chain_factor a * chain_factor b
factor_joined [] b = omega arith
factor_joined (link ∷ a) b = ap (λ f. link.placement.orient.mag * f) (factor_joined a b) ∙ sym
    (mul_assoc link.placement.orient.mag (chain_factor a) (chain_factor b))

pub chain_take : (cells : List Cell) (n : ℕ) (k : ℕ) (links : List Link) → IsChain cells n links → IsChain cells n (take k links)
chain_take cells n zero links chain = tt
chain_take cells n (suc k) [] chain = tt
chain_take cells n (suc k) (link ∷ links) chain = (chain.0, chain_take cells link.cell k links chain.1)

pub end_within : (cells : List Cell) (n : ℕ) (links : List Link) → n < length cells → IsChain cells n links → chain_end n links < length cells
end_within cells n [] inside chain = inside
end_within cells n (link ∷ links) inside chain = end_within cells link.cell links (placed_within cells n link.placement link.cell chain.0) chain.1

pub reachable_within : (cells : List Cell) (top n : ℕ) → top < length cells → IsReachable cells top n → n < length cells
reachable_within cells top n inside reach = subst (λ m. m < length cells) reach.end (end_within cells top reach.links inside reach.chain)

pub top_reachable : (cells : List Cell) (top : ℕ) → IsReachable cells top top
top_reachable cells top = record { links = []; chain = tt; end = refl }

-- a chain from a reachable cell goes on from one that leads there
pub reach_along : (cells : List Cell) (top n : ℕ) (links : List Link) → IsReachable cells top n → IsChain cells n links
    → IsReachable cells top (chain_end n links)
reach_along cells top n links reach chain = record {
  links = reach.links ++ links;
  chain = chain_joined cells top reach.links links reach.chain (subst (λ m. IsChain cells m links) (sym reach.end) chain);
  end = end_joined top reach.links links ∙ ap (λ m. chain_end m links) reach.end;
}

pub reach_more : (cells : List Cell) (top n m : ℕ) → IsReachable cells top n → PlacesCell cells n m → IsReachable cells top m
reach_more cells top n m reach places = reach_along cells top n (record { placement = places.0; cell = m } ∷ []) reach (places.1, tt)

-- what holds at the top, and at each placed cell where it holds at the placing one, holds at each reachable cell
pub along : (P : ℕ → Type 0) (cells : List Cell) (n : ℕ) (links : List Link)
    → ((a b : ℕ) → P a → PlacesCell cells a b → P b) → P n → IsChain cells n links → P (chain_end n links)
along P cells n [] step here chain = here
along P cells n (link ∷ links) step here chain = along P cells link.cell links step (step n link.cell here (link.placement, chain.0)) chain.1

-- a chain with one more link
pub cells_pushed : (top : ℕ) (links : List Link) (link : Link) → chain_cells top (links ++ link ∷ []) ≡ chain_cells top links ++ link.cell ∷ []
cells_pushed top links link = ap (λ cells. top ∷ cells) (map_push (λ l. l.cell) links link)

pub chain_pushed : (cells : List Cell) (top n : ℕ) (links : List Link) (link : Link) → IsChain cells top links → chain_end top links ≡ n
    → Places cells n link.placement link.cell → IsChain cells top (links ++ link ∷ [])
chain_pushed cells top n links link chain end places =
    chain_joined cells top links (link ∷ []) chain (subst (λ m. Places cells m link.placement link.cell) (sym end) places, tt)

abbrev pub link_at : (cells : List Cell) (n k m : ℕ) → PlacesAt cells n k m → Link
link_at cells n k m at = record { placement = (placement_of cells n k m at).placement; cell = m }

-- the name that an index gives
pub name_read : (cells : List Cell) (n : ℕ) (d : Cell) → n < length cells → name_at cells n ≡ (get_or cells n d).name
name_read [] n d inside = absurd (omega arith)
name_read (cell ∷ cells) zero d inside = refl
name_read (cell ∷ cells) (suc n) d inside = name_read cells n d (omega arith)
