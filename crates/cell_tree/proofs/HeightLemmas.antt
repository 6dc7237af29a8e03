-- The height of a cell by those of the cells that it places, and what heights say of chains.
use Rattle.std.proofs.Common.{◌≡◌, ℕ, zero, suc, ◌<◌, ◌≤◌, List, [], ◌∷◌, length, take, get_or, refl, ap, inl, inr, arith}
use Rattle.std.proofs.lemmas.List.{length-take-le, length-map}
use Rattle.layout_model.specs.declared.cells.Cell.{Cell}
use Rattle.cell_tree.specs.Cells.{PlacesAt, targets_at}
use Rattle.cell_tree.specs.Chains.{Link, IsChain, chain_cells}
use Rattle.cell_tree.specs.Heights.{HasChain, IsHeight, IsHeightOf}
use Rattle.cell_tree.specs.Trees.{IsShallow}
use Rattle.cell_tree.proofs.ChainLemmas.{placement_of, places_by, places_at, chain_take}

-- a chain that begins with a placement
pub longer_chain : (cells : List Cell) (n k m count : ℕ) → PlacesAt cells n k m → HasChain cells m count → HasChain cells n (suc count)
longer_chain cells n k m count at chain =
    let by = placement_of cells n k m at in
    (record { placement = by.placement; cell = m } ∷ chain.0, (places_by cells n k m at, chain.1), ap suc chain.2)

module _ (cells : List Cell) (n h : ℕ) (heights : List ℕ) (of : IsHeightOf (targets_at cells n) heights h)
    (placed : (k m : ℕ) → PlacesAt cells n k m → IsHeight cells m (get_or heights m 0)) where
  low : (count : ℕ) → count < 65 → count < h → HasChain cells n count
  low zero small below = ([], tt, refl)
  low (suc count) small below = elim of.from [
    | inl flat ↦ absurd (omega arith)
    | inr next ↦ (let k = next.0 in let m = next.1 in let less = next.3 in
        longer_chain cells n k m count next.2 ((placed k m next.2 count (omega arith)).0 (omega arith)))
  ]

  high : (count : ℕ) (links : List Link) → count < 65 → IsChain cells n links → length links ≡ count → count < h
  high count [] small chain long = let some = of.some in omega arith
  high count (link ∷ links) small chain long =
      let at = places_at cells n link.placement link.cell chain.0 in
      let there : length links < get_or heights link.cell 0 = (placed chain.0.number link.cell at (length links) (omega arith)).1 (links, chain.1, refl) in
      let above = of.above chain.0.number link.cell at in
      omega arith

  pub is_height : IsHeight cells n h
  is_height count small = (low count small, λ chain. high count chain.0 small chain.1 chain.2)

pub shallow : (cells : List Cell) (top h : ℕ) → IsHeight cells top h → h < 65 → IsShallow cells top
shallow cells top h height less links chain = by_length (length links) refl
  where
    cut : 64 ≤ length links → ⊥
    cut long = let deep = (height 64 (omega arith)).1 (take 64 links, chain_take cells top 64 links chain, length-take-le 64 links long) in omega arith

    by_length : (count : ℕ) → length links ≡ count → length (chain_cells top links) ≤ 64
    by_length count e = let same = length-map links (λ link. link.cell) in omega (arith, cut)

-- a tall cell places one that is one less tall
pub next_tall : (cells : List Cell) (n height count : ℕ) (heights : List ℕ) → suc count < 65 → suc count < height → IsHeight cells n height
    → ((m : ℕ) → (k : ℕ) → PlacesAt cells n k m → IsHeight cells m (get_or heights m 0))
    → (k : ℕ) × (m : ℕ) × PlacesAt cells n k m × (count < get_or heights m 0)
next_tall cells n height count heights small tall is placed = by ((is (suc count) small).0 tall)
  where
    by : HasChain cells n (suc count) → (k : ℕ) × (m : ℕ) × PlacesAt cells n k m × (count < get_or heights m 0)
    by chain = go chain.0 chain.1 chain.2
      where
        go : (links : List Link) → IsChain cells n links → length links ≡ suc count → (k : ℕ) × (m : ℕ) × PlacesAt cells n k m × (count < get_or heights m 0)
        go [] chain long = absurd (omega arith)
        go (link ∷ links) chain long =
            let at = places_at cells n link.placement link.cell chain.0 in
            (chain.0.number, link.cell, at, (placed link.cell chain.0.number at count (omega arith)).1 (links, chain.1, omega arith))
