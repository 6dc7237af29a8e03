use Rattle.std.proofs.Common.{◌≡◌, ℕ, ◌+◌, ◌-◌, ◌<◌, ◌≤◌, List, [], ◌∷◌, ◌++◌, get_or, slice_get, Some, sym, ap, subst, ◌∙◌, arith}
use Rattle.std.proofs.lemmas.List.{length_push}
use Rattle.layout_model.specs.declared.cells.Cell.{Cell}
use Rattle.cell_tree.specs.Cells.{PlacesAt}
use Rattle.cell_tree.specs.Chains.{Link, IsChain, chain_end, IsReachable}
use Rattle.cell_tree.specs.Heights.{AreHeightsBelow}
use Rattle.cell_tree.proofs.NameLemmas.{targets_below}
use Rattle.cell_tree.proofs.ChainLemmas.{reach_more, places_cell, places_by, link_at, chain_pushed, cells_pushed, end_joined}
use Rattle.cell_tree.proofs.HeightLemmas.{next_tall}
use Rattle.cell_tree.proofs.heights.deep_chain.Goals as goal

none_tall : (cells : List Cell) (top cell : ℕ) (links : List Link) (heights : List ℕ) (done : ℕ)
    → IsChain cells top links → chain_end top links ≡ cell → AreHeightsBelow cells top heights
    → 1 ≤ done → done < 65 → 65 < get_or heights cell 0 + done → ((k m : ℕ) → PlacesAt cells cell k m → get_or heights m 0 < 65 - done) → ⊥
none_tall cells top cell links heights done chain end are first small tall none =
    let reach : IsReachable cells top cell = record { links = links; chain = chain; end = end } in
    let next = next_tall cells cell (get_or heights cell 0) (64 - done) heights (omega arith) (omega arith)
    (are cell reach) (λ m k at. are m (reach_more cells top cell m reach (places_cell cells cell k m at))) in
    let low = none next.0 next.1 next.2 in
    omega (arith, next.3)

pub unreachable-requires : goal.unreachable-requires
unreachable-requires c =
    let inv = c.loop-done.invariant in
    none_tall c.args.linked.now.cells c.args.top c.loop-done.cell inv.0 c.args.heights.now c.loop-done.done inv.1 inv.3
    c.requires.heights (omega arith) (omega arith) inv.5
    (λ k m at. c.in-None.ensures.none k m (subst (λ t. slice_get t k ≡ Some (Some m)) (sym c.targets.ensures.value) at))

pub loop-done-preserved : goal.loop-done-preserved
loop-done-preserved c =
    let cells = c.args.linked.now.cells in let top = c.args.top in let inv = c.loop-done.invariant in let next = c.in-Some.next in
    let some = c.in-Some.ensures.some in
    let k = some.0.0 in
    let at : PlacesAt cells c.loop-done.cell k next = subst (λ t. slice_get t k ≡ Some (Some next)) c.targets.ensures.value some.0.1 in
    let link : Link = link_at cells c.loop-done.cell k next at in
    let long = length_push inv.0 link in
    let tall = some.1 in (
      inv.0 ++ link ∷ [],
      chain_pushed cells top c.loop-done.cell inv.0 link inv.1 inv.3 (places_by cells c.loop-done.cell k next at),
      c.in_ok-push-in-Some.ensures.items ∙ ap (λ l. l ++ next ∷ []) inv.2 ∙ sym (cells_pushed top inv.0 link),
      end_joined top inv.0 (link ∷ []),
      omega (arith, inv.4),
      omega arith,
      targets_below cells c.loop-done.cell k next at,
    )
