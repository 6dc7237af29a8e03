use Rattle.std.proofs.Common.{◌≡◌, ℕ, ◌-◌, ◌*◌, ◌≤◌, List, [], ◌∷◌, ◌++◌, Option, Some, None, length, get_or, slice_get}
use Rattle.std.proofs.Common.{take, sym, ap, subst, ◌∙◌, false, arith}
use Rattle.std.proofs.lemmas.List.{length_push, length-map, take_at}
use Rattle.layout_model.specs.declared.cells.Placement.{Placement}
use Rattle.layout_model.specs.declared.cells.Cell.{Cell}
use Rattle.cell_tree.specs.Cells.{placements_at, targets_at}
use Rattle.cell_tree.specs.Chains.{Link, IsChain, chain_end, chain_factor, IsReachable}
use Rattle.cell_tree.specs.Factors.{IsFarthest, AreFarthestBelow, LeadsBeyond}
use Rattle.cell_tree.specs.declared.factors.Far.{Far}
use Rattle.cell_tree.proofs.NameLemmas.{targets_below}
use Rattle.cell_tree.proofs.ChainLemmas.{reach_more, places_cell, places_by, link_at, chain_pushed, cells_pushed, end_joined}
use Rattle.std.proofs.Math.Nat.{mul-le-mul}
use Rattle.layout_model.specs.Layouts.{IsPlacementOnGrid}
use Rattle.cell_tree.proofs.SlotLemmas.{All-slot}
use Rattle.cell_tree.proofs.FactorLemmas.{on_grid, leads_on, mags_on_grid, beyond_at, beyond_factor, factor_pushed}
use Rattle.cell_tree.proofs.factors.scaled_chain.Goals as goal

none_beyond : (cells : List Cell) (top cell factor : ℕ) (links : List Link) (farthest : List (Option Far))
    → ((n k : ℕ) (p : Placement) → slice_get (placements_at cells n) k ≡ Some p → 1 ≤ p.orient.mag)
    → AreFarthestBelow cells false top farthest → IsChain cells top links → chain_end top links ≡ cell → factor ≤ 16
    → (far : Far) → get_or farthest cell None ≡ Some far → 17 ≤ factor * far.factor
    → ((k : ℕ) (far : Far) → LeadsBeyond (placements_at cells cell) (targets_at cells cell) farthest factor k far → ⊥) → ⊥
none_beyond cells top cell factor links farthest mags are chain end small far here ahead none =
    let reach : IsReachable cells top cell = record { links = links; chain = chain; end = end } in
    let is : IsFarthest cells false cell (Some far) = subst (IsFarthest cells false cell) here (are cell reach) in
    let next = leads_on cells farthest cell factor far is small ahead
    (λ m k at. are m (reach_more cells top cell m reach (places_cell cells cell k m at))) (mags cell) in
    none next.0 next.1 next.2

pub unreachable-requires : goal.unreachable-requires
unreachable-requires c =
    let inv = c.loop-step.invariant in let cells = c.args.linked.now.cells in
    none_beyond cells c.args.top c.loop-step.cell c.loop-step.factor inv.0 c.args.farthest.now
    (mags_on_grid cells c.requires.grid.cells) c.requires.farthest inv.1 inv.3 inv.6 inv.8.0 inv.8.1 inv.8.2
    (λ k far leads. c.in-None.ensures.none k far
    (subst (λ t. LeadsBeyond c.placements-placements.result.now t c.args.farthest.now c.loop-step.factor k far) (sym c.targets.ensures.value)
    (subst (λ p. LeadsBeyond p (targets_at cells c.loop-step.cell) c.args.farthest.now c.loop-step.factor k far) (sym c.placements-placements.ensures) leads)))

pub unreachable-requires-2 : goal.unreachable-requires-2
unreachable-requires-2 c =
    let inv = c.loop-step.invariant in
    let low = c.requires.shallow inv.0 inv.1 in
    let long = length-map inv.0 (λ link. link.cell) in
    let at = inv.4 in
    omega arith

-- the chain with one more link
leads : (cells : List Cell) (cell factor : ℕ) (farthest : List (Option Far)) (placements : List Placement)
    (targets : List (Option ℕ)) (k : ℕ) (far : Far) → placements ≡ placements_at cells cell
    → targets ≡ targets_at cells cell
    → LeadsBeyond placements targets farthest factor k far → LeadsBeyond (placements_at cells cell) (targets_at cells cell) farthest factor k far
leads cells cell factor farthest placements targets k far p t l =
    subst (λ ts. LeadsBeyond (placements_at cells cell) ts farthest factor k far) t (subst (λ ps. LeadsBeyond ps targets farthest factor k far) p l)

pub returns-then-far-ge-TOO_GREAT : goal.returns-then-far-ge-TOO_GREAT
returns-then-far-ge-TOO_GREAT c =
    let inv = c.loop-step.invariant in let cells = c.args.linked.now.cells in let cell = c.loop-step.cell in let far = c.in-Some.far in
    let k = c.in-Some.ensures.some.0 in
    let l = leads cells cell c.loop-step.factor c.args.farthest.now c.placements-placements.result.now
    c.targets.result.now k far c.placements-placements.ensures c.targets.ensures.value c.in-Some.ensures.some.1
    in
    let at = beyond_at cells c.args.farthest.now cell c.loop-step.factor k far l in
    let link = link_at cells cell k far.cell at in
    let long = length_push inv.0 link in
    let front : take (length (inv.0 ++ link ∷ []) - 1) (inv.0 ++ link ∷ []) ≡ inv.0 = take_at inv.0 (link ∷ [])
    (length (inv.0 ++ link ∷ []) - 1) (omega arith) in
    record {
      links = inv.0 ++ link ∷ [];
      chain = chain_pushed cells c.args.top cell inv.0 link inv.1 inv.3 (places_by cells cell k far.cell at);
      numbers_are = c.in_ok-push-in-Some.ensures.items ∙ ap (λ ns. ns ++ far.cell ∷ []) inv.2 ∙ sym (cells_pushed c.args.top inv.0 link);
      factor_is = beyond_factor cells c.args.farthest.now cell c.loop-step.factor k far l at ∙ ap
          (λ f. f * link.placement.orient.mag) inv.5 ∙ sym (factor_pushed inv.0 link);
      above = omega (arith, c.if-far-ge-TOO_GREAT.true);
      small = (let m = (All-slot (placements_at cells cell) IsPlacementOnGrid
          (on_grid cells c.requires.grid.cells cell) k l.placement l.placed).orient.factor in let p =
          mul-le-mul inv.6 m in omega (arith, l.goes.is));
      before = subst (λ ls. chain_factor ls ≤ 16) (sym front) (subst (λ f. f ≤ 16) inv.5 inv.6);
    }

pub loop-step-preserved : goal.loop-step-preserved
loop-step-preserved c =
    let inv = c.loop-step.invariant in let cells = c.args.linked.now.cells in let cell = c.loop-step.cell in let far = c.in-Some.far in
    let k = c.in-Some.ensures.some.0 in
    let l = leads cells cell c.loop-step.factor c.args.farthest.now c.placements-placements.result.now
    c.targets.result.now k far c.placements-placements.ensures c.targets.ensures.value c.in-Some.ensures.some.1
    in
    let at = beyond_at cells c.args.farthest.now cell c.loop-step.factor k far l in
    let link = link_at cells cell k far.cell at in
    let long = length_push inv.0 link in (
      inv.0 ++ link ∷ [],
      chain_pushed cells c.args.top cell inv.0 link inv.1 inv.3 (places_by cells cell k far.cell at),
      c.in_ok-push-in-Some.ensures.items ∙ ap (λ ns. ns ++ far.cell ∷ []) inv.2 ∙ sym (cells_pushed c.args.top inv.0 link),
      end_joined c.args.top inv.0 (link ∷ []),
      omega (arith, inv.4),
      beyond_factor cells c.args.farthest.now cell c.loop-step.factor k far l at ∙ ap
          (λ f. f * link.placement.orient.mag) inv.5 ∙ sym (factor_pushed inv.0 link),
      omega (arith, c.if-far-ge-TOO_GREAT.false),
      targets_below cells cell k far.cell at,
      (l.goes.from, l.goes.there, l.goes.beyond),
    )
