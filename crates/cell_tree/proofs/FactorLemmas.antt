-- The greatest factor of chains from a cell by those of the cells that it places.
use Rattle.std.proofs.Common.{◌≡◌, ◌⊎◌, ℕ, zero, suc, ◌+◌, ◌-◌, ◌*◌, ◌<◌, ◌≤◌, Bool, true, false, List, [], ◌∷◌, ◌++◌}
use Rattle.std.proofs.Common.{Option, Some, None, IfSome, IsSomeAnd, All, get_or, slice_get, min, nat_lt, if◌then◌else◌}
use Rattle.std.proofs.Common.{refl, sym, ap, subst, ◌∙◌, inl, inr, arith, mul_assoc}
use Rattle.std.proofs.lemmas.Bool.Decides.{nat_tests}
use Rattle.std.proofs.lemmas.Bool.{false≢true}
use Rattle.std.proofs.Math.Nat.{mul-le-mul_left, mul-le-mul_right}
use Rattle.std.specs.Option.{option_map}
use Rattle.std.proofs.lemmas.List.Elements.{All-head, All-tail}
use Rattle.layout_model.specs.Layouts.{IsCellOnGrid, IsPlacementOnGrid}
use Rattle.layout_model.specs.declared.cells.Placement.{Placement}
use Rattle.layout_model.specs.declared.cells.Cell.{Cell}
use Rattle.cell_tree.specs.Cells.{PlacesAt, placements_at, targets_at}
use Rattle.cell_tree.specs.Chains.{Link, IsChain, chain_end, chain_factor}
use Rattle.cell_tree.specs.Trees.{IsMild, KeepsFixed}
use Rattle.cell_tree.specs.Factors.{IsEnd, IsEndOfChain, IsFarthest, IsCapped, placed_far, LeadsFar, IsFarthestOf, GoesBeyond, LeadsBeyond, better, through}
use Rattle.cell_tree.specs.declared.factors.Far.{Far}
use Rattle.cell_tree.proofs.SlotLemmas.{one_slot, All-slot}
use Rattle.cell_tree.proofs.SearchLemmas.{apart}
use Rattle.cell_tree.proofs.ChainLemmas.{placement_of, places_by, places_at, link_at, factor_joined}

by_test : (P : Option Far → Type 0) (first second : Far) → P (Some first) → P (Some second) → P (better (Some first) (Some second))
by_test P first second a b = elim (nat_lt second.factor first.factor) as (λ t. P (if t then Some first else Some second)) [ true ↦ a | false ↦ b ]

-- what holds of both holds of the better
pub better_one : (P : Far → Type 0) (first second : Option Far) → IfSome first P → IfSome second P → IfSome (better first second) P
better_one P None second a b = b
better_one P (Some first) None a b = a
better_one P (Some first) (Some second) a b = by_test (λ far. IfSome far P) first second a b

less_when : (a b : ℕ) → nat_lt b a ≡ true → b < a
less_when a b is = grind (arith, nat_tests)

less_unless : (a b : ℕ) → nat_lt b a ≡ false → a ≤ b
less_unless a b is = grind (arith, nat_tests)

at_least_by : (t : Bool) (first second : Far) (v : ℕ) → nat_lt second.factor first.factor ≡ t → (v ≤ first.factor) ⊎ (v ≤ second.factor)
    → IsSomeAnd (if t then Some first else Some second) (λ far. v ≤ far.factor)
at_least_by true first second v is low = let less = less_when first.factor second.factor is in elim low [ inl a ↦ a | inr b ↦ omega arith ]
at_least_by false first second v is low = let more = less_unless first.factor second.factor is in elim low [ inl a ↦ omega arith | inr b ↦ b ]

-- the better is at least as great as each
pub better_first : (v : ℕ) (first second : Option Far) → IsSomeAnd first (λ far. v ≤ far.factor) → IsSomeAnd (better first second) (λ far. v ≤ far.factor)
better_first v None second a = absurd a
better_first v (Some first) None a = a
better_first v (Some first) (Some second) a = at_least_by (nat_lt second.factor first.factor) first second v refl (inl a)

pub better_second : (v : ℕ) (first second : Option Far) → IsSomeAnd second (λ far. v ≤ far.factor) → IsSomeAnd (better first second) (λ far. v ≤ far.factor)
better_second v None second b = b
better_second v (Some first) None b = absurd b
better_second v (Some first) (Some second) b = at_least_by (nat_lt second.factor first.factor) first second v refl (inr b)

-- the farthest by way of the first placements
abbrev pub SoFar : List Cell → Bool → List (Option Far) → ℕ → ℕ → Option Far → Type 0
SoFar cells only_fixed farthest n k best = IsCapped best
    × (IsEnd cells only_fixed n → IsSomeAnd best (λ far. 1 ≤ far.factor))
    × ((far : Far) (leads : LeadsFar cells farthest n far) → leads.number < k → IsSomeAnd best (λ best. far.factor ≤ best.factor))
    × IfSome best (λ far. ((far.cell ≡ n) × (far.factor ≡ 1) × IsEnd cells only_fixed n) ⊎ LeadsFar cells farthest n far)

through_capped : (farthest : List (Option Far)) (placement : Placement) (target : Option ℕ) → IsCapped (through farthest placement target)
through_capped farthest placement None = tt
through_capped farthest placement (Some m) = by (get_or farthest m None)
  where
    by : (o : Option Far) → IsCapped (option_map (placed_far placement) o)
    by None = tt
    by (Some far) = omega arith

through_leads : (cells : List Cell) (farthest : List (Option Far)) (n k : ℕ) (placement : Placement)
    (target : Option ℕ) → slice_get (placements_at cells n) k ≡ Some placement
    → slice_get (targets_at cells n) k ≡ Some target → IfSome (through farthest placement target) (λ far. LeadsFar cells farthest n far)
through_leads cells farthest n k placement None placed places = tt
through_leads cells farthest n k placement (Some m) placed places = by (get_or farthest m None) refl
  where
    by : (o : Option Far) → get_or farthest m None ≡ o → IfSome (option_map (placed_far placement) o) (λ far. LeadsFar cells farthest n far)
    by None e = tt
    by (Some from) e = record { number = k; placement = placement; target = m; from = from; placed = placed; places = places; there = e; is = refl }

leads_through : (cells : List Cell) (farthest : List (Option Far)) (n k : ℕ) (placement : Placement)
    (target : Option ℕ) (far : Far) (leads : LeadsFar cells farthest n far)
    → slice_get (placements_at cells n) k ≡ Some placement → slice_get (targets_at cells n) k ≡ Some target
    → leads.number ≡ k → IsSomeAnd (through farthest placement target) (λ best. far.factor ≤ best.factor)
leads_through cells farthest n k placement target far leads placed places e =
    let p : leads.placement ≡ placement = one_slot (placements_at cells n) k leads.placement placement
    (subst (λ j. slice_get (placements_at cells n) j ≡ Some leads.placement) e leads.placed) placed in
    let t : Some leads.target ≡ target = one_slot (targets_at cells n) k (Some leads.target) target
    (subst (λ j. slice_get (targets_at cells n) j ≡ Some (Some leads.target)) e leads.places) places in
    let start : IsSomeAnd (through farthest leads.placement (Some leads.target)) (λ best. far.factor ≤ best.factor) =
    subst (λ o. IsSomeAnd (option_map (placed_far leads.placement) o) (λ best. far.factor ≤ best.factor))
    (sym leads.there) (let same = ap (λ f. f.factor) leads.is in omega arith) in
    subst (λ x. IsSomeAnd (through farthest placement x) (λ best. far.factor ≤ best.factor)) t
    (subst (λ x. IsSomeAnd (through farthest x (Some leads.target)) (λ best. far.factor ≤ best.factor)) p start)

pub far_more : (cells : List Cell) (only_fixed : Bool) (farthest : List (Option Far)) (n k : ℕ) (best : Option Far) (placement : Placement) (target : Option ℕ)
    → SoFar cells only_fixed farthest n k best → slice_get (placements_at cells n) k ≡ Some placement → slice_get (targets_at cells n) k ≡ Some target
    → SoFar cells only_fixed farthest n (k + 1) (better best (through farthest placement target))
far_more cells only_fixed farthest n k best placement target so placed places =
    let next = through farthest placement target in (
      better_one (λ far. far.factor ≤ 17) best (through farthest placement target) so.0 (through_capped farthest placement target),
      λ end. better_first 1 best (through farthest placement target) (so.1 end),
      λ far leads below. elim (apart leads.number k) [
        | inl e ↦ better_second far.factor best (through farthest placement target)
            (leads_through cells farthest n k placement target far leads placed places e)
        | inr differs ↦ better_first far.factor best (through farthest placement target) (so.2 far leads (omega arith))
      ],
      better_one (λ far. ((far.cell ≡ n) × (far.factor ≡ 1) × IsEnd cells only_fixed n)
          ⊎ LeadsFar cells farthest n far) best (through farthest placement target) so.3
          (some_right (through farthest placement target)
          (λ far. (far.cell ≡ n) × (far.factor ≡ 1) × IsEnd cells only_fixed n)
          (λ far. LeadsFar cells farthest n far) (through_leads cells farthest n k placement target placed places)),
    )
  where
    some_right : (o : Option Far) (P Q : Far → Type 0) → IfSome o Q → IfSome o (λ far. P far ⊎ Q far)
    some_right None P Q h = tt
    some_right (Some far) P Q h = inr h

-- a product, capped before and after
capped_product : (mag f : ℕ) → 1 ≤ mag → min 17 (mag * min 17 f) ≡ min 17 (mag * f)
capped_product mag f some = elim (small f) [
  | inl less ↦ (let e : min 17 f ≡ f = omega arith in ap (λ g. min 17 (mag * g)) e)
  | inr more ↦ (let e : min 17 f ≡ 17 = omega arith in let a = mul-le-mul_left mag more in let b = mul-le-mul_right 17 some in
      ap (λ g. min 17 (mag * g)) e ∙ (omega arith))
]
  where
    small : (f : ℕ) → (f ≤ 17) ⊎ (17 ≤ f)
    small f = elim (apart (f - 17) 0) [ inl e ↦ inl (omega arith) | inr e ↦ inr (omega arith) ]

at_end : (cells : List Cell) (only_fixed : Bool) (farthest : List (Option Far)) (n : ℕ) (far : Far) →
    ((m : ℕ) (k : ℕ) → PlacesAt cells n k m → IsFarthest cells only_fixed m (get_or farthest m None))
    → ((k : ℕ) (p : Placement) → slice_get (placements_at cells n) k ≡ Some p → 1 ≤ p.orient.mag)
    → LeadsFar cells farthest n far → IsEndOfChain cells only_fixed n far
at_end cells only_fixed farthest n far known mags leads =
    let there : IsEndOfChain cells only_fixed leads.target leads.from = subst
    (λ o. IfSome o (IsEndOfChain cells only_fixed leads.target)) leads.there
    (known leads.target leads.number leads.places).chain in
    let by = placement_of cells n leads.number leads.target leads.places in
    let p : by.placement ≡ leads.placement = one_slot (placements_at cells n) leads.number by.placement leads.placement by.here leads.placed in
    let cell : far.cell ≡ leads.from.cell = ap (λ f. f.cell) leads.is in
    record {
      links = link_at cells n leads.number leads.target leads.places ∷ there.links;
      chain = (places_by cells n leads.number leads.target leads.places, there.chain);
      end = there.end ∙ sym cell;
      ends = subst (IsEnd cells only_fixed) (sym cell) there.ends;
      factor = ap (λ f. f.factor) leads.is ∙ ap (λ g. min 17 (leads.placement.orient.mag * g)) there.factor
          ∙ capped_product leads.placement.orient.mag (chain_factor there.links) (mags leads.number leads.placement leads.placed)
          ∙ ap (λ q. min 17 (q.orient.mag * chain_factor there.links)) (sym p);
    }

some_and : (o : Option Far) (v : ℕ) → IsSomeAnd o (λ far. v ≤ far.factor) → (far : Far) × (o ≡ Some far) × (v ≤ far.factor)
some_and None v h = absurd h
some_and (Some far) v h = (far, refl, h)

pub is_farthest : (cells : List Cell) (only_fixed : Bool) (farthest : List (Option Far)) (n : ℕ) (best : Option Far)
    → IsFarthestOf cells only_fixed farthest n best
    → ((m : ℕ) (k : ℕ) → PlacesAt cells n k m → IsFarthest cells only_fixed m (get_or farthest m None))
    → ((k : ℕ) (p : Placement) → slice_get (placements_at cells n) k ≡ Some p → 1 ≤ p.orient.mag)
    → IsFarthest cells only_fixed n best
is_farthest cells only_fixed farthest n best of known mags = record { chain = ends best of.from; greatest = greatest }
  where
    ends : (o : Option Far)
        → IfSome o (λ far. ((far.cell ≡ n) × (far.factor ≡ 1) × IsEnd cells only_fixed n)
        ⊎ LeadsFar cells farthest n far) → IfSome o (IsEndOfChain cells only_fixed n)
    ends None h = tt
    ends (Some far) h = elim h [
      | inl here ↦ record { links = []; chain = tt; end = sym here.0; ends = subst (IsEnd cells only_fixed) (sym here.0) here.2; factor = here.1 }
      | inr leads ↦ at_end cells only_fixed farthest n far known mags leads
    ]

    greatest : (links : List Link) → IsChain cells n links → IsEnd cells only_fixed (chain_end n links)
        → IsSomeAnd best (λ far. min 17 (chain_factor links) ≤ far.factor)
    greatest [] chain end = of.here end
    greatest (link ∷ links) chain end =
        let k = chain.0.number in let mag = link.placement.orient.mag in
        let at = places_at cells n link.placement link.cell chain.0 in
        let next = some_and (get_or farthest link.cell None) (min 17 (chain_factor links)) ((known link.cell k at).greatest links chain.1 end) in
        let leads : LeadsFar cells farthest n (placed_far link.placement next.0) =
        record {
          number = k;
          placement = link.placement;
          target = link.cell;
          from = next.0;
          placed =
              chain.0.placed;
          places = at;
          there = next.1;
          is = refl;
        } in
        let high = some_and best (min 17 (mag * next.0.factor)) (of.above (placed_far link.placement next.0) leads) in
        let e = capped_product mag (chain_factor links) (mags k link.placement chain.0.placed) in
        let more = mul-le-mul_left mag next.2 in
        subst (λ o. IsSomeAnd o (λ far. min 17 (mag * chain_factor links) ≤ far.factor)) (sym high.1) (omega (arith, high.2))

-- ---- what the greatest factor says

mild_end : (cells : List Cell) (n : ℕ) → IsEnd cells false n
mild_end cells n e = absurd (false≢true e)

pub mild : (cells : List Cell) (top : ℕ) (far : Option Far) → IsFarthest cells false top far → IfSome far (λ f. f.factor ≤ 16) → IsMild cells top
mild cells top far is low links chain = by far low (is.greatest links chain (mild_end cells (chain_end top links)))
  where
    by : (o : Option Far) → IfSome o (λ f. f.factor ≤ 16) → IsSomeAnd o (λ f. min 17 (chain_factor links) ≤ f.factor) → chain_factor links ≤ 16
    by None low high = absurd high
    by (Some f) low high = omega arith

pub keeps : (cells : List Cell) (top : ℕ) (far : Option Far) → IsFarthest cells true top far → IfSome far (λ f. f.factor ≤ 1) → KeepsFixed cells top
keeps cells top far is low links chain fixed = by far low (is.greatest links chain (λ e. fixed))
  where
    by : (o : Option Far) → IfSome o (λ f. f.factor ≤ 1) → IsSomeAnd o (λ f. min 17 (chain_factor links) ≤ f.factor) → chain_factor links ≤ 1
    by None low high = absurd high
    by (Some f) low high = omega arith

-- where a factor above 16 lies ahead, some placement leads to it
pub leads_on : (cells : List Cell) (farthest : List (Option Far)) (n factor : ℕ) (far : Far)
    → IsFarthest cells false n (Some far) → factor ≤ 16 → 17 ≤ factor * far.factor
    → ((m : ℕ) (k : ℕ) → PlacesAt cells n k m → IsFarthest cells false m (get_or farthest m None))
    → ((k : ℕ) (p : Placement) → slice_get (placements_at cells n) k ≡ Some p → 1 ≤ p.orient.mag)
    → (k : ℕ) × (far' : Far) × LeadsBeyond (placements_at cells n) (targets_at cells n) farthest factor k far'
leads_on cells farthest n factor far is small ahead known mags = by is.chain.links is.chain.chain is.chain.factor
  where
    by : (links : List Link) → IsChain cells n links → far.factor ≡ min 17 (chain_factor links) → (k : ℕ)
        × (far' : Far) × LeadsBeyond (placements_at cells n) (targets_at cells n) farthest factor k far'
    by [] chain e = absurd (let one : factor * far.factor ≡ factor * 1 = ap (λ x. factor * x) e in omega arith)
    by (link ∷ links) chain e =
        let k = chain.0.number in let mag = link.placement.orient.mag in
        let at = places_at cells n link.placement link.cell chain.0 in
        let next = some_and (get_or farthest link.cell None) (min 17 (chain_factor links))
        ((known link.cell k at).greatest links chain.1 (mild_end cells (chain_end link.cell links))) in
        let c = capped_product mag (chain_factor links) (mags k link.placement chain.0.placed) in
        let more = mul-le-mul_left mag next.2 in
        let low : far.factor ≤ mag * next.0.factor = omega arith in
        let product = mul-le-mul_left factor low in
        let e' = mul_assoc factor mag next.0.factor in (
          k,
          record { cell = link.cell; factor = factor * mag },
          record {
            placement = link.placement;
            target =
                Some link.cell;
            placed = chain.0.placed;
            targeted = at;
            goes =
                record { from = next.0; places = refl; there = next.1; is = refl; beyond = omega arith };
          },
        )

pub beyond_more : (placements : List Placement) (targets : List (Option ℕ)) (farthest : List (Option Far))
    (factor k : ℕ) (placement : Placement) (target : Option ℕ)
    → slice_get placements k ≡ Some placement → slice_get targets k ≡ Some target → ((far : Far) → GoesBeyond farthest factor placement target far → ⊥)
    → ((j : ℕ) (far : Far) → j < k → LeadsBeyond placements targets farthest factor j far → ⊥) → (j : ℕ) (far : Far)
    → j < k + 1 → LeadsBeyond placements targets farthest factor j far → ⊥
beyond_more placements targets farthest factor k placement target placed targeted none before j far below leads = elim (apart j k) [
  | inl e ↦ (let p = one_slot placements k leads.placement placement (subst (λ i. slice_get placements i ≡ Some leads.placement) e leads.placed) placed in
      let t = one_slot targets k leads.target target (subst (λ i. slice_get targets i ≡ Some leads.target) e leads.targeted) targeted in
      none far (subst (λ x. GoesBeyond farthest factor placement x far) t (subst (λ x. GoesBeyond farthest factor x leads.target far) p leads.goes)))
  | inr differs ↦ before j far (omega arith) leads
]

pub on_grid : (cells : List Cell) → All IsCellOnGrid cells → (n : ℕ) → All IsPlacementOnGrid (placements_at cells n)
on_grid [] all n = λ k d inside. absurd (omega arith)
on_grid (cell ∷ cells) all zero = (All-head IsCellOnGrid cell cells all).placements
on_grid (cell ∷ cells) all (suc n) = on_grid cells (All-tail IsCellOnGrid cell cells all) n

pub mags_on_grid : (cells : List Cell) → All IsCellOnGrid cells → (n k : ℕ) (p : Placement) → slice_get (placements_at cells n) k ≡ Some p → 1 ≤ p.orient.mag
mags_on_grid cells all n k p at = (All-slot (placements_at cells n) IsPlacementOnGrid (on_grid cells all n) k p at).orient.enlarges

-- one step along a placement that leads beyond
pub beyond_at : (cells : List Cell) (farthest : List (Option Far)) (n factor k : ℕ) (far : Far)
    → LeadsBeyond (placements_at cells n) (targets_at cells n) farthest factor k far → PlacesAt cells n k far.cell
beyond_at cells farthest n factor k far leads = leads.targeted ∙ ap Some leads.goes.places

pub beyond_factor : (cells : List Cell) (farthest : List (Option Far)) (n factor k : ℕ) (far : Far)
    (leads : LeadsBeyond (placements_at cells n) (targets_at cells n) farthest factor k far)
    (at : PlacesAt cells n k far.cell)
    → far.factor ≡ factor * (link_at cells n k far.cell at).placement.orient.mag
beyond_factor cells farthest n factor k far leads at =
    let p = one_slot (placements_at cells n) k leads.placement
    (placement_of cells n k far.cell at).placement leads.placed (placement_of cells n k far.cell at).here in
    leads.goes.is ∙ ap (λ q. factor * q.orient.mag) p

pub factor_pushed : (links : List Link) (link : Link) → chain_factor (links ++ link ∷ []) ≡ chain_factor links * link.placement.orient.mag
factor_pushed links link = let e = factor_joined links (link ∷ []) in e ∙ ap (λ f. chain_factor links * f) (omega arith)
