-- The numbers of the shots that meet a stripe: those that come in from below and those that begin there.
use Rattle.std.proofs.Common.{◌≡◌, ◌≤◌, ℕ, ℤ, pos, ◌<ℤ◌, slice_get, Some, take, ◌++◌, vec_capacity, All, List, length, ap, ◌∙◌, subst, sym, arith}
use Rattle.std.proofs.lemmas.List.{take-append-le, take_all}
use Rattle.std.specs.List.Sorted.{IsSorted}
use Rattle.std.specs.Ordering.{nat_cmp}
use Rattle.geo_stream.specs.Merged.{merge}
use Rattle.half_grid.specs.Trapezoids.{Trapezoid, IsShot}
use Rattle.field_output.specs.Chains.{AreChains, IsChain, IsReady}
use Rattle.field_output.specs.declared.choice.Choice.{Choice}
use Rattle.field_output.specs.Meeting.{IsPlaced, begins, comes_in, meets, numbers}
use Rattle.field_output.specs.StreamLaws.{Chain-one_list}
use Rattle.field_output.proofs.NumberLemmas.{ascending_sorted, numbers_ascend, merged_numbers, numbers_few}
use Rattle.field_output.proofs.PlaceLemmas.{all_either}

module _ (size first : ℤ) (count : ℕ) (some : pos 0 <ℤ size) (shots : List Trapezoid) (legal : All IsShot shots) (placed : All
    (IsPlaced size first count) shots) (stripe : ℕ)
    (carried : List ℕ) (is : carried ≡ numbers (comes_in size first stripe) 0 shots) where
  pub carried_sorted : IsSorted nat_cmp carried
  carried_sorted = subst (IsSorted nat_cmp) (sym is) (ascending_sorted 0 (numbers (comes_in size first stripe) 0 shots) (numbers_ascend
      (comes_in size first stripe) 0 shots))

  module _ (next : List ℕ) (head : ℕ) (chain : IsChain next 0 head (numbers (begins size first stripe) 0 shots)) where
    pub merged_is : (ns : List ℕ) → IsChain next 0 head ns → merge nat_cmp carried ns ≡ numbers (meets size first stripe) 0 shots
    merged_is ns other =
        ap (λ (l : List ℕ). merge nat_cmp l ns) is
        ∙ ap (merge nat_cmp (numbers (comes_in size first stripe) 0 shots)) (Chain-one_list next head ns (numbers
        (begins size first stripe) 0 shots) other chain)
        ∙ merged_numbers (comes_in size first stripe) (begins size first stripe) (meets size first stripe) 0 shots
        (all_either size first count some shots stripe legal placed)

    pub merged_few : (room : ℕ) → length shots ≤ room → (ns : List ℕ) → IsChain next 0 head ns → length (merge nat_cmp carried ns) ≤ room
    merged_few room few ns other = omega (arith, few, ap length (merged_is ns other), numbers_few (meets size first stripe) 0 shots)

-- items that are written over all items of a list
pub written_over : {A : Type 0} (n : ℕ) (ws rest : List A) → length ws ≡ n → take n (ws ++ rest) ≡ ws
written_over n ws rest e = take-append-le n ws rest (omega (arith, e)) ∙ take_all n ws (omega (arith, e))

pub chains_as : (size first : ℤ) (shots : List Trapezoid) (heads heads' next next' : List ℕ) → heads' ≡ heads → next' ≡ next
    → AreChains size first heads next 0 shots → AreChains size first heads' next' 0 shots
chains_as size first shots heads heads' next next' e f chains =
    subst (λ (h : List ℕ). AreChains size first h next' 0 shots) (sym e) (subst (λ (n : List ℕ). AreChains size first heads n 0 shots) (sym f) chains)

-- one turn, where the lists are those of the choice
module _ (size first : ℤ) (count : ℕ) (some : pos 0 <ℤ size) (shots : List Trapezoid) (legal : All IsShot shots) (placed : All
    (IsPlaced size first count) shots) (stripe : ℕ)
    (choice : Choice) (ready : IsReady size first count shots stripe choice) (carried next : List ℕ) (same : carried ≡ choice.carried.items)
    (linked : next ≡ choice.next.items) (head : ℕ) (first_is : slice_get choice.heads.items stripe ≡ Some head) where
  carried_is : carried ≡ numbers (comes_in size first stripe) 0 shots
  carried_is = same ∙ ready.carried

  pub turn_sorted : IsSorted nat_cmp carried
  turn_sorted = carried_sorted size first count some shots legal placed stripe carried carried_is

  pub turn_chain : IsChain next 0 head (numbers (begins size first stripe) 0 shots)
  turn_chain =
      subst (λ (l : List ℕ). IsChain l 0 head (numbers (begins size first stripe) 0 shots)) (sym linked)
      (ready.chains stripe head first_is)

  pub turn_few : (ns : List ℕ) → IsChain next 0 head ns → length (merge nat_cmp carried ns) ≤ vec_capacity choice.chosen
  turn_few ns chain = merged_few size first count some shots legal placed stripe carried carried_is next head turn_chain
      (vec_capacity choice.chosen) ready.chosen_room ns chain

  pub turn_chosen : (chosen : List ℕ) → ((ns : List ℕ) → IsChain next 0 head ns → chosen ≡ merge nat_cmp carried ns) → chosen ≡ numbers
      (meets size first stripe) 0 shots
  turn_chosen chosen is =
      let ns = numbers (begins size first stripe) 0 shots in
      is ns turn_chain ∙ merged_is size first count some shots legal placed stripe carried carried_is next head turn_chain ns turn_chain
