-- Proofs of the laws of the stream of shots: it stands for one list, which is no longer than its size, and its size is
-- bounded. Lemmas alone stand here, no definition.
use Rattle.std.proofs.Common.{◌≡◌, ℕ, zero, suc, ◌+◌, ◌*◌, ◌≤◌, Bool, true, false, cond, ℤ, List, [], ◌∷◌, length}
use Rattle.std.proofs.Common.{Option, Some, None, ap, arith, length-append, mul-suc, mul-le-mul_left}
use Rattle.std.specs.List.{flat_map}
use Rattle.half_grid.specs.Trapezoids.{Trapezoid}
use Rattle.fracture.specs.declared.cuts.InHand.{InHand}
use Rattle.fracture.specs.Cutting.{cut_off, cut_by_height, cut_by_width, cut_list, shots_of, enough_cuts}
use Rattle.fracture.specs.Cuts.{trap_of, shots_of_piece, shots_of_rows, shots_in_hand, most_shots, StandsForCuts}

-- one part more than cuts at most
one_more : (b : Bool) (z part : Trapezoid) (parts : List Trapezoid) (n : ℕ) → length parts ≤ n → length (cond b (z ∷ []) (part ∷ parts)) ≤ suc n
one_more true z part parts n h = omega arith
one_more false z part parts n h = omega (arith, h)

length-cut_off : (fits : Trapezoid → Bool) (part rest : Trapezoid → Trapezoid) (n : ℕ) (z : Trapezoid) → length (cut_off fits part rest n z) ≤ suc n
unfolding cut_off
length-cut_off fits part rest zero z = omega arith
length-cut_off fits part rest (suc n) z = one_more (fits z) z (part z) (cut_off fits part rest n (rest z)) (suc n) (length-cut_off fits part rest n (rest z))

-- lists of at most so many items, one after the other
length-flat_map : (f : Trapezoid → List Trapezoid) (most : ℕ) → ((z : Trapezoid) → length (f z) ≤ most)
    → (zs : List Trapezoid) → length (flat_map f zs) ≤ most * length zs
length-flat_map f most h [] = omega arith
length-flat_map f most h (z ∷ zs) = omega (arith, length-append (f z) (flat_map f zs), h z, length-flat_map f most h zs, mul-suc most (length zs))

length-cut_by_width : (width : ℤ) (z : Trapezoid) → length (cut_by_width width z) ≤ suc enough_cuts
length-cut_by_width width z = length-cut_off _ _ _ enough_cuts z

pub length-cut_list : (height width : ℤ) (z : Trapezoid) → length (cut_list height width z) ≤ most_shots
unfolding most_shots
length-cut_list height width z =
    let pieces = length-cut_off _ _ _ enough_cuts z in
    let products : suc enough_cuts * length (cut_by_height height z) ≤ suc enough_cuts * suc enough_cuts = mul-le-mul_left (suc enough_cuts) pieces in
    omega (arith, length-flat_map (cut_by_width width) (suc enough_cuts) (length-cut_by_width width) (cut_by_height height z), products)

length-piece : (width : ℤ) (piece : Option Trapezoid) → length (shots_of_piece width piece) ≤ suc enough_cuts
length-piece width None = omega arith
length-piece width (Some z) = length-cut_by_width width z

length-rows : (height width : ℤ) (above : Option Trapezoid) → length (shots_of_rows height width above) ≤ most_shots
length-rows height width None = omega arith
length-rows height width (Some z) = length-cut_list height width z

length-in_hand : (hand : InHand) → length (shots_in_hand hand) ≤ suc enough_cuts + most_shots
length-in_hand hand =
    omega (
      arith,
      length-append (shots_of_piece hand.limits.width (trap_of hand.piece))
          (shots_of_rows hand.limits.height hand.limits.width (trap_of hand.above)),
      length-piece hand.limits.width
          (trap_of hand.piece),
      length-rows hand.limits.height hand.limits.width (trap_of hand.above),
    )

module _ {S : Type 0} {source_for : S → List Trapezoid → Type 0} where
  pub Cuts-one_list : ((s : S) (xs ys : List Trapezoid) → source_for s xs → source_for s ys → xs ≡ ys)
      → (s : S) (hand : InHand) (xs ys : List Trapezoid) → StandsForCuts source_for s hand xs → StandsForCuts source_for s hand ys → xs ≡ ys
  Cuts-one_list one s hand xs ys p q =
      let traps = one s p.traps q.traps p.given q.given in
      cc (p.is, q.is)

  pub Cuts-no_longer : {count : S → ℕ} → ((s : S) (xs : List Trapezoid) → source_for s xs → length xs ≤ count s)
      → (s : S) (hand : InHand) (xs : List Trapezoid) → StandsForCuts source_for s hand xs → length xs ≤ length (shots_in_hand hand) + most_shots * count s
  Cuts-no_longer {count = count} few s hand xs p =
      let height = hand.limits.height in
      let width = hand.limits.width in
      let products : most_shots * length p.traps ≤ most_shots * count s = mul-le-mul_left most_shots (few s p.traps p.given) in
      omega (
        arith,
        ap length p.is,
        length-append (shots_in_hand hand) (shots_of height width p.traps),
        length-flat_map
            (cut_list height width) most_shots (length-cut_list height width) p.traps,
        products,
      )

  pub Cuts-bounded : {count : S → ℕ} {many : ℕ} → ((s : S) (xs : List Trapezoid) → source_for s xs → count s ≤ many)
      → (s : S) (hand : InHand) (xs : List Trapezoid) → StandsForCuts source_for s hand xs
      → length (shots_in_hand hand) + most_shots * count s ≤ (suc enough_cuts + most_shots) + most_shots * many
  Cuts-bounded {count = count} {many = many} few s hand xs p =
      let products : most_shots * count s ≤ most_shots * many = mul-le-mul_left most_shots (few s p.traps p.given) in
      omega (arith, length-in_hand hand, products)
