-- Proofs of the laws of the stream of pieces: it stands for one list, which is no longer than its size, and its size is
-- bounded. Lemmas alone stand here, no definition.
use Rattle.std.proofs.Common.{◌≡◌, ℕ, zero, suc, ◌+◌, ◌*◌, ◌≤◌, ℤ, ◌+ℤ◌, List, [], ◌∷◌, ◌++◌, length, Option, Some}
use Rattle.std.proofs.Common.{None, ap, arith, length-append, mul-suc, mul-le-mul_left}
use Rattle.std.proofs.lemmas.List.Elements.{All-head, All-tail}
use Rattle.std.specs.List.{All}
use Rattle.std.specs.Option.{option_to_list}
use Rattle.half_grid.specs.Trapezoids.{Trapezoid}
use Rattle.field_split.specs.declared.part.Part.{Part}
use Rattle.field_split.specs.declared.in_hand.Ahead.{Ahead}
use Rattle.field_split.specs.declared.in_hand.InHand.{InHand}
use Rattle.field_split.specs.declared.parts.Columns.{Columns}
use Rattle.field_split.specs.Pieces.{StandsForPieces, HasFewPieces, shape_of, waiting, waiting_in, pieces_ahead, pieces_in_hand}
use Rattle.field_split.specs.Cutting.{columns, pieces_in, pieces_across, pieces_of_shot, pieces_of, most_fields}
use Rattle.field_split.specs.Cutting.{most_pieces, rows_in, lower_piece, middle_piece, upper_piece}

at_most_one : {X : Type 0} (o : Option X) → length (option_to_list o) ≤ 1
at_most_one None = omega arith
at_most_one (Some x) = omega arith

three_at_most : (z : Trapezoid) (cols : Columns) → length (pieces_in z cols) ≤ 3
unfolding pieces_in
three_at_most z cols =
    let range = rows_in z cols in
    let middle = option_to_list (middle_piece z cols range) in
    let upper = option_to_list (upper_piece z cols range) in
    omega (
      arith,
      length-append (option_to_list (lower_piece z cols range))
          (middle ++ upper),
      length-append middle upper,
      at_most_one (lower_piece z cols range),
      at_most_one
          (middle_piece z cols range),
      at_most_one (upper_piece z cols range),
    )

pub across_length : (size : ℤ) (z : Trapezoid) (n : ℕ) (x : ℤ) → length (pieces_across size z n x) ≤ 3 * n
across_length size z zero x = omega arith
across_length size z (suc n) x =
    let here = pieces_in z (columns x (x +ℤ size)) in
    omega (arith, length-append here (pieces_across size z n (x +ℤ size)), three_at_most z (columns x (x +ℤ size)), across_length size z n (x +ℤ size))

waiting_length : (o : Option Part) → length (waiting o) ≤ 1
waiting_length None = omega arith
waiting_length (Some part) = omega arith

ahead_length : (size : ℤ) (o : Option Ahead) → length (pieces_ahead size o) ≤ 3 * most_fields
ahead_length size None = omega arith
ahead_length size (Some ahead) = let few = ahead.few in omega (arith, few, across_length size (shape_of ahead.part) ahead.fields ahead.x)

pub hand_length : (size : ℤ) (hand : InHand) → length (pieces_in_hand size hand) ≤ most_pieces
unfolding most_pieces most_fields
hand_length size hand =
    omega (
      arith,
      length-append (waiting_in hand) (pieces_ahead size hand.ahead),
      length-append (waiting hand.lower) (waiting hand.middle ++ waiting hand.upper),
      length-append (waiting hand.middle) (waiting hand.upper),
      waiting_length hand.lower,
      waiting_length hand.middle,
      waiting_length hand.upper,
      ahead_length size hand.ahead,
    )

pub shots_length : (size k : ℤ) (shots : List Trapezoid) → All (HasFewPieces size k) shots → length (pieces_of size k shots) ≤ most_pieces * length shots
shots_length size k [] h = omega arith
shots_length size k (z ∷ shots) h =
    omega (
      arith,
      length-append (pieces_of_shot size k z) (pieces_of size k shots),
      All-head (HasFewPieces size k) z shots h,
      shots_length size k shots (All-tail (HasFewPieces size k) z shots h),
      mul-suc most_pieces (length shots),
    )

module _ {S : Type 0} {source_for : S → List Trapezoid → Type 0} where
  pub Pieces-one_list : ((s : S) (xs ys : List Trapezoid) → source_for s xs → source_for s ys → xs ≡ ys)
      → (size k : ℤ) (s : S) (hand : InHand) (xs ys : List Trapezoid) → StandsForPieces source_for size k s hand xs
      → StandsForPieces source_for size k s hand ys → xs ≡ ys
  Pieces-one_list one size k s hand xs ys p q =
      let shots = one s p.shots q.shots p.given q.given in
      cc (p.is, q.is)

  pub Pieces-no_longer : {count : S → ℕ} → ((s : S) (xs : List Trapezoid) → source_for s xs → length xs ≤ count s)
      → (size k : ℤ) (s : S) (hand : InHand) (xs : List Trapezoid) → StandsForPieces source_for size k s hand xs
      → length xs ≤ length (pieces_in_hand size hand) + most_pieces * count s
  Pieces-no_longer {count = count} few size k s hand xs p =
      let products : most_pieces * length p.shots ≤ most_pieces * count s = mul-le-mul_left most_pieces (few s p.shots p.given) in
      omega (arith, ap length p.is, length-append (pieces_in_hand size hand) (pieces_of size k p.shots), shots_length size k p.shots p.few, products)

  pub Pieces-bounded : {count : S → ℕ} {many : ℕ} → ((s : S) (xs : List Trapezoid) → source_for s xs → count s ≤ many)
      → (size k : ℤ) (s : S) (hand : InHand) (xs : List Trapezoid) → StandsForPieces source_for size k s hand xs
      → length (pieces_in_hand size hand) + most_pieces * count s ≤ most_pieces + most_pieces * many
  Pieces-bounded {count = count} {many = many} few size k s hand xs p =
      let products : most_pieces * count s ≤ most_pieces * many = mul-le-mul_left most_pieces (few s p.shots p.given) in
      omega (arith, hand_length size hand, products)
