-- How many pieces a shot has in a stripe.
use Rattle.std.proofs.Common.{◌≡◌, ℕ, ◌+◌, ◌*◌, ◌^◌, ◌≤◌, ℤ, pos, ◌+ℤ◌, ◌*ℤ◌, List, [], ◌∷◌, ◌++◌, length, ap, refl, arith, mul-suc, mul-le-mul_left}
use Rattle.std.proofs.lemmas.Int.{ints, by_lt_z}
use Rattle.std.specs.List.{All}
use Rattle.half_grid.specs.Reach.{IsWithinReach}
use Rattle.half_grid.specs.Trapezoids.{Trapezoid, IsShot}
use Rattle.field_split.specs.declared.in_hand.InHand.{InHand}
use Rattle.field_split.specs.Fields.{IsFieldSize, IsInStretch, IsStripeList}
use Rattle.field_split.specs.Looks.{IsFieldShot}
use Rattle.field_split.specs.Cutting.{IsNearFieldLine, in_stripe, pieces_of, pieces_of_part, pieces_of_shot, number_of_fields, first_field, most_fields, most_pieces}
use Rattle.field_split.specs.Pieces.{HasFewPieces, pieces_in_hand}
use Rattle.field_split.specs.StreamLaws.{across_length, shots_length}
use Rattle.field_split.proofs.Numbers.{next_start}
use Rattle.field_split.proofs.StripeLemmas.{one_stripe_list, stripe_list_is}
use Rattle.field_split.proofs.HandLemmas.{part_number_few, some_pieces, no_pieces}

pub shot_length : (size k : ℤ) (z : Trapezoid) → IsFieldSize size → IsFieldShot z → length (pieces_of_shot size k z) ≤ most_pieces
unfolding most_pieces pieces_of_part
shot_length size k z sized shot =
    by_lt_z (in_stripe size k z).y0 (in_stripe size k z).y1
    (λ some. (let part = in_stripe size k z in
    let few = part_number_few size k sized z shot some in
    let all = across_length size part (number_of_fields size part) (first_field size part *ℤ size) in
    let is = ap length (some_pieces size k z some) in
    omega (arith, few, all, is)))
    (λ none. (let is = ap length (no_pieces size k z (λ some. omega (arith, ints, some, none))) in omega (arith, is)))

pub all_few : (size k : ℤ) (shots : List Trapezoid) → IsFieldSize size → All IsFieldShot shots → All (HasFewPieces size k) shots
all_few size k shots sized h = λ i d lt. shot_length size k _ sized (h i d lt)

-- ---- one call of the stream

-- the next shot is in hand
pub turned : (size k : ℤ) (old new : InHand) (shots others : List Trapezoid) (shot : Trapezoid)
    → pieces_in_hand size old ≡ [] → shots ≡ shot ∷ others → pieces_in_hand size new ≡ pieces_of_shot size k shot
    → pieces_in_hand size old ++ pieces_of size k shots ≡ pieces_in_hand size new ++ pieces_of size k others
turned size k old new shots others shot empty is begun = rw (empty, is, begun) refl

-- no shot is left
pub ended : (size k : ℤ) (hand : InHand) (shots : List Trapezoid) → pieces_in_hand size hand ≡ [] → shots ≡ []
    → pieces_in_hand size hand ++ pieces_of size k shots ≡ []
ended size k hand shots empty is = rw (empty, is) refl

pub room : (hand after before whole old : ℕ) → hand ≤ most_pieces → after + 1 ≤ before → old + most_pieces * before ≤ whole → hand + most_pieces * after ≤ whole
room hand after before whole old few fewer h =
    let products : most_pieces * (after + 1) ≤ most_pieces * before = mul-le-mul_left most_pieces fewer in
    omega (arith, products, mul-suc most_pieces after, few, h)

-- ---- a stripe of a row within reach

pub near_low : (size k y : ℤ) → IsFieldSize size → IsWithinReach y → IsInStretch size k y → IsNearFieldLine (k *ℤ size)
near_low size k y sized reach s =
    let next = next_start k size in
    record { low = omega (arith, ints, s.below, next, reach.low, sized.most); high = omega (arith, ints, s.from, reach.high) }

pub near_high : (size k y : ℤ) → IsFieldSize size → IsWithinReach y → IsInStretch size k y → IsNearFieldLine ((k +ℤ pos 1) *ℤ size)
near_high size k y sized reach s =
    let next = next_start k size in
    record { low = omega (arith, ints, s.below, reach.low); high = omega (arith, ints, s.from, next, reach.high, sized.most) }

-- ---- all pieces of a stripe

pub pieces_few : (size k : ℤ) (shots pieces : List Trapezoid) → IsFieldSize size → All IsFieldShot shots
    → IsStripeList size k shots pieces → length pieces ≤ 2 ^ 28 * length shots
unfolding most_pieces most_fields
pieces_few size k shots pieces sized h list =
    let all : All IsShot shots = λ i d lt. (h i d lt).shot in
    let same = ap (λ (xs : List Trapezoid). length xs)
    (one_stripe_list size k sized shots pieces (pieces_of size k shots) all list
    (stripe_list_is size k sized shots all)) in
    omega (arith, same, shots_length size k shots (all_few size k shots sized h))
