-- The fields that a shot meets, as numbers, and the pieces in hand.
use Rattle.std.proofs.Common.{◌≡◌, ℕ, zero, suc, ◌+◌, ◌-◌, ◌<◌, ◌≤◌, ◌^◌, ℤ, pos, negsuc, neg_ℤ, unsigned_abs, ◌+ℤ◌}
use Rattle.std.proofs.Common.{◌-ℤ◌, ◌*ℤ◌, ◌≤ℤ◌, ◌<ℤ◌, List, [], ◌++◌, Option, Some, None, arith, refl, sym, ap, ◌∙◌}
use Rattle.std.proofs.lemmas.Int.{ints, clamps, by_lt_z}
use Rattle.std.specs.Option.{option_to_list}
use Rattle.half_grid.specs.Trapezoids.{Trapezoid, IsLegal, IsShot}
use Rattle.field_split.specs.declared.part.Part.{Part}
use Rattle.field_split.specs.declared.in_hand.Ahead.{Ahead}
use Rattle.field_split.specs.declared.in_hand.InHand.{InHand}
use Rattle.field_split.specs.declared.parts.Columns.{Columns}
use Rattle.field_split.specs.Fields.{IsFieldSize}
use Rattle.field_split.specs.Looks.{IsWithinFieldReach, IsFieldShot}
use Rattle.field_split.specs.Cutting.{least_x, greatest_x, first_field, last_field, number_of_fields, natural_of}
use Rattle.field_split.specs.Cutting.{most_fields, columns, rows_in, pieces_in, pieces_across, lower_piece}
use Rattle.field_split.specs.Cutting.{middle_piece, upper_piece, in_stripe, pieces_of_part, pieces_of_shot}
use Rattle.field_split.specs.Pieces.{shape_of, shape_of_some, waiting, waiting_in, pieces_ahead, pieces_in_hand}
use Rattle.field_split.proofs.Numbers.{multiples, fewer, next_start, stretch_of, count_is}
use Rattle.field_split.proofs.Turns.{lt_yes, lt_no}
use Rattle.field_split.proofs.FieldLemmas.{part_fits, part_shot}

-- ---- numbers

-- a multiple of a number that is greater by n is greater by n at least
far : (n : ℕ) (a size : ℤ) → pos 0 <ℤ size → ((a *ℤ size) +ℤ pos n) ≤ℤ ((a +ℤ pos n) *ℤ size)
far zero a size some = let same : a ≡ a +ℤ pos 0 = omega (arith, ints) in let e = ap (λ (x : ℤ). x *ℤ size) same in omega (arith, ints, e)
far (suc n) a size some =
    let before = far n a size some in
    let same : (a +ℤ pos n) +ℤ pos 1 ≡ a +ℤ pos (suc n) = omega (arith, ints) in
    let e = ap (λ (x : ℤ). x *ℤ size) same in
    let next = next_start (a +ℤ pos n) size in
    omega (arith, ints, before, e, next, some)

module _ (size : ℤ) (sized : IsFieldSize size) (z : Trapezoid) (shot : IsShot z) where
  some_size : pos 0 <ℤ size
  some_size = omega (arith, ints, sized.least)

  least_low : neg_ℤ (pos (2 ^ 44)) ≤ℤ least_x z
  least_low = let a = shot.reach.bottom_left.low in let b = shot.reach.top_left.low in omega (arith, ints, clamps, a, b)

  least_high : least_x z ≤ℤ pos (2 ^ 44)
  least_high = let a = shot.reach.bottom_left.high in let b = shot.reach.top_left.high in omega (arith, ints, clamps, a, b)

  pub greatest_low : neg_ℤ (pos (2 ^ 44)) ≤ℤ greatest_x z
  greatest_low = let a = shot.reach.bottom_right.low in let b = shot.reach.top_right.low in omega (arith, ints, clamps, a, b)

  not_narrow : least_x z <ℤ greatest_x z
  not_narrow = let bottom = shot.legal.bottom in let top = shot.legal.top in let flat = shot.legal.not_flat in omega (arith, ints, clamps, bottom, top, flat)

  pub start_low : neg_ℤ (pos (2 ^ 45)) ≤ℤ (first_field size z *ℤ size)
  start_low =
      let s = stretch_of size (least_x z) some_size in
      let next = next_start (first_field size z) size in
      omega (arith, ints, s.below, next, least_low, sized.most)

  pub start_high : (first_field size z *ℤ size) ≤ℤ pos (2 ^ 45)
  start_high = let s = stretch_of size (least_x z) some_size in omega (arith, ints, s.from, least_high)

  pub fields_order : first_field size z ≤ℤ last_field size z
  fields_order =
      let low = stretch_of size (least_x z) some_size in
      let high = stretch_of size (greatest_x z -ℤ pos 1) some_size in
      let less = fewer (first_field size z) (last_field size z +ℤ pos 1) size some_size (omega (arith, ints, low.from, high.below, not_narrow)) in
      omega (arith, ints, less)

  pub fields_few : IsWithinFieldReach z → (last_field size z -ℤ first_field size z) ≤ℤ pos 33554432
  fields_few reach =
      let low = stretch_of size (least_x z) some_size in
      let high = stretch_of size (greatest_x z -ℤ pos 1) some_size in
      let width : (greatest_x z -ℤ least_x z) ≤ℤ pos 33554432 = reach.not_too_wide in
      by_lt_z (first_field size z +ℤ pos 33554432) (last_field size z)
      (λ lt. (let more = multiples ((first_field size z +ℤ pos 1) +ℤ pos 33554432) (last_field size z) size some_size (omega (arith, ints, lt)) in
      let away = far 33554432 (first_field size z +ℤ pos 1) size some_size in
      absurd (omega (arith, ints, more, away, low.below, high.from, width))))
      (λ le. omega (arith, ints, le))

  pub number_is : number_of_fields size z ≡ natural_of (last_field size z -ℤ first_field size z) + 1
  unfolding number_of_fields
  number_is =
      let before = count_is (last_field size z -ℤ first_field size z) (omega (arith, ints, fields_order)) in
      let all = count_is ((last_field size z -ℤ first_field size z) +ℤ pos 1) (omega (arith, ints, fields_order)) in
      omega (arith, ints, before, all)

pub count_abs : (a b : ℤ) → pos 0 ≤ℤ a → a ≡ b → unsigned_abs a ≡ natural_of b
count_abs (pos n) b h e = ap natural_of e
count_abs (negsuc n) b h e = absurd (omega (arith, ints, h))

pub count_small : (a : ℤ) → pos 0 ≤ℤ a → a ≤ℤ pos 33554432 → unsigned_abs a + 1 ≤ most_fields
unfolding most_fields
count_small (pos n) h k = omega (arith, ints, k)
count_small (negsuc n) h k = absurd (omega (arith, ints, h))

-- ---- what is in hand

waiting_is : (o : Option Part) → waiting o ≡ option_to_list (shape_of_some o)
waiting_is None = refl
waiting_is (Some part) = refl

pub opened : (z : Trapezoid) (cols : Columns) (lower middle upper : Option Part)
    → shape_of_some lower ≡ lower_piece z cols (rows_in z cols)
    → shape_of_some middle ≡ middle_piece z cols (rows_in z cols)
    → shape_of_some upper ≡ upper_piece z cols (rows_in z cols) → waiting lower ++ (waiting middle ++ waiting upper) ≡ pieces_in z cols
unfolding pieces_in
opened z cols lower middle upper a b c = rw (waiting_is lower, waiting_is middle, waiting_is upper, a, b, c) refl

pub across_next : (size : ℤ) (z : Trapezoid) (n : ℕ) (x : ℤ) → 0 < n
    → pieces_across size z n x ≡ pieces_in z (columns x (x +ℤ size)) ++ pieces_across size z (n - 1) (x +ℤ size)
across_next size z zero x h = absurd (omega (arith, h))
across_next size z (suc n) x h = let same : suc n - 1 ≡ n = omega arith in rw same refl

-- a field is opened where no piece waits
pub reopened : (size : ℤ) (hand : InHand) (ahead next : Ahead) (cols : Columns) (lower middle upper : Option Part)
    → waiting_in hand ≡ [] → hand.ahead ≡ Some ahead → cols ≡ columns ahead.x (ahead.x +ℤ size)
    → waiting lower ++ (waiting middle ++ waiting upper) ≡ pieces_in (shape_of ahead.part) cols
    → pieces_ahead size (Some ahead) ≡ pieces_in (shape_of ahead.part) (columns ahead.x (ahead.x +ℤ size)) ++ pieces_ahead size (Some next)
    → (waiting lower ++ (waiting middle ++ waiting upper)) ++ pieces_ahead size (Some next) ≡ pieces_in_hand size hand
reopened size hand ahead next cols lower middle upper empty is ec opens after =
    ap (λ (xs : List Trapezoid). xs ++ pieces_ahead size (Some next)) (opens ∙ ap (pieces_in (shape_of ahead.part)) ec) ∙ sym after
    ∙ sym (ap (λ (xs : List Trapezoid). xs ++ pieces_ahead size hand.ahead) empty ∙ ap (pieces_ahead size) is)

-- the pieces of a shot that has rows in the stripe, and of one that has none
pub some_pieces : (size k : ℤ) (z : Trapezoid) → (in_stripe size k z).y0 <ℤ (in_stripe size k z).y1
    → pieces_of_shot size k z ≡ pieces_of_part size (in_stripe size k z)
unfolding pieces_of_shot
some_pieces size k z h = rw (lt_yes _ _ h) refl

pub no_pieces : (size k : ℤ) (z : Trapezoid) → ((in_stripe size k z).y0 <ℤ (in_stripe size k z).y1 → ⊥) → pieces_of_shot size k z ≡ []
unfolding pieces_of_shot
no_pieces size k z h =
    by_lt_z (in_stripe size k z).y0 (in_stripe size k z).y1 (λ lt. absurd (h lt)) (λ le. rw (lt_no _ _ le) refl)

pub part_reach : (size k : ℤ) (z part : Trapezoid) → IsLegal z → IsLegal part → part ≡ in_stripe size k z → IsWithinFieldReach z → IsWithinFieldReach part
part_reach size k z part legal rows is reach =
    let some = rw is at rows.has_rows in
    rw is (part_fits size k z (pos 16777216) (pos 33554432) legal reach some)

pub pieces_of_rows : (size k : ℤ) (z part : Trapezoid) → part ≡ in_stripe size k z → part.y0 <ℤ part.y1 → pieces_of_shot size k z ≡ pieces_of_part size part
pieces_of_rows size k z part is h = some_pieces size k z (rw is at h) ∙ ap (pieces_of_part size) (sym is)

-- no shot that can be split meets more fields
pub number_few : (size : ℤ) → IsFieldSize size → (z : Trapezoid) → IsShot z → IsWithinFieldReach z → number_of_fields size z ≤ most_fields
unfolding most_fields
number_few size sized z shot reach =
    let is = number_is size sized z shot in
    let few = fields_few size sized z shot reach in
    let order = fields_order size sized z shot in
    let count = count_is (last_field size z -ℤ first_field size z) (omega (arith, ints, order)) in
    omega (arith, ints, is, few, count)

pub part_number_few : (size k : ℤ) → IsFieldSize size → (z : Trapezoid) → IsFieldShot z
    → (in_stripe size k z).y0 <ℤ (in_stripe size k z).y1 → number_of_fields size (in_stripe size k z) ≤ most_fields
part_number_few size k sized z s some =
    let part = part_shot size k z s.shot some in
    number_few size sized (in_stripe size k z) part (part_fits size k z (pos 16777216) (pos 33554432) s.shot.legal s.reach some)
