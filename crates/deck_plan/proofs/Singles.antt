-- The areas of steps with one operand that neither grow nor shrink.
use Rattle.std.proofs.Common.{◌≡◌, ◌↔◌, ◌≤◌, ◌^◌, ℤ, Bool, true, false, ◌⊎◌, inl, inr, List, [], ◌∷◌, map, ap, subst, refl, sym, ◌∙◌, arith, All}
use Rattle.std.proofs.lemmas.Int.{ints}
use Rattle.std.proofs.lemmas.List.Elements.{All-weaker}
use Rattle.half_grid.specs.Trapezoids.{Trapezoid, IsInTrapezoid, count_in, trapezoid_has}
use Rattle.half_grid.specs.Windows.{RowRange}
use Rattle.half_grid.specs.Winding.{count_one}
use Rattle.half_grid.specs.declared.plane.Tile.{Tile}
use Rattle.half_grid.specs.declared.extent.Frame.{Frame}
use Rattle.half_grid.proofs.ForCallers.{count_by-cons, has_in, in_has}
use Rattle.square_size.specs.EdgeLaws.{IsInSome}
use Rattle.tone_mirror.specs.Frames.{IsInFrame}
use Rattle.tone_mirror.specs.Mirrors.{mirrored_tile, mirrored_trapezoid, HasImageWithinReach}
use Rattle.tone_mirror.proofs.ForCallers.{image_x, images_have_count}
use Rattle.deck_text.specs.Sound.{IsDeckCoordinate}
use Rattle.bool_ops.specs.declared.operations.Op.TheVariants.{Or, Sub}
use Rattle.bool_ops.specs.Operations.{IsJoinedOf, IsInResult}
use Rattle.deck_plan.specs.Lists.{HasArea}
use Rattle.deck_plan.specs.Bounds.{HasCornersUpTo}
use Rattle.deck_plan.proofs.AreaLists.{combined_has, same_area}

in_one_by : (z : Trapezoid) (t : Tile) (has : Bool) → trapezoid_has t z ≡ has → IsInSome (z ∷ []) t → IsInTrapezoid z t
in_one_by z t true e some = has_in t z e
in_one_by z t false e some = let none = ap count_one e in absurd (omega (arith, count_by-cons (trapezoid_has t) z [], none, some))

-- the tiles of a list of one trapezoid
pub in_one : (z : Trapezoid) (t : Tile) → IsInSome (z ∷ []) t → IsInTrapezoid z t
in_one z t some = in_one_by z t (trapezoid_has t z) refl some

pub one_in : (z : Trapezoid) (t : Tile) → IsInTrapezoid z t → IsInSome (z ∷ []) t
one_in z t h = let here = ap count_one (in_has t z h) in omega (arith, count_by-cons (trapezoid_has t) z [], here)

-- what isn't in the list is taken from the frame
pub inverted_has : (frame : Frame) (z : Trapezoid) → ((t : Tile) → IsInTrapezoid z t ↔ IsInFrame frame t)
    → (traps : List Trapezoid) (window : RowRange) (inverted : List Trapezoid)
    → IsJoinedOf window (IsInResult Sub (z ∷ []) traps window) inverted → HasArea window (λ t. IsInFrame frame t × (IsInSome traps t → ⊥)) inverted
inverted_has frame z tiles traps window inverted joined =
    same_area window (λ t. IsInSome (z ∷ []) t × (IsInSome traps t → ⊥)) (λ t. IsInFrame frame t × (IsInSome traps t → ⊥)) inverted
    (λ t rows h. ((tiles t).0 (in_one z t h.0), h.1))
    (λ t rows h. (one_in z t ((tiles t).1 h.0), h.1))
    (combined_has Sub (z ∷ []) traps window inverted joined)

none_in_empty : (t : Tile) → IsInSome [] t → ⊥
none_in_empty t h = omega (arith, h)

-- the images of a list, joined anew
pub mirrored_has : (m : ℤ) (traps images : List Trapezoid) → images ≡ map (mirrored_trapezoid m) traps → (window : RowRange) (mirrored : List Trapezoid)
    → IsJoinedOf window (IsInResult Or images [] window) mirrored → HasArea window (λ t. IsInSome traps (mirrored_tile m t)) mirrored
mirrored_has m traps images is window mirrored joined =
    let count : (t : Tile) → count_in images t ≡ count_in traps (mirrored_tile m t) = λ t. ap (λ list. count_in list t) is ∙ images_have_count m traps t in
    same_area window (λ t. IsInSome images t ⊎ IsInSome [] t) (λ t. IsInSome traps (mirrored_tile m t)) mirrored
    (λ t rows h. elim h [ inl a ↦ subst (λ n. 1 ≤ n) (count t) a | inr b ↦ absurd (none_in_empty t b) ])
    (λ t rows h. inl (subst (λ n. 1 ≤ n) (sym (count t)) h))
    (combined_has Or images [] window mirrored joined)

-- near trapezoids have images within reach
image_within : (m : ℤ) (z : Trapezoid) → IsDeckCoordinate m → HasCornersUpTo (2 ^ 42) z → HasImageWithinReach m z
image_within m z near h =
    let l0 = image_x m z.left z.y0 in
    let r0 = image_x m z.right z.y0 in
    let l1 = image_x m z.left z.y1 in
    let r1 = image_x m z.right z.y1 in
    record {
      y0 = record { low = omega (arith, ints, h.y0.low); high = omega (arith, ints, h.y0.high) };
      y1 = record { low = omega (arith, ints, h.y1.low); high = omega (arith, ints, h.y1.high) };
      bottom_left = record { low = omega (arith, ints, r0, near.low, h.bottom_right.high); high = omega (arith, ints, r0, near.high, h.bottom_right.low) };
      bottom_right = record { low = omega (arith, ints, l0, near.low, h.bottom_left.high); high = omega (arith, ints, l0, near.high, h.bottom_left.low) };
      top_left = record { low = omega (arith, ints, r1, near.low, h.top_right.high); high = omega (arith, ints, r1, near.high, h.top_right.low) };
      top_right = record { low = omega (arith, ints, l1, near.low, h.top_left.high); high = omega (arith, ints, l1, near.high, h.top_left.low) };
    }

pub images_within : (m : ℤ) (traps : List Trapezoid) → IsDeckCoordinate m → All (HasCornersUpTo (2 ^ 42)) traps → All (HasImageWithinReach m) traps
images_within m traps near all = All-weaker (HasCornersUpTo (2 ^ 42)) (HasImageWithinReach m) (λ z h. image_within m z near h) traps all
