-- Rows between two lines that may cross: which part of them is a legal trapezoid, and that no tile lies in the others.
use Rattle.std.proofs.Common.{◌≡◌, ◌↔◌, ℤ, pos, ◌+ℤ◌, ◌-ℤ◌, ◌≤ℤ◌, ◌<ℤ◌, ◌^◌, neg_ℤ, refl, arith, sym, [], ◌∷◌, Bool, true, false}
use Rattle.std.proofs.lemmas.Int.{ints, by_lt_z}
use Rattle.half_grid.specs.Halves.{twice}
use Rattle.half_grid.specs.Lines.{x_on, first_strip}
use Rattle.half_grid.specs.Meetings.{AreParallel}
use Rattle.half_grid.specs.Reach.{IsWithinReach}
use Rattle.half_grid.specs.Rows.{place}
use Rattle.half_grid.specs.Trapezoids.{Trapezoid, trapezoid, IsInTrapezoid, IsShot, trapezoid_has, bottom_of, top_of}
use Rattle.half_grid.specs.declared.plane.Tile.{Tile}
use Rattle.half_grid.specs.declared.plane.Line.{Line}
use Rattle.half_grid.specs.declared.plane.Line.TheVariants.{Upright, Rising, Falling}
use Rattle.half_grid.proofs.ForCallers.{strip_within, number_between, has_in, in_has}
use Rattle.square_size.specs.Lone.{IsInOne}
use Rattle.square_size.specs.Shrinking.{moved, inner, IsNearReach, AreWithinReach, IsBand}

-- ---- lists of one trapezoid and of none

-- the list's count, by the test of its one trapezoid
one_by : (b : Bool) (z : Trapezoid) (t : Tile) → trapezoid_has t z ≡ b → IsInOne (z ∷ []) t ↔ (b ≡ true)
one_by true z t e = rw e (λ h. refl, λ h. omega arith)
one_by false z t e = rw e (λ h. absurd (omega arith), λ h. (let no : false ≡ true = h in cc))

-- a tile is in a list of one trapezoid where it is in the trapezoid
in_only : (z : Trapezoid) (t : Tile) → IsInTrapezoid z t ↔ IsInOne (z ∷ []) t
in_only z t =
    let by = one_by (trapezoid_has t z) z t refl in
    (λ h. by.1 (in_has t z h), λ h. has_in t z (by.0 h))

-- The tiles of one trapezoid are those of a list of another that has the same.
pub in_found : (z w r : Trapezoid) (t : Tile) → r ≡ w → IsInTrapezoid z t ↔ IsInTrapezoid w t → IsInTrapezoid z t ↔ IsInOne (r ∷ []) t
in_found z w r t e same =
    let only = in_only w t in
    rw e (λ h. only.0 (same.0 h), λ h. same.1 (only.1 h))

-- No tile is in a list of none.
pub in_none : (z : Trapezoid) (t : Tile) → (IsInTrapezoid z t → ⊥) → IsInTrapezoid z t ↔ IsInOne [] t
in_none z t outside = (λ h. absurd (outside h), λ h. absurd (omega (arith, h)))

-- ---- the inner rows and lines of a shot

-- between two Y at which a line is within reach, it is within reach
between_reach : (line : Line) (y0 y1 y : ℤ) → IsWithinReach (x_on line y0) → IsWithinReach (x_on line y1) → y0 ≤ℤ y → y ≤ℤ y1 → IsWithinReach (x_on line y)
between_reach (Upright c) y0 y1 y h0 h1 a b = h0
between_reach (Rising c) y0 y1 y h0 h1 a b = record { low = omega (arith, ints, h0.low); high = omega (arith, ints, h1.high) }
between_reach (Falling c) y0 y1 y h0 h1 a b = record { low = omega (arith, ints, h1.low); high = omega (arith, ints, h0.high) }

-- a line moved right lies no further left
further_right : (d y : ℤ) (line : Line) → pos 0 ≤ℤ d → x_on line y ≤ℤ x_on (moved d line) y
further_right d y (Upright c) h = omega (arith, ints)
further_right d y (Rising c) h = omega (arith, ints)
further_right d y (Falling c) h = omega (arith, ints)

-- a line moved left lies no further right
further_left : (d y : ℤ) (line : Line) → pos 0 ≤ℤ d → x_on (moved (pos 0 -ℤ d) line) y ≤ℤ x_on line y
further_left d y (Upright c) h = omega (arith, ints)
further_left d y (Rising c) h = omega (arith, ints)
further_left d y (Falling c) h = omega (arith, ints)

-- a number moved by at most 65536 from one within reach
near_reach : (d x y : ℤ) → neg_ℤ (pos 65536) ≤ℤ d → d ≤ℤ pos 65536 → IsWithinReach x → y ≡ x +ℤ d → IsNearReach y
near_reach d x y a b h e = record { low = omega (arith, ints, h.low, e); high = omega (arith, ints, h.high, e) }

-- the number of a line moved by as much
moved_near : (by : ℤ) (line : Line) → neg_ℤ (pos 65536) ≤ℤ by → by ≤ℤ pos 65536 → IsWithinReach (first_strip line) → IsNearReach (first_strip (moved by line))
moved_near by (Upright c) a b h = near_reach by c _ a b h refl
moved_near by (Rising c) a b h = near_reach by c _ a b h refl
moved_near by (Falling c) a b h = near_reach by c _ a b h refl

-- where the moved lines are in order they lie between the lines of the shot, which are within reach
inner_in_order : (d : ℤ) (z : Trapezoid) (y : ℤ) → pos 1 ≤ℤ d → IsShot z → (z.y0 +ℤ d) ≤ℤ y → y ≤ℤ (z.y1 -ℤ d)
    → x_on (moved d z.left) y ≤ℤ x_on (moved (pos 0 -ℤ d) z.right) y → AreWithinReach (moved d z.left) (moved (pos 0 -ℤ d) z.right) y
inner_in_order d z y low shot a b order =
    let positive : pos 0 ≤ℤ d = omega (arith, ints) in
    let from : z.y0 ≤ℤ y = omega (arith, ints) in
    let to : y ≤ℤ z.y1 = omega (arith, ints) in
    let left = between_reach z.left z.y0 z.y1 y shot.reach.bottom_left shot.reach.top_left from to in
    let right = between_reach z.right z.y0 z.y1 y shot.reach.bottom_right shot.reach.top_right from to in
    let rights = further_right d y z.left positive in
    let lefts = further_left d y z.right positive in
    record {
      height = record { low = omega (arith, ints, shot.reach.y0.low); high = omega (arith, ints, shot.reach.y1.high) };
      left_end = record { low = omega (arith, ints, left.low); high = omega (arith, ints, right.high) };
      right_end = record { low = omega (arith, ints, left.low); high = omega (arith, ints, right.high) };
    }

-- The inner rows and lines of a shot are within reach wherever the lines are in order.
pub inner_is_band : (d : ℤ) (z : Trapezoid) → pos 1 ≤ℤ d → d ≤ℤ pos 65536 → IsShot z → IsBand (inner d z)
inner_is_band d z low high shot = record {
  y0 = near_reach d z.y0 _ (omega (arith, ints)) high shot.reach.y0 refl;
  y1 = near_reach (neg_ℤ d) z.y1 _ (omega (arith, ints)) (omega (arith, ints)) shot.reach.y1 (omega (arith, ints));
  left = moved_near d z.left (omega (arith, ints)) high (strip_within z.left z.y0 shot.reach.y0 shot.reach.bottom_left);
  right = moved_near (pos 0 -ℤ d) z.right (omega (arith, ints)) (omega (arith, ints)) (strip_within z.right z.y0 shot.reach.y0 shot.reach.bottom_right);
  in_order = λ y a b order. inner_in_order d z y low shot a b order;
}

-- ---- rows in which no tile is between the lines

-- between two Y at both of which the right line isn't right of the left one, no row has a place between them
no_place : (l r : Line) (y0 y1 j : ℤ) → x_on r y0 ≤ℤ x_on l y0 → x_on r y1 ≤ℤ x_on l y1 → y0 ≤ℤ j → j <ℤ y1 → place r j ≤ℤ place l j
no_place (Upright c) (Upright e) y0 y1 j h0 h1 a b = omega (arith, ints)
no_place (Upright c) (Rising e) y0 y1 j h0 h1 a b = omega (arith, ints)
no_place (Upright c) (Falling e) y0 y1 j h0 h1 a b = omega (arith, ints)
no_place (Rising c) (Upright e) y0 y1 j h0 h1 a b = omega (arith, ints)
no_place (Rising c) (Rising e) y0 y1 j h0 h1 a b = omega (arith, ints)
no_place (Rising c) (Falling e) y0 y1 j h0 h1 a b = omega (arith, ints)
no_place (Falling c) (Upright e) y0 y1 j h0 h1 a b = omega (arith, ints)
no_place (Falling c) (Rising e) y0 y1 j h0 h1 a b = omega (arith, ints)
no_place (Falling c) (Falling e) y0 y1 j h0 h1 a b = omega (arith, ints)

-- nor a tile
no_tile : (z : Trapezoid) (y0 y1 : ℤ) (t : Tile) → x_on z.right y0 ≤ℤ x_on z.left y0 → x_on z.right y1 ≤ℤ x_on z.left y1
    → y0 ≤ℤ t.j → t.j <ℤ y1 → IsInTrapezoid z t → ⊥
no_tile z y0 y1 t h0 h1 a b h =
    let numbers = number_between z t h in
    let places = no_place z.left z.right y0 y1 t.j h0 h1 a b in
    omega (arith, ints, numbers.from_left, numbers.below_right, places)

-- No tile where neither side is longer than 0.
pub none_between : (z : Trapezoid) (t : Tile) → bottom_of z ≤ℤ pos 0 → top_of z ≤ℤ pos 0 → IsInTrapezoid z t → ⊥
none_between z t bottom top h = no_tile z z.y0 z.y1 t (omega (arith, ints, bottom)) (omega (arith, ints, top)) h.above_bottom h.below_top h

-- So there is none where neither is negative, but their sum isn't over 0.
pub none_where_flat : (z : Trapezoid) (t : Tile) → pos 0 ≤ℤ bottom_of z → pos 0 ≤ℤ top_of z → (bottom_of z +ℤ top_of z) ≤ℤ pos 0 → IsInTrapezoid z t → ⊥
none_where_flat z t bottom top flat = none_between z t (omega (arith, ints, top, flat)) (omega (arith, ints, bottom, flat))

-- ---- where the lines meet

-- lines whose order changes between two Y meet between them
meet_within : (l r : Line) (y0 y1 y : ℤ) → x_on r y0 <ℤ x_on l y0 → x_on l y1 <ℤ x_on r y1 → x_on l y ≡ x_on r y → y0 <ℤ y1 → (y0 <ℤ y) × (y <ℤ y1)
meet_within (Upright c) (Upright e) y0 y1 y h0 h1 m a = absurd (omega (arith, ints))
meet_within (Upright c) (Rising e) y0 y1 y h0 h1 m a = (omega (arith, ints), omega (arith, ints))
meet_within (Upright c) (Falling e) y0 y1 y h0 h1 m a = (omega (arith, ints), omega (arith, ints))
meet_within (Rising c) (Upright e) y0 y1 y h0 h1 m a = (omega (arith, ints), omega (arith, ints))
meet_within (Rising c) (Rising e) y0 y1 y h0 h1 m a = absurd (omega (arith, ints))
meet_within (Rising c) (Falling e) y0 y1 y h0 h1 m a = (omega (arith, ints), omega (arith, ints))
meet_within (Falling c) (Upright e) y0 y1 y h0 h1 m a = (omega (arith, ints), omega (arith, ints))
meet_within (Falling c) (Rising e) y0 y1 y h0 h1 m a = (omega (arith, ints), omega (arith, ints))
meet_within (Falling c) (Falling e) y0 y1 y h0 h1 m a = absurd (omega (arith, ints))

-- Lines whose order changes aren't parallel.
pub not_parallel : (l r : Line) (y0 y1 : ℤ) → x_on r y0 <ℤ x_on l y0 → x_on l y1 <ℤ x_on r y1 → AreParallel l r → ⊥
not_parallel (Upright c) (Upright e) y0 y1 h0 h1 p = omega (arith, ints)
not_parallel (Upright c) (Rising e) y0 y1 h0 h1 p = (let same : Upright c ≡ Rising e = p (c -ℤ twice e) (omega (arith, ints)) in cc)
not_parallel (Upright c) (Falling e) y0 y1 h0 h1 p = (let same : Upright c ≡ Falling e = p (twice e -ℤ c) (omega (arith, ints)) in cc)
not_parallel (Rising c) (Upright e) y0 y1 h0 h1 p = (let same : Rising c ≡ Upright e = p (e -ℤ twice c) (omega (arith, ints)) in cc)
not_parallel (Rising c) (Rising e) y0 y1 h0 h1 p = omega (arith, ints)
not_parallel (Rising c) (Falling e) y0 y1 h0 h1 p = (let same : Rising c ≡ Falling e = p (e -ℤ c) (omega (arith, ints)) in cc)
not_parallel (Falling c) (Upright e) y0 y1 h0 h1 p = (let same : Falling c ≡ Upright e = p (twice c -ℤ e) (omega (arith, ints)) in cc)
not_parallel (Falling c) (Rising e) y0 y1 h0 h1 p = (let same : Falling c ≡ Rising e = p (c -ℤ e) (omega (arith, ints)) in cc)
not_parallel (Falling c) (Falling e) y0 y1 h0 h1 p = omega (arith, ints)

-- ---- the legal part

-- the rows between two Y of a band at which the lines are in order, and at one of them apart
part_is_shot : (z : Trapezoid) (y0 y1 : ℤ) → IsBand z → z.y0 ≤ℤ y0 → y0 <ℤ y1 → y1 ≤ℤ z.y1 → pos 0 ≤ℤ (x_on z.right y0 -ℤ x_on z.left y0)
    → pos 0 ≤ℤ (x_on z.right y1 -ℤ x_on z.left y1) → pos 0 <ℤ ((x_on z.right y0 -ℤ x_on z.left y0) +ℤ (x_on z.right y1 -ℤ x_on z.left y1))
    → IsShot (trapezoid y0 y1 z.left z.right)
part_is_shot z y0 y1 band a rows b bottom top area =
    let below = band.in_order y0 a (omega (arith, ints)) (omega (arith, ints, bottom)) in
    let above = band.in_order y1 (omega (arith, ints)) b (omega (arith, ints, top)) in
    record {
      legal = record { has_rows = rows; bottom = bottom; top = top; not_flat = area };
      reach = record {
        y0 = below.height;
        y1 = above.height;
        bottom_left = below.left_end;
        bottom_right = below.right_end;
        top_left = above.left_end;
        top_right = above.right_end;
      };
    }

-- All of it is a shot where neither side is negative, and they aren't both 0.
pub whole_is_shot : (z : Trapezoid) → IsBand z → z.y0 <ℤ z.y1 → pos 0 ≤ℤ bottom_of z → pos 0 ≤ℤ top_of z
    → pos 0 <ℤ (bottom_of z +ℤ top_of z) → IsShot (trapezoid z.y0 z.y1 z.left z.right)
whole_is_shot z band rows bottom top area = part_is_shot z z.y0 z.y1 band (omega (arith, ints)) rows (omega (arith, ints)) bottom top area

-- The part over the meeting of the lines, where they are crossed at the bottom,
pub over_is_shot : (z : Trapezoid) (y : ℤ) → IsBand z → z.y0 <ℤ z.y1 → bottom_of z <ℤ pos 0 → pos 0 <ℤ top_of z
    → x_on z.left y ≡ x_on z.right y → IsShot (trapezoid y z.y1 z.left z.right)
over_is_shot z y band rows bottom top meet =
    let within = meet_within z.left z.right z.y0 z.y1 y (omega (arith, ints, bottom)) (omega (arith, ints, top)) meet rows in
    part_is_shot z y z.y1 band (omega (arith, ints, within.0)) within.1 (omega (arith, ints)) (omega (arith, ints, meet))
    (omega (arith, ints, top)) (omega (arith, ints, top, meet))

-- has all the tiles.
pub over_has_all : (z : Trapezoid) (y : ℤ) (t : Tile) → z.y0 <ℤ z.y1 → bottom_of z <ℤ pos 0 → pos 0 <ℤ top_of z
    → x_on z.left y ≡ x_on z.right y → IsInTrapezoid z t ↔ IsInTrapezoid (trapezoid y z.y1 z.left z.right) t
over_has_all z y t rows bottom top meet =
    let within = meet_within z.left z.right z.y0 z.y1 y (omega (arith, ints, bottom)) (omega (arith, ints, top)) meet rows in (
      λ h. record {
        above_bottom = by_lt_z t.j y (λ below. absurd
            (no_tile z z.y0 y t (omega (arith, ints, bottom)) (omega (arith, ints, meet)) h.above_bottom below h)) (λ above. above);
        below_top = h.below_top;
        right_of_left = h.right_of_left;
        left_of_right = h.left_of_right;
      },
      λ h. record {
        above_bottom = omega (arith, ints, h.above_bottom, within.0);
        below_top = h.below_top;
        right_of_left = h.right_of_left;
        left_of_right = h.left_of_right;
      },
    )

-- The part under the meeting of the lines, where they are crossed at the top,
pub under_is_shot : (z : Trapezoid) (y : ℤ) → IsBand z → z.y0 <ℤ z.y1 → pos 0 <ℤ bottom_of z → top_of z <ℤ pos 0
    → x_on z.left y ≡ x_on z.right y → IsShot (trapezoid z.y0 y z.left z.right)
under_is_shot z y band rows bottom top meet =
    let within = meet_within z.right z.left z.y0 z.y1 y (omega (arith, ints, bottom)) (omega (arith, ints, top)) (sym meet) rows in
    part_is_shot z z.y0 y band (omega (arith, ints)) within.0 (omega (arith, ints, within.1)) (omega (arith, ints, bottom))
    (omega (arith, ints, meet)) (omega (arith, ints, bottom, meet))

-- has all the tiles.
pub under_has_all : (z : Trapezoid) (y : ℤ) (t : Tile) → z.y0 <ℤ z.y1 → pos 0 <ℤ bottom_of z → top_of z <ℤ pos 0
    → x_on z.left y ≡ x_on z.right y → IsInTrapezoid z t ↔ IsInTrapezoid (trapezoid z.y0 y z.left z.right) t
under_has_all z y t rows bottom top meet =
    let within = meet_within z.right z.left z.y0 z.y1 y (omega (arith, ints, bottom)) (omega (arith, ints, top)) (sym meet) rows in (
      λ h. record {
        above_bottom = h.above_bottom;
        below_top = by_lt_z t.j y (λ under. under) (λ over. absurd
            (no_tile z y z.y1 t (omega (arith, ints, meet)) (omega (arith, ints, top)) over h.below_top h));
        right_of_left = h.right_of_left;
        left_of_right = h.left_of_right;
      },
      λ h. record {
        above_bottom = h.above_bottom;
        below_top = omega (arith, ints, h.below_top, within.1);
        right_of_left = h.right_of_left;
        left_of_right = h.left_of_right;
      },
    )

-- ---- for calls

-- The X of a line near reach, at a Y near reach, fits.
pub x_near : (line : Line) (y : ℤ) → IsNearReach (first_strip line) → IsNearReach y → (neg_ℤ (pos (2 ^ 47)) ≤ℤ x_on line y) × (x_on line y ≤ℤ pos (2 ^ 47))
x_near (Upright c) y h k = (omega (arith, ints, h.low), omega (arith, ints, h.high))
x_near (Rising c) y h k = (omega (arith, ints, h.low, k.low), omega (arith, ints, h.high, k.high))
x_near (Falling c) y h k = (omega (arith, ints, h.low, k.high), omega (arith, ints, h.high, k.low))

-- the numbers of a band's lines are within reach where the lines are in order at a Y
lines_within : (z : Trapezoid) (y : ℤ) → IsBand z → z.y0 ≤ℤ y → y ≤ℤ z.y1 → x_on z.left y ≤ℤ x_on z.right y
    → IsWithinReach (first_strip z.left) × IsWithinReach (first_strip z.right)
lines_within z y band a b order =
    let here = band.in_order y a b order in
    (strip_within z.left y here.height here.left_end, strip_within z.right y here.height here.right_end)

-- The numbers of a band's lines are within reach where its upper side is longer than 0,
pub lines_at_top : (z : Trapezoid) → IsBand z → z.y0 <ℤ z.y1 → pos 0 <ℤ top_of z
    → IsWithinReach (first_strip z.left) × IsWithinReach (first_strip z.right)
lines_at_top z band rows top = lines_within z z.y1 band (omega (arith, ints)) (omega (arith, ints)) (omega (arith, ints, top))

-- and where its lower one is.
pub lines_at_bottom : (z : Trapezoid) → IsBand z → z.y0 <ℤ z.y1 → pos 0 <ℤ bottom_of z
    → IsWithinReach (first_strip z.left) × IsWithinReach (first_strip z.right)
lines_at_bottom z band rows bottom = lines_within z z.y0 band (omega (arith, ints)) (omega (arith, ints)) (omega (arith, ints, bottom))

-- Lines that are crossed at the bottom alone meet,
pub over_meets : (z : Trapezoid) → bottom_of z <ℤ pos 0 → pos 0 <ℤ top_of z → AreParallel z.left z.right → ⊥
over_meets z bottom top parallel = not_parallel z.left z.right z.y0 z.y1 (omega (arith, ints, bottom)) (omega (arith, ints, top)) parallel

-- and those that are crossed at the top alone.
pub under_meets : (z : Trapezoid) → pos 0 <ℤ bottom_of z → top_of z <ℤ pos 0 → AreParallel z.left z.right → ⊥
under_meets z bottom top parallel = not_parallel z.left z.right z.y1 z.y0 (omega (arith, ints, top)) (omega (arith, ints, bottom)) parallel

-- The sides of a band are at most as long as the reach is wide, where neither is negative.
pub sides_small : (z : Trapezoid) → IsBand z → z.y0 <ℤ z.y1 → pos 0 ≤ℤ bottom_of z → pos 0 ≤ℤ top_of z
    → (bottom_of z ≤ℤ pos (2 ^ 45)) × (top_of z ≤ℤ pos (2 ^ 45))
sides_small z band rows bottom top =
    let below = band.in_order z.y0 (omega (arith, ints)) (omega (arith, ints)) (omega (arith, ints, bottom)) in
    let above = band.in_order z.y1 (omega (arith, ints)) (omega (arith, ints)) (omega (arith, ints, top)) in
    (omega (arith, ints, below.left_end.low, below.right_end.high), omega (arith, ints, above.left_end.low, above.right_end.high))
