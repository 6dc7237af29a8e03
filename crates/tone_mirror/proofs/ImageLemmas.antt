-- Mirror images by numbers and places: the tile with the number n goes to 4m - 1 - n, and a place k to 4m - k.
use Rattle.std.proofs.Common.{◌≡◌, Bool, true, false, ℤ, pos, ◌+ℤ◌, ◌-ℤ◌, ◌↔◌}
use Rattle.std.proofs.Common.{List, [], ◌∷◌, map, arith, refl, ap, ◌∙◌, sym}
use Rattle.std.proofs.lemmas.Int.{ints}
use Rattle.half_grid.specs.Halves.{twice}
use Rattle.half_grid.specs.Lines.{x_on}
use Rattle.half_grid.specs.Reach.{IsWithinReach}
use Rattle.half_grid.specs.Rows.{number_in_row, number_at, place}
use Rattle.half_grid.specs.Winding.{count_one}
use Rattle.half_grid.specs.Trapezoids.{Trapezoid, IsInTrapezoid, IsLegal, IsShot, count_in, trapezoid_has}
use Rattle.half_grid.specs.declared.plane.Side.{Side}
use Rattle.half_grid.specs.declared.plane.Side.TheVariants.{Left, Right}
use Rattle.half_grid.specs.declared.plane.Tile.{Tile}
use Rattle.half_grid.specs.declared.plane.Line.{Line}
use Rattle.half_grid.specs.declared.plane.Line.TheVariants.{Upright, Rising, Falling}
use Rattle.half_grid.proofs.ForCallers.{number_between, in_by_number, has_in, in_has, count_by-cons}
use Rattle.tone_mirror.specs.Mirrors.{other_side, mirrored_tile, mirrored_line, mirrored_trapezoid, HasImageWithinReach}

number_goes : (m i : ℤ) (s : Side) → number_at ((twice m -ℤ pos 1) -ℤ i) (other_side s) +ℤ number_at i s ≡ twice (twice m) -ℤ pos 1
number_goes m i Left = omega (arith, ints)
number_goes m i Right = omega (arith, ints)

-- the numbers of a tile and of its image
pub image_number : (m : ℤ) (t : Tile) → number_in_row (mirrored_tile m t) +ℤ number_in_row t ≡ twice (twice m) -ℤ pos 1
image_number m t = number_goes m t.i t.side

-- the places of a line and of its image
pub image_place : (m : ℤ) (line : Line) (j : ℤ) → place (mirrored_line m line) j +ℤ place line j ≡ twice (twice m)
image_place m (Upright c) j = omega (arith, ints)
image_place m (Rising c) j = omega (arith, ints)
image_place m (Falling c) j = omega (arith, ints)

-- the X of a line and of its image
pub image_x : (m : ℤ) (line : Line) (y : ℤ) → x_on (mirrored_line m line) y +ℤ x_on line y ≡ twice m
image_x m (Upright c) y = omega (arith, ints)
image_x m (Rising c) y = omega (arith, ints)
image_x m (Falling c) y = omega (arith, ints)

in_original : (m : ℤ) (z : Trapezoid) (t : Tile) → IsInTrapezoid (mirrored_trapezoid m z) t → IsInTrapezoid z (mirrored_tile m t)
in_original m z t h =
    let b = number_between (mirrored_trapezoid m z) t h in
    let n = image_number m t in
    let l = image_place m z.left t.j in
    let r = image_place m z.right t.j in
    in_by_number z (mirrored_tile m t) (record {
      above_bottom = b.above_bottom;
      below_top = b.below_top;
      from_left = omega (arith, ints, n, l, b.below_right);
      below_right = omega (arith, ints, n, r, b.from_left);
    })

in_image : (m : ℤ) (z : Trapezoid) (t : Tile) → IsInTrapezoid z (mirrored_tile m t) → IsInTrapezoid (mirrored_trapezoid m z) t
in_image m z t h =
    let b = number_between z (mirrored_tile m t) h in
    let n = image_number m t in
    let l = image_place m z.left t.j in
    let r = image_place m z.right t.j in
    in_by_number (mirrored_trapezoid m z) t (record {
      above_bottom = b.above_bottom;
      below_top = b.below_top;
      from_left = omega (arith, ints, n, r, b.below_right);
      below_right = omega (arith, ints, n, l, b.from_left);
    })

-- a tile is in the image exactly where its own image is in the trapezoid
pub image_has_tile : (m : ℤ) (z : Trapezoid) (t : Tile) → IsInTrapezoid (mirrored_trapezoid m z) t ↔ IsInTrapezoid z (mirrored_tile m t)
image_has_tile m z t = (in_original m z t, in_image m z t)

side_twice : (s : Side) → other_side (other_side s) ≡ s
side_twice Left = refl
side_twice Right = refl

pub mirrored_twice : (m : ℤ) (t : Tile) → mirrored_tile m (mirrored_tile m t) ≡ t
mirrored_twice m t =
    let e : (twice m -ℤ pos 1) -ℤ ((twice m -ℤ pos 1) -ℤ t.i) ≡ t.i = omega (arith, ints) in
    ap (λ (x : ℤ). let r : Tile = record { i = x; j = t.j; side = other_side (other_side t.side) } in r) e
    ∙ ap (λ (x : Side). let r : Tile = record { i = t.i; j = t.j; side = x } in r) (side_twice t.side)

same_test : (m : ℤ) (z : Trapezoid) (t : Tile) (b c : Bool) → trapezoid_has t (mirrored_trapezoid m z) ≡ b → trapezoid_has (mirrored_tile m t) z ≡ c → b ≡ c
same_test m z t true true eb ec = refl
same_test m z t false false eb ec = refl
same_test m z t true false eb ec = sym (in_has (mirrored_tile m t) z (in_original m z t (has_in t (mirrored_trapezoid m z) eb))) ∙ ec
same_test m z t false true eb ec = sym eb ∙ in_has t (mirrored_trapezoid m z) (in_image m z t (has_in (mirrored_tile m t) z ec))

pub images_have_count : (m : ℤ) (traps : List Trapezoid) (t : Tile) → count_in (map (mirrored_trapezoid m) traps) t ≡ count_in traps (mirrored_tile m t)
images_have_count m [] t = refl
images_have_count m (z ∷ traps) t =
    let first = ap count_one (same_test m z t _ _ refl refl) in
    let later = images_have_count m traps t in
    let image = count_by-cons (trapezoid_has t) (mirrored_trapezoid m z) (map (mirrored_trapezoid m) traps) in
    let original = count_by-cons (trapezoid_has (mirrored_tile m t)) z traps in
    omega (arith, first, later, image, original)

pub image_is_legal : (m : ℤ) (z : Trapezoid) → IsLegal z → IsLegal (mirrored_trapezoid m z)
image_is_legal m z h =
    let l0 = image_x m z.left z.y0 in
    let r0 = image_x m z.right z.y0 in
    let l1 = image_x m z.left z.y1 in
    let r1 = image_x m z.right z.y1 in
    record {
      has_rows = h.has_rows;
      bottom = omega (arith, ints, h.bottom, l0, r0);
      top = omega (arith, ints, h.top, l1, r1);
      not_flat = omega (arith, ints, h.not_flat, l0, r0, l1, r1);
    }

-- the line of a mirror image is within reach where both of its images are
pub mirror_within : (m : ℤ) (z : Trapezoid) → IsShot z → HasImageWithinReach m z → IsWithinReach m
mirror_within m z h image =
    let l = image_x m z.left z.y0 in
    record {
      low = omega (arith, ints, l, h.reach.bottom_left.low, image.bottom_right.low);
      high = omega
          (arith, ints, l, h.reach.bottom_left.high, image.bottom_right.high);
    }

pub image_is_shot : (m : ℤ) (z : Trapezoid) → IsShot z → HasImageWithinReach m z → IsShot (mirrored_trapezoid m z)
image_is_shot m z h image = record { legal = image_is_legal m z h.legal; reach = image }
