-- The parts of a trapezoid are legal and within reach, and smaller than it.
use Rattle.std.proofs.Common.{◌≡◌, ◌^◌, ℤ, pos, negsuc, ◌+ℤ◌, ◌≤ℤ◌, ◌<ℤ◌, arith, refl, neg_ℤ, FitsSigned, w64, Some, subst}
use Rattle.std.proofs.lemmas.Int.{ints, clamps}
use Rattle.std.specs.Option.{ForSome}
use Rattle.half_grid.specs.Lines.{x_on}
use Rattle.half_grid.specs.Reach.{IsWithinReach}
use Rattle.half_grid.specs.Trapezoids.{Trapezoid, IsShot, box_width}
use Rattle.half_grid.specs.declared.plane.Line.{Line}
use Rattle.fracture.specs.Limits.{AreLimits}
use Rattle.fracture.specs.Cutting.{height_of, least_left, below, from_row, lowest_rows, rows_above, cut_at, leftmost_part, part_beyond}
use Rattle.fracture.proofs.CutNumbers.{x_between, x_steps, wide_inside, IsCut, cut_numbers}

-- what is within reach fits 64 bits
pub reach_fits : (z : ℤ) → IsWithinReach z → FitsSigned w64 z
reach_fits (pos n) r = record { sfits = omega (arith, ints, r.high) }
reach_fits (negsuc n) r = record { sfits = omega (arith, ints, r.low) }

-- so does what is well below 2^63
fits_by : (z : ℤ) → neg_ℤ (pos (2 ^ 60)) ≤ℤ z → z ≤ℤ pos (2 ^ 60) → FitsSigned w64 z
fits_by (pos n) a b = record { sfits = omega (arith, ints, b) }
fits_by (negsuc n) a b = record { sfits = omega (arith, ints, a) }

reach_between : (l : Line) (y0 y y1 : ℤ) → y0 ≤ℤ y → y ≤ℤ y1 → IsWithinReach (x_on l y0) → IsWithinReach (x_on l y1) → IsWithinReach (x_on l y)
reach_between l y0 y y1 a b p q =
    let both = x_between l y0 y y1 (neg_ℤ (pos (2 ^ 44))) (pos (2 ^ 44)) a b p.low q.low p.high q.high in
    record { low = both.0; high = both.1 }

within_both : (y0 y y1 : ℤ) → y0 ≤ℤ y → y ≤ℤ y1 → IsWithinReach y0 → IsWithinReach y1 → IsWithinReach y
within_both y0 y y1 a b p q = record { low = omega (arith, ints, p.low); high = omega (arith, ints, q.high) }

-- the rows below a height inside, and those from it on
pub below_shot : (z : Trapezoid) (y : ℤ) → IsShot z → z.y0 <ℤ y → y <ℤ z.y1 → IsShot (below z y)
below_shot z y s a b =
    let low : z.y0 ≤ℤ y = omega (arith, ints) in
    let high : y ≤ℤ z.y1 = omega (arith, ints) in
    let side = wide_inside z.left z.right z.y0 y z.y1 a b s.legal.bottom s.legal.top s.legal.not_flat in
    record {
      legal = record { has_rows = a; bottom = s.legal.bottom; top = omega (arith, ints, side); not_flat = omega (arith, ints, side, s.legal.bottom) };
      reach = record {
        y0 = s.reach.y0;
        y1 = within_both z.y0 y z.y1 low high s.reach.y0 s.reach.y1;
        bottom_left = s.reach.bottom_left;
        bottom_right = s.reach.bottom_right;
        top_left = reach_between z.left z.y0 y z.y1 low high s.reach.bottom_left s.reach.top_left;
        top_right = reach_between z.right z.y0 y z.y1 low high s.reach.bottom_right s.reach.top_right;
      };
    }

pub from_row_shot : (z : Trapezoid) (y : ℤ) → IsShot z → z.y0 <ℤ y → y <ℤ z.y1 → IsShot (from_row z y)
from_row_shot z y s a b =
    let low : z.y0 ≤ℤ y = omega (arith, ints) in
    let high : y ≤ℤ z.y1 = omega (arith, ints) in
    let side = wide_inside z.left z.right z.y0 y z.y1 a b s.legal.bottom s.legal.top s.legal.not_flat in
    record {
      legal = record { has_rows = b; bottom = omega (arith, ints, side); top = s.legal.top; not_flat = omega (arith, ints, side, s.legal.top) };
      reach = record {
        y0 = within_both z.y0 y z.y1 low high s.reach.y0 s.reach.y1;
        y1 = s.reach.y1;
        bottom_left = reach_between z.left z.y0 y z.y1 low high s.reach.bottom_left s.reach.top_left;
        bottom_right = reach_between z.right z.y0 y z.y1 low high s.reach.bottom_right s.reach.top_right;
        top_left = s.reach.top_left;
        top_right = s.reach.top_right;
      };
    }

-- a trapezoid that isn't higher than the limits
pub record IsLow (height : ℤ) (z : Trapezoid) : Type 0 where
  pub shot : IsShot z
  pub low : height_of z ≤ℤ height

module _ (height width : ℤ) (limits : AreLimits height width) where
  -- a height inside, where a trapezoid is too high
  pub inside : (z : Trapezoid) → height <ℤ height_of z → (z.y0 <ℤ (z.y0 +ℤ height)) × ((z.y0 +ℤ height) <ℤ z.y1)
  inside z h = (omega (arith, ints, limits.some_rows), omega (arith, ints, h))

  pub inside_reach : (z : Trapezoid) → IsShot z → height <ℤ height_of z → IsWithinReach (z.y0 +ℤ height)
  inside_reach z s h = let both = inside z h in within_both z.y0 _ z.y1 (omega (arith, ints, both)) (omega (arith, ints, both)) s.reach.y0 s.reach.y1

  pub lowest_is_low : (z : Trapezoid) → IsShot z → height <ℤ height_of z → IsLow height (lowest_rows height z)
  lowest_is_low z s h =
      let both = inside z h in
      record { shot = below_shot z (z.y0 +ℤ height) s both.0 both.1; low = omega (arith, ints) }

  pub above_is_shot : (z : Trapezoid) → IsShot z → height <ℤ height_of z → IsShot (rows_above height z)
  above_is_shot z s h = let both = inside z h in from_row_shot z (z.y0 +ℤ height) s both.0 both.1

  -- where a piece that is too wide is cut
  pub cut_is : (z : Trapezoid) → IsLow height z → width <ℤ box_width z
      → IsCut (x_on z.left z.y0) (x_on z.left z.y1) (x_on z.right z.y0) (x_on z.right z.y1) width (cut_at width z)
  cut_is z s h =
      let rows : z.y0 ≤ℤ z.y1 = omega (arith, ints, s.shot.legal.has_rows) in
      let left = x_steps z.left z.y0 z.y1 rows in
      let right = x_steps z.right z.y0 z.y1 rows in
      let some : pos 0 <ℤ height_of z = omega (arith, ints, s.shot.legal.has_rows) in
      cut_numbers _ _ _ _ (height_of z) height width _ some s.low limits.wide left.0 left.1 right.0 right.1 h refl

  pub wide_fits : (z : Trapezoid) → IsShot z → width <ℤ box_width z → FitsSigned w64 (least_left z +ℤ width)
  wide_fits z s h =
      let bl = s.reach.bottom_left in
      let tl = s.reach.top_left in
      let br = s.reach.bottom_right in
      let tr = s.reach.top_right in
      let least : neg_ℤ (pos (2 ^ 44)) ≤ℤ least_left z = omega (arith, ints, clamps, bl.low, tl.low) in
      let most : (least_left z +ℤ box_width z) ≤ℤ pos (2 ^ 44) = omega (arith, ints, clamps, br.high, tr.high) in
      fits_by (least_left z +ℤ width) (omega (arith, ints, limits.some_rows, limits.wide)) (omega (arith, ints, h))

  pub cut_reach : (z : Trapezoid) → IsLow height z → width <ℤ box_width z → IsWithinReach (cut_at width z)
  cut_reach z s h =
      let c = cut_is z s h in
      record {
        low = omega (arith, ints, c.bottom_left, s.shot.reach.bottom_left.low);
        high = omega
            (arith, ints, c.bottom_right, s.shot.reach.bottom_right.high);
      }

  pub left_is_shot : (z : Trapezoid) → IsLow height z → width <ℤ box_width z → IsShot (leftmost_part width z)
  left_is_shot z s h =
      let c = cut_is z s h in
      let at = cut_reach z s h in
      record {
        legal = record {
          has_rows = s.shot.legal.has_rows;
          bottom = omega (arith, ints, c.bottom_left);
          top = omega (arith, ints, c.top_left);
          not_flat = omega (arith, ints, c.bottom_left, c.top_left);
        };
        reach = record {
          y0 = s.shot.reach.y0;
          y1 = s.shot.reach.y1;
          bottom_left =
              s.shot.reach.bottom_left;
          bottom_right = at;
          top_left = s.shot.reach.top_left;
          top_right = at;
        };
      }

  pub beyond_is_low : (z : Trapezoid) → IsLow height z → width <ℤ box_width z → IsLow height (part_beyond width z)
  beyond_is_low z s h =
      let c = cut_is z s h in
      let at = cut_reach z s h in
      record {
        shot = record {
          legal = record {
            has_rows = s.shot.legal.has_rows;
            bottom = omega (arith, ints, c.bottom_right);
            top = omega (arith, ints, c.top_right);
            not_flat = c.not_flat;
          };
          reach = record {
            y0 = s.shot.reach.y0;
            y1 = s.shot.reach.y1;
            bottom_left = at;
            bottom_right =
                s.shot.reach.bottom_right;
            top_left = at;
            top_right = s.shot.reach.top_right;
          };
        };
        low = s.low;
      }

-- what holds of a value holds of the one value that there is
pub for_some : (P : Trapezoid → Type 0) (z : Trapezoid) → P z → ForSome (Some z) P
for_some P z p x e = let same : z ≡ x = cc in subst P same p
