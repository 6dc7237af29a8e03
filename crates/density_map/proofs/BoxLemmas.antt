-- A trapezoid has no tile in a window that its box doesn't meet.
use Rattle.std.proofs.Common.{◌≡◌, ◌⊎◌, inl, inr, ℤ, pos, ◌+ℤ◌, ◌-ℤ◌, ◌≤ℤ◌, ◌<ℤ◌, arith}
use Rattle.std.proofs.lemmas.Int.{ints, clamps, by_lt_z}
use Rattle.std.specs.Int.{int_min, int_max}
use Rattle.half_grid.specs.Lines.{x_on}
use Rattle.half_grid.specs.Rows.{place}
use Rattle.half_grid.specs.Trapezoids.{Trapezoid, IsInTrapezoid}
use Rattle.half_grid.specs.declared.extent.Frame.{Frame}
use Rattle.half_grid.specs.declared.plane.Line.{Line}
use Rattle.half_grid.specs.declared.plane.Line.TheVariants.{Upright, Rising, Falling}
use Rattle.half_grid.specs.declared.plane.Tile.{Tile}
use Rattle.half_grid.proofs.ForCallers.{number_between, i_low, i_high}
use Rattle.density_map.specs.Frames.{natural, count_in_frame, frame_tiles}
use Rattle.density_map.specs.Rows.{least_x, greatest_x}
use Rattle.density_map.proofs.Numbers.{natural_is, natural_none}
use Rattle.density_map.proofs.ClipLemmas.{rows_none}

place_least : (l : Line) (y0 y1 j : ℤ) → y0 ≤ℤ j → j <ℤ y1 → (int_min (x_on l y0) (x_on l y1) +ℤ int_min (x_on l y0) (x_on l y1)) ≤ℤ place l j
place_least (Upright c) y0 y1 j a b = omega (arith, ints, clamps)
place_least (Rising c) y0 y1 j a b = omega (arith, ints, clamps)
place_least (Falling c) y0 y1 j a b = omega (arith, ints, clamps)

place_greatest : (l : Line) (y0 y1 j : ℤ) → y0 ≤ℤ j → j <ℤ y1 → place l j ≤ℤ (int_max (x_on l y0) (x_on l y1) +ℤ int_max (x_on l y0) (x_on l y1))
place_greatest (Upright c) y0 y1 j a b = omega (arith, ints, clamps)
place_greatest (Rising c) y0 y1 j a b = omega (arith, ints, clamps)
place_greatest (Falling c) y0 y1 j a b = omega (arith, ints, clamps)

-- a tile of the trapezoid lies in its box
pub in_box : (z : Trapezoid) (t : Tile) → IsInTrapezoid z t → (least_x z ≤ℤ t.i) × (t.i <ℤ greatest_x z)
in_box z t h =
    let n = number_between z t h in
    let low = place_least z.left z.y0 z.y1 t.j h.above_bottom h.below_top in
    let high = place_greatest z.right z.y0 z.y1 t.j h.above_bottom h.below_top in
    (omega (arith, ints, n.from_left, low, i_high t, i_low t), omega (arith, ints, n.below_right, high, i_low t, i_high t))

pub none_beside : (z : Trapezoid) (frame : Frame) → (frame.x1 ≤ℤ least_x z) ⊎ (greatest_x z ≤ℤ frame.x0) → count_in_frame frame z ≡ 0
unfolding count_in_frame frame_tiles
none_beside z frame side =
    rows_none z frame.x0 frame.y0 (natural (frame.x1 -ℤ frame.x0)) (natural (frame.y1 -ℤ frame.y0)) (λ t l r d u h. apart t side (in_box z t h) l (under t l r))
  where
    under : (t : Tile) → frame.x0 ≤ℤ t.i → t.i <ℤ (frame.x0 +ℤ pos (natural (frame.x1 -ℤ frame.x0))) → t.i <ℤ frame.x1
    under t l r = by_lt_z frame.x0 frame.x1
        (λ less. (let n = natural_is (frame.x1 -ℤ frame.x0) (omega (arith, ints, less)) in omega (arith, ints, n, r)))
        (λ more. absurd (let n = natural_none (frame.x1 -ℤ frame.x0) (omega (arith, ints, more)) in omega (arith, ints, n, r, l)))

    apart : (t : Tile) → (frame.x1 ≤ℤ least_x z) ⊎ (greatest_x z ≤ℤ frame.x0) → (least_x z ≤ℤ t.i)
        × (t.i <ℤ greatest_x z) → frame.x0 ≤ℤ t.i → t.i <ℤ frame.x1 → ⊥
    apart t (inl a) box l u = let low = box.0 in omega (arith, ints, a, low, u)
    apart t (inr a) box l u = let high = box.1 in omega (arith, ints, a, high, l)

-- a legal trapezoid's box is wide
corner : (l r : Line) (y0 y1 : ℤ) → pos 0 ≤ℤ (x_on r y0 -ℤ x_on l y0) → pos 0 ≤ℤ (x_on r y1 -ℤ x_on l y1)
    → pos 0 <ℤ ((x_on r y0 -ℤ x_on l y0) +ℤ (x_on r y1 -ℤ x_on l y1))
    → int_min (x_on l y0) (x_on l y1) <ℤ int_max (x_on r y0) (x_on r y1)
corner l r y0 y1 a b c = omega (arith, ints, clamps)
