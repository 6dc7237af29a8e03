-- Tiles of trapezoids that a box has, and tiles near to them.
use Rattle.std.proofs.Common.{◌≡◌, ◌∙◌, ap, ◌^◌, ℤ, pos, ◌+ℤ◌, ◌-ℤ◌, ◌≤ℤ◌, ◌<ℤ◌, List, [], ◌∷◌, All, arith}
use Rattle.std.proofs.lemmas.Int.{ints, clamps}
use Rattle.std.proofs.lemmas.List.Elements.{All-contains, All-push}
use Rattle.std.specs.Int.{int_min, int_max}
use Rattle.half_grid.specs.Halves.{twice}
use Rattle.half_grid.specs.Lines.{x_on}
use Rattle.half_grid.specs.Nearness.{IsNear}
use Rattle.half_grid.specs.Rows.{place}
use Rattle.half_grid.specs.Trapezoids.{Trapezoid, IsInTrapezoid, IsLegal}
use Rattle.half_grid.specs.declared.plane.Tile.{Tile}
use Rattle.half_grid.specs.declared.plane.Line.{Line}
use Rattle.half_grid.specs.declared.plane.Line.TheVariants.{Upright, Rising, Falling}
use Rattle.half_grid.specs.declared.extent.Frame.{Frame}
use Rattle.half_grid.proofs.ForCallers.{i_low, i_high, number_between, has_in}
use Rattle.trap_join.proofs.ForCallers.{found}
use Rattle.square_size.specs.EdgeLaws.{IsInSome}
use Rattle.square_size.specs.Rings.{IsSizing}
use Rattle.tone_mirror.specs.Frames.{IsFrame, IsInFrame}
use Rattle.deck_plan.specs.Bounds.{wider, IsAround, IsFullBox, HasCornersUpTo, IsTileUpTo}

left_place : (l : Line) (x y0 y1 j : ℤ) → x ≤ℤ x_on l y0 → x ≤ℤ x_on l y1 → y0 ≤ℤ j → j <ℤ y1 → twice x ≤ℤ place l j
left_place (Upright c) x y0 y1 j a b low high = omega (arith, ints, a)
left_place (Rising c) x y0 y1 j a b low high = omega (arith, ints, a, low)
left_place (Falling c) x y0 y1 j a b low high = omega (arith, ints, b, high)

right_place : (l : Line) (x y0 y1 j : ℤ) → x_on l y0 ≤ℤ x → x_on l y1 ≤ℤ x → y0 ≤ℤ j → j <ℤ y1 → place l j ≤ℤ twice x
right_place (Upright c) x y0 y1 j a b low high = omega (arith, ints, a)
right_place (Rising c) x y0 y1 j a b low high = omega (arith, ints, b, high)
right_place (Falling c) x y0 y1 j a b low high = omega (arith, ints, a, low)

pub in_box : (box : Frame) (z : Trapezoid) (t : Tile) → IsAround box z → IsInTrapezoid z t → IsInFrame box t
in_box box z t around h =
    let n = number_between z t h in
    let l = left_place z.left box.x0 z.y0 z.y1 t.j around.bottom_left around.top_left h.above_bottom h.below_top in
    let r = right_place z.right box.x1 z.y0 z.y1 t.j around.bottom_right around.top_right h.above_bottom h.below_top in
    record {
      from_left = omega (arith, ints, i_low t, i_high t, n.from_left, l);
      below_right = omega (arith, ints, i_low t, i_high t, n.below_right, r);
      above_bottom = omega (arith, ints, around.bottom, h.above_bottom);
      below_top = omega (arith, ints, around.top, h.below_top);
    }

-- the tiles of a list in the box of all
pub some_in_box : (box : Frame) (traps : List Trapezoid) (t : Tile) → All (IsAround box) traps → IsInSome traps t → IsInFrame box t
some_in_box box traps t all some =
    let f = found t traps some in
    in_box box f.0 t (All-contains (IsAround box) traps f.0 all f.1) (has_in t f.0 f.2)

pub near_in_wider : (dx dy : ℤ) (hull : Frame) (traps : List Trapezoid) → All (IsAround hull) traps → (t : Tile)
    → IsInSome traps t → (u : Tile) → IsNear dx dy t u → IsInFrame (wider dx dy hull) u
near_in_wider dx dy hull traps all t some u near =
    let b = some_in_box hull traps t all some in
    let c = near.columns in
    let r = near.rows in
    record {
      from_left = omega (arith, ints, b.from_left, c.above, c.below);
      below_right = omega (arith, ints, b.below_right, c.above, c.below);
      above_bottom = omega (arith, ints, b.above_bottom, r.above, r.below);
      below_top = omega (arith, ints, b.below_top, r.above, r.below);
    }

pub wider_frame : (dx dy : ℤ) (hull : Frame) → IsSizing dx dy → IsFullBox (2 ^ 42) hull → IsFrame (wider dx dy hull)
wider_frame dx dy hull s b = record {
  has_columns = omega (arith, ints, b.columns, s.rectangle.columns);
  has_rows = omega (arith, ints, b.rows, s.rectangle.rows);
  x0 = record { low = omega (arith, ints, b.x0.low, s.columns); high = omega (arith, ints, b.x0.high, s.rectangle.columns) };
  y0 = record { low = omega (arith, ints, b.y0.low, s.rows); high = omega (arith, ints, b.y0.high, s.rectangle.rows) };
  x1 = record { low = omega (arith, ints, b.x1.low, s.rectangle.columns); high = omega (arith, ints, b.x1.high, s.columns) };
  y1 = record { low = omega (arith, ints, b.y1.low, s.rectangle.rows); high = omega (arith, ints, b.y1.high, s.rows) };
}

-- its tiles aren't far
pub wider_tile : (dx dy : ℤ) (hull : Frame) → IsSizing dx dy → IsFullBox (2 ^ 42) hull → (t : Tile)
    → IsInFrame (wider dx dy hull) t → IsTileUpTo 4398046576640 t
wider_tile dx dy hull s b t h = record {
  column = record { low = omega (arith, ints, b.x0.low, s.columns, h.from_left); high = omega (arith, ints, b.x1.high, s.columns, h.below_right) };
  row = record { low = omega (arith, ints, b.y0.low, s.rows, h.above_bottom); high = omega (arith, ints, b.y1.high, s.rows, h.below_top) };
}

-- the box of one trapezoid
legal_columns : (l r : Line) (y0 y1 : ℤ) → (x_on l y0 ≤ℤ x_on r y0) → (x_on l y1 ≤ℤ x_on r y1)
    → (pos 0 <ℤ ((x_on r y0 -ℤ x_on l y0) +ℤ (x_on r y1 -ℤ x_on l y1)))
    → int_min (x_on l y0) (x_on l y1) <ℤ int_max (x_on r y0) (x_on r y1)
legal_columns l r y0 y1 bottom top flat = omega (arith, ints, clamps, bottom, top, flat)

pub box_columns : (z : Trapezoid) → IsLegal z → int_min (x_on z.left z.y0) (x_on z.left z.y1) <ℤ int_max (x_on z.right z.y0) (x_on z.right z.y1)
box_columns z legal = legal_columns z.left z.right z.y0 z.y1 (omega (arith, ints, legal.bottom)) (omega (arith, ints, legal.top)) legal.not_flat

-- ---- the box of all, trapezoid by trapezoid

pub record IsBoxOf (z : Trapezoid) (box : Frame) : Type 0 where
  pub left : box.x0 ≡ int_min (x_on z.left z.y0) (x_on z.left z.y1)
  pub bottom : box.y0 ≡ z.y0
  pub right : box.x1 ≡ int_max (x_on z.right z.y0) (x_on z.right z.y1)
  pub top : box.y1 ≡ z.y1

pub record IsBoxWith (hull : Frame) (z : Trapezoid) (box : Frame) : Type 0 where
  pub left : box.x0 ≡ int_min hull.x0 (int_min (x_on z.left z.y0) (x_on z.left z.y1))
  pub bottom : box.y0 ≡ int_min hull.y0 z.y0
  pub right : box.x1 ≡ int_max hull.x1 (int_max (x_on z.right z.y0) (x_on z.right z.y1))
  pub top : box.y1 ≡ int_max hull.y1 z.y1

pub box_around : (z : Trapezoid) (box : Frame) → IsBoxOf z box → IsAround box z
box_around z box b = record {
  bottom = omega (arith, ints, b.bottom);
  top = omega (arith, ints, b.top);
  bottom_left = omega (arith, ints, clamps, b.left);
  top_left = omega (arith, ints, clamps, b.left);
  bottom_right = omega (arith, ints, clamps, b.right);
  top_right = omega (arith, ints, clamps, b.right);
}

pub box_full : (z : Trapezoid) (box : Frame) → IsLegal z → HasCornersUpTo (2 ^ 42) z → IsBoxOf z box → IsFullBox (2 ^ 42) box
box_full z box legal h b = record {
  columns = omega (arith, ints, box_columns z legal, b.left, b.right);
  rows = omega (arith, ints, legal.has_rows, b.bottom, b.top);
  x0 = record {
    low = omega (arith, ints, clamps, b.left, h.bottom_left.low, h.top_left.low);
    high = omega
        (arith, ints, clamps, b.left, h.bottom_left.high, h.top_left.high);
  };
  y0 = record { low = omega (arith, ints, b.bottom, h.y0.low); high = omega (arith, ints, b.bottom, h.y0.high) };
  x1 = record {
    low = omega (arith, ints, clamps, b.right, h.bottom_right.low, h.top_right.low);
    high = omega
        (arith, ints, clamps, b.right, h.bottom_right.high, h.top_right.high);
  };
  y1 = record { low = omega (arith, ints, b.top, h.y1.low); high = omega (arith, ints, b.top, h.y1.high) };
}

pub with_around : (hull : Frame) (z : Trapezoid) (box : Frame) → IsBoxWith hull z box → IsAround box z
with_around hull z box b = record {
  bottom = omega (arith, ints, clamps, b.bottom);
  top = omega (arith, ints, clamps, b.top);
  bottom_left = omega (arith, ints, clamps, b.left);
  top_left = omega (arith, ints, clamps, b.left);
  bottom_right = omega (arith, ints, clamps, b.right);
  top_right = omega (arith, ints, clamps, b.right);
}

pub still_around : (hull : Frame) (y z : Trapezoid) (box : Frame) → IsBoxWith hull z box → IsAround hull y → IsAround box y
still_around hull y z box b h = record {
  bottom = omega (arith, ints, clamps, b.bottom, h.bottom);
  top = omega (arith, ints, clamps, b.top, h.top);
  bottom_left = omega (arith, ints, clamps, b.left, h.bottom_left);
  top_left = omega (arith, ints, clamps, b.left, h.top_left);
  bottom_right = omega (arith, ints, clamps, b.right, h.bottom_right);
  top_right = omega (arith, ints, clamps, b.right, h.top_right);
}

pub with_full : (hull : Frame) (z : Trapezoid) (box : Frame) → HasCornersUpTo (2 ^ 42) z → IsBoxWith hull z box
    → IsFullBox (2 ^ 42) hull → IsFullBox (2 ^ 42) box
with_full hull z box h b f = record {
  columns = omega (arith, ints, clamps, f.columns, b.left, b.right);
  rows = omega (arith, ints, clamps, f.rows, b.bottom, b.top);
  x0 = record { low = omega (arith, ints, clamps, b.left, f.x0.low, h.bottom_left.low, h.top_left.low); high = omega (arith, ints, clamps, b.left, f.x0.high) };
  y0 = record { low = omega (arith, ints, clamps, b.bottom, f.y0.low, h.y0.low); high = omega (arith, ints, clamps, b.bottom, f.y0.high) };
  x1 = record {
    low = omega (arith, ints, clamps, b.right, f.x1.low);
    high = omega
        (arith, ints, clamps, b.right, f.x1.high, h.bottom_right.high, h.top_right.high);
  };
  y1 = record { low = omega (arith, ints, clamps, b.top, f.y1.low); high = omega (arith, ints, clamps, b.top, f.y1.high, h.y1.high) };
}

pub only_one : {X : Type 0} (P : X → Type 0) (x : X) → P x → All P (x ∷ [])
only_one P x h = All-push P [] x (λ k d inside. absurd (omega (arith, inside))) h

frame_of : ℤ → ℤ → ℤ → ℤ → Frame
frame_of x0 y0 x1 y1 = record { x0 = x0; y0 = y0; x1 = x1; y1 = y1 }

pub same_frame : (a b : Frame) → a.x0 ≡ b.x0 → a.y0 ≡ b.y0 → a.x1 ≡ b.x1 → a.y1 ≡ b.y1 → a ≡ b
unfolding frame_of
same_frame a b e f g h = ap (λ x. frame_of x a.y0 a.x1 a.y1) e ∙ ap (λ y. frame_of b.x0 y a.x1 a.y1) f ∙ ap
    (λ x. frame_of b.x0 b.y0 x a.y1) g ∙ ap (λ y. frame_of b.x0 b.y0 b.x1 y) h
