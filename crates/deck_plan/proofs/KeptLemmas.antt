-- Set operations whose list is one of the two: where a list is empty, or a rectangle has all of the other.
use Rattle.std.proofs.Common.{◌≡◌, inl, inr, ◌↔◌, ◌≤◌, ◌≤ℤ◌, ◌<ℤ◌, ℤ, List, [], All, Contains, subst, arith}
use Rattle.std.proofs.lemmas.Int.{ints, clamps}
use Rattle.std.proofs.lemmas.List.Elements.{All-contains}
use Rattle.std.specs.Int.{int_min, int_max}
use Rattle.half_grid.specs.JoinedLists.{IsJoined, IsInWindow}
use Rattle.half_grid.specs.Lines.{x_on}
use Rattle.half_grid.specs.Trapezoids.{Trapezoid, trapezoid, IsInTrapezoid, count_in}
use Rattle.half_grid.specs.Windows.{RowRange}
use Rattle.half_grid.specs.declared.plane.Tile.{Tile}
use Rattle.half_grid.specs.declared.plane.Line.{Line}
use Rattle.half_grid.specs.declared.plane.Line.TheVariants.{Upright}
use Rattle.half_grid.specs.declared.extent.Frame.{Frame}
use Rattle.half_grid.specs.declared.border.Operand.{Operand}
use Rattle.half_grid.specs.declared.border.Operand.TheVariants.{A, B}
use Rattle.half_grid.proofs.ForCallers.{has_in, in_has}
use Rattle.trap_join.proofs.ForCallers.{found, counted}
use Rattle.square_size.specs.EdgeLaws.{IsInSome}
use Rattle.tone_mirror.specs.Frames.{IsInFrame}
use Rattle.bool_ops.specs.declared.operations.Op.TheVariants.{Or, And, Sub, Xor}
use Rattle.bool_ops.specs.Operations.{IsInRows}
use Rattle.deck_plan.specs.Bounds.{IsAround}
use Rattle.deck_plan.specs.Lists.{HasArea, IsJoinedSomewhere, OfBoth}
use Rattle.deck_plan.specs.Moves.{list_of}
use Rattle.deck_plan.proofs.Boxes.{some_in_box}

-- a joined list in another window that has all of its trapezoids
joined_in : (own window : RowRange) (traps : List Trapezoid) → IsJoined own traps → All (IsInWindow window) traps → IsJoined window traps
joined_in own window traps joined inside = record {
  legal = joined.legal;
  in_window = inside;
  apart = joined.apart;
  ends_free = joined.ends_free;
  not_stacked = joined.not_stacked;
  in_order = joined.in_order;
}

pub rows_of_some : (window : RowRange) (traps : List Trapezoid) (t : Tile) → All (IsInWindow window) traps → IsInSome traps t → IsInRows window t
rows_of_some window traps t all some =
    let f = found t traps some in
    let w = All-contains (IsInWindow window) traps f.0 all f.1 in
    let h = has_in t f.0 f.2 in
    record { from = omega (arith, ints, w.low, h.above_bottom); below = omega (arith, ints, w.high, h.below_top) }

-- such a list has the area of its tiles
pub kept_has : (window : RowRange) (area : Tile → Type 0) (list : List Trapezoid) → IsJoinedSomewhere list
    → All (IsInWindow window) list → ((t : Tile) → IsInSome list t ↔ area t) → HasArea window area list
kept_has window area list somewhere inside same = record {
  joined = joined_in somewhere.0 window list somewhere.1 inside;
  inside = λ t some. (rows_of_some window list t inside some, (same t).0 some);
  all = λ t rows h. (same t).1 h;
}

pub one_of_joined : (operand : Operand) (a b : List Trapezoid) → IsJoinedSomewhere a → IsJoinedSomewhere b → IsJoinedSomewhere (list_of operand a b)
one_of_joined A a b h k = h
one_of_joined B a b h k = k

-- ---- a rectangle that has all of a list

pub around_by : (frame : Frame) (z : Trapezoid) → frame.y0 ≤ℤ z.y0 → z.y1 ≤ℤ frame.y1
    → frame.x0 ≤ℤ int_min (x_on z.left z.y0) (x_on z.left z.y1)
    → int_max (x_on z.right z.y0) (x_on z.right z.y1) ≤ℤ frame.x1 → IsAround frame z
around_by frame z low high left right = record {
  bottom = low;
  top = high;
  bottom_left = omega (arith, ints, clamps, left);
  top_left = omega (arith, ints, clamps, left);
  bottom_right = omega (arith, ints, clamps, right);
  top_right = omega (arith, ints, clamps, right);
}

pub all_in_rectangle : (frame : Frame) (traps others : List Trapezoid) (z : Trapezoid) → All (IsAround frame) traps
    → ((t : Tile) → IsInFrame frame t → IsInTrapezoid z t) → Contains others z
    → (t : Tile) → IsInSome traps t → IsInSome others t
all_in_rectangle frame traps others z all has among t some = counted t z others among (in_has t z (has t (some_in_box frame traps t all some)))

-- ---- the tiles that an operation takes

pub empty_none : (traps : List Trapezoid) (t : Tile) → traps ≡ [] → IsInSome traps t → ⊥
empty_none traps t e some = (let none : 1 ≤ count_in [] t = subst (λ list. 1 ≤ count_in list t) e some in omega (arith, none))

module _ (a b : List Trapezoid) (t : Tile) where
  pub or_second : a ≡ [] → IsInSome b t ↔ OfBoth Or (IsInSome a t) (IsInSome b t)
  or_second e = (λ h. inr h, λ h. elim h [ inl x ↦ absurd (empty_none a t e x) | inr y ↦ y ])

  pub or_first : b ≡ [] → IsInSome a t ↔ OfBoth Or (IsInSome a t) (IsInSome b t)
  or_first e = (λ h. inl h, λ h. elim h [ inl x ↦ x | inr y ↦ absurd (empty_none b t e y) ])

  pub xor_second : a ≡ [] → IsInSome b t ↔ OfBoth Xor (IsInSome a t) (IsInSome b t)
  xor_second e = (λ h. inr (empty_none a t e, h), λ h. elim h [ inl x ↦ absurd (empty_none a t e x.0) | inr y ↦ y.1 ])

  pub xor_first : b ≡ [] → IsInSome a t ↔ OfBoth Xor (IsInSome a t) (IsInSome b t)
  xor_first e = (λ h. inl (h, empty_none b t e), λ h. elim h [ inl x ↦ x.0 | inr y ↦ absurd (empty_none b t e y.1) ])

  pub and_first : (IsInSome a t → IsInSome b t) → IsInSome a t ↔ OfBoth And (IsInSome a t) (IsInSome b t)
  and_first in_b = (λ h. (h, in_b h), λ h. h.0)

  pub and_second : (IsInSome b t → IsInSome a t) → IsInSome b t ↔ OfBoth And (IsInSome a t) (IsInSome b t)
  and_second in_a = (λ h. (in_a h, h), λ h. h.1)

  pub sub_first : (IsInSome a t → IsInSome b t → ⊥) → IsInSome a t ↔ OfBoth Sub (IsInSome a t) (IsInSome b t)
  sub_first out = (λ h. (h, out h), λ h. h.0)
