-- The area of a step by its kind, over lists of the areas of its operands.
use Rattle.std.proofs.Common.{◌≡◌, ℕ, ◌^◌, List, Option, Some, IfSome, All, sym, subst, arith}
use Rattle.std.proofs.lemmas.Int.{ints}
use Rattle.std.proofs.lemmas.List.Elements.{All-weaker}
use Rattle.half_grid.specs.Trapezoids.{Trapezoid}
use Rattle.half_grid.specs.Windows.{RowRange}
use Rattle.half_grid.specs.declared.plane.Tile.{Tile}
use Rattle.half_grid.specs.declared.extent.Frame.{Frame}
use Rattle.square_size.specs.EdgeLaws.{IsInSome}
use Rattle.tone_mirror.specs.Frames.{IsInFrame, IsFrame as IsFrameWithinReach}
use Rattle.layout_model.specs.declared.cells.Cell.{Cell}
use Rattle.bool_ops.specs.declared.operations.Op.{Op}
use Rattle.deck_text.specs.declared.deck.Step.{Step}
use Rattle.deck_text.specs.declared.deck.Step.TheVariants.{Invert}
use Rattle.deck_text.specs.Sound.{IsFrame}
use Rattle.deck_plan.specs.Areas.{IsInStep}
use Rattle.deck_plan.specs.Lists.{HasArea, OfBoth, list_at, IsListed}
use Rattle.deck_plan.specs.Bounds.{HasCornersUpTo}
use Rattle.deck_plan.proofs.Corners.{corners_more}

module _ (window : RowRange) (lists : List (List Trapezoid)) where
  pub of_two : (op : Op) (a b : ℕ) (first second traps : List Trapezoid) → first ≡ list_at lists a → second ≡ list_at lists b
      → HasArea window (λ t. OfBoth op (IsInSome first t) (IsInSome second t)) traps
      → HasArea window (λ t. OfBoth op (IsListed lists a t) (IsListed lists b t)) traps
  of_two op a b first second traps e f h =
      subst (λ x. HasArea window (λ t. OfBoth op (IsListed lists a t) (IsInSome x t)) traps) f
      (subst (λ x. HasArea window (λ t. OfBoth op (IsInSome x t) (IsInSome second t)) traps) e h)

  pub of_one : (area : List Trapezoid → Tile → Type 0) (a : ℕ) (first traps : List Trapezoid) → first ≡ list_at lists a
      → HasArea window (area first) traps → HasArea window (area (list_at lists a)) traps
  of_one area a first traps e h = subst (λ x. HasArea window (area x) traps) e h

  module _ (cells : List Cell) (top : ℕ) (frame : Option Frame) where
    pub of_step : (step is : Step) (traps : List Trapezoid) → step ≡ is
        → HasArea window (λ t. IsInStep cells top frame (IsListed lists) is t) traps
        → HasArea window (λ t. IsInStep cells top frame (IsListed lists) step t) traps
    of_step step is traps e h = subst (λ s. HasArea window (λ t. IsInStep cells top frame (IsListed lists) s t) traps) (sym e) h

    pub of_frame : (own : Frame) (a : ℕ) (traps : List Trapezoid) → frame ≡ Some own → HasArea window (λ t. IsInFrame own t × (IsListed lists a t → ⊥)) traps
        → HasArea window (λ t. IsInStep cells top frame (IsListed lists) (Invert a) t) traps
    of_frame own a traps e h = subst (λ (f : Option Frame). HasArea window (λ t. IsInStep cells top f (IsListed lists) (Invert a) t) traps) (sym e) h

pub frame_reach : (frame : Frame) → IsFrame frame → IsFrameWithinReach frame
frame_reach f h = record {
  has_columns = h.columns;
  has_rows = h.rows;
  x0 = record { low = omega (arith, ints, h.x0.low); high = omega (arith, ints, h.x0.high) };
  y0 = record { low = omega (arith, ints, h.y0.low); high = omega (arith, ints, h.y0.high) };
  x1 = record { low = omega (arith, ints, h.x1.low); high = omega (arith, ints, h.x1.high) };
  y1 = record { low = omega (arith, ints, h.y1.low); high = omega (arith, ints, h.y1.high) };
}

pub some_frame : (found : Option Frame) (frame : Frame) → found ≡ Some frame → IfSome found IsFrame → IsFrameWithinReach frame
some_frame found frame e h = frame_reach frame (subst (λ f. IfSome f IsFrame) e h)

pub corners_wider : (traps : List Trapezoid) → All (HasCornersUpTo (2 ^ 42)) traps → All (HasCornersUpTo (2 ^ 43)) traps
corners_wider traps all = All-weaker (HasCornersUpTo (2 ^ 42)) (HasCornersUpTo (2 ^ 43)) (λ z h. corners_more (2 ^ 42) (2 ^ 43) z (omega arith) h) traps all
