-- The numbers of a deck are in range.
use Rattle.std.proofs.Common.{◌≡◌, ◌≤◌, Bool, true, false, List, [], ◌∷◌, Some, None, refl, sym, subst, arith}
use Rattle.std.specs.Prelude.{ℤ, pos, negsuc, ◌≤ℤ◌, ◌<ℤ◌, ◌+ℤ◌, not, unsigned_abs}
use Rattle.std.proofs.lemmas.Int.{ints}
use Rattle.std.proofs.lemmas.Bool.{false≢true}
use Rattle.half_grid.specs.Halves.{is_even}
use Rattle.half_grid.specs.declared.shot.Limits.{Limits}
use Rattle.half_grid.specs.declared.extent.Frame.{Frame}
use Rattle.deck_text.specs.Statements.{Statement, Sets, Defines, Writes, UnitIs, TopIs, BandIs, LimitsAre, FrameIs}
use Rattle.deck_text.specs.Rules.{Bound, bound, is_outside, first_outside, within_reach, above, narrow, bounds_of, out_of_range}
use Rattle.deck_text.specs.Decks.{band_of, limits_of, limits, frame_of, frame, pair}
use Rattle.deck_text.specs.Sound.{IsDeckCoordinate, IsNarrow, AreSides, IsFrame, AreLimits}
use Rattle.deck_text.proofs.RangeLemmas.{IsInside, is_inside, inside_split, same_some}

pub range_of : (s : Statement) → out_of_range s ≡ first_outside (bounds_of s)
unfolding out_of_range
range_of s = refl

-- ---- settings

pub band_range : (s : Statement) (n : ℤ) → out_of_range s ≡ None → band_of s ≡ Some n → IsInside (bound n (pos 1024) (pos 16777216))
unfolding out_of_range
band_range (Sets (UnitIs m)) n h e = absurd cc
band_range (Sets (TopIs cell)) n h e = absurd cc
band_range (Sets (BandIs rows)) n h e = subst (λ (z : ℤ). IsInside (bound z (pos 1024) (pos 16777216))) (same_some rows n e)
    (is_inside (bound rows (pos 1024) (pos 16777216))
    (inside_split (bound rows (pos 1024) (pos 16777216)) []
    (is_outside (bound rows (pos 1024) (pos 16777216))) refl h).0)
band_range (Sets (LimitsAre height width)) n h e = absurd cc
band_range (Sets (FrameIs x0 y0 x1 y1)) n h e = absurd cc
band_range (Defines name operation) n h e = absurd cc
band_range (Writes a file layer datatype) n h e = absurd cc

-- two numbers in range, one after the other
pub two_inside : (a b : Bound) (rest : List Bound) → first_outside (a ∷ b ∷ rest) ≡ None → IsInside a × IsInside b × (first_outside rest ≡ None)
two_inside a b rest h =
    let first = inside_split a (b ∷ rest) (is_outside a) refl h in
    let second = inside_split b rest (is_outside b) refl first.1 in
    (is_inside a first.0, is_inside b second.0, second.1)

limits_are : (height width : ℤ)
    → first_outside (bound height (pos 1) (pos 16777216) ∷ bound width (height +ℤ height) (pos 33554432) ∷ []) ≡ None
    → AreLimits (limits height width)
limits_are height width h =
    let both = two_inside (bound height (pos 1) (pos 16777216)) (bound width (height +ℤ height) (pos 33554432)) [] h in
    record { height_low = both.0.low; height_high = both.0.high; width_low = both.1.low; width_high = both.1.high }

same_limits : (a b : Limits) → Some a ≡ Some b → a ≡ b
same_limits a b e = cc

pub limits_range : (s : Statement) (l : Limits) → out_of_range s ≡ None → limits_of s ≡ Some l → AreLimits l
unfolding out_of_range
limits_range (Sets (UnitIs m)) l h e = absurd cc
limits_range (Sets (TopIs cell)) l h e = absurd cc
limits_range (Sets (BandIs rows)) l h e = absurd cc
limits_range (Sets (LimitsAre height width)) l h e = subst AreLimits (same_limits (limits height width) l e) (limits_are height width h)
limits_range (Sets (FrameIs x0 y0 x1 y1)) l h e = absurd cc
limits_range (Defines name operation) l h e = absurd cc
limits_range (Writes a file layer datatype) l h e = absurd cc

near : (x : ℤ) → IsInside (within_reach x) → IsDeckCoordinate x
near x h = record { low = h.low; high = h.high }

less : (x y : ℤ) → (x +ℤ pos 1) ≤ℤ y → x <ℤ y
less x y h = omega (arith, ints)

below : (x y : ℤ) → IsInside (within_reach x) → IsInside (above x y) → IsDeckCoordinate y
below x y h g = record { low = omega (arith, ints, h.low, g.low); high = g.high }

frame_is : (x0 y0 x1 y1 : ℤ) → first_outside (within_reach x0 ∷ within_reach y0 ∷ above x0 x1 ∷ above y0 y1 ∷ []) ≡ None → IsFrame (frame x0 y0 x1 y1)
frame_is x0 y0 x1 y1 h =
    let first = two_inside (within_reach x0) (within_reach y0) (above x0 x1 ∷ above y0 y1 ∷ []) h in
    let second = two_inside (above x0 x1) (above y0 y1) [] first.2 in
    record {
      x0 = near x0 first.0;
      y0 = near y0 first.1;
      x1 = below x0 x1 first.0 second.0;
      y1 = below y0 y1 first.1 second.1;
      columns = less x0 x1 second.0.low;
      rows = less y0 y1 second.1.low;
    }

same_frame : (a b : Frame) → Some a ≡ Some b → a ≡ b
same_frame a b e = cc

pub frame_range : (s : Statement) (f : Frame) → out_of_range s ≡ None → frame_of s ≡ Some f → IsFrame f
unfolding out_of_range
frame_range (Sets (UnitIs m)) f h e = absurd cc
frame_range (Sets (TopIs cell)) f h e = absurd cc
frame_range (Sets (BandIs rows)) f h e = absurd cc
frame_range (Sets (LimitsAre height width)) f h e = absurd cc
frame_range (Sets (FrameIs x0 y0 x1 y1)) f h e = subst IsFrame (same_frame (frame x0 y0 x1 y1) f e) (frame_is x0 y0 x1 y1 h)
frame_range (Defines name operation) f h e = absurd cc
frame_range (Writes a file layer datatype) f h e = absurd cc

-- ---- pairs, half sides and mirrors

fits : (n : ℤ) → IsInside (narrow n) → unsigned_abs n ≤ 4294967295
fits (pos n) h = omega (arith, ints, h.high)
fits (negsuc n) h = absurd (omega (arith, ints, h.low))

pub narrow_pair : (layer datatype : ℤ) → first_outside (narrow layer ∷ narrow datatype ∷ []) ≡ None → IsNarrow (pair layer datatype)
narrow_pair layer datatype h =
    let both = two_inside (narrow layer) (narrow datatype) [] h in
    record { layer = fits layer both.0; datatype = fits datatype both.1 }

pub even_sides : (dx dy : ℤ) → first_outside (bound dx (pos 0) (pos 65536) ∷ bound dy (pos 0) (pos 65536) ∷ []) ≡ None
    → not (is_even (dx +ℤ dy)) ≡ false → AreSides dx dy
even_sides dx dy h e =
    let both = two_inside (bound dx (pos 0) (pos 65536)) (bound dy (pos 0) (pos 65536)) [] h in
    record { dx_low = both.0.low; dx_high = both.0.high; dy_low = both.1.low; dy_high = both.1.high; even = not_odd (is_even (dx +ℤ dy)) e }
  where
    not_odd : (b : Bool) → not b ≡ false → b ≡ true
    not_odd true e = refl
    not_odd false e = absurd (false≢true (sym e))

pub near_mirror : (m : ℤ) → first_outside (within_reach m ∷ []) ≡ None → IsDeckCoordinate m
near_mirror m h = near m (is_inside (within_reach m) (inside_split (within_reach m) [] (is_outside (within_reach m)) refl h).0)
