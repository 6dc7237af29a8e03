-- The segments of a path in a list: with their lengths, one by one, and as a walk finds them.
use Rattle.std.proofs.Common.{◌≡◌, ◌<◌, ◌+◌, ℕ, ℤ, pos, zero, suc, Bool, true, false, List, [], ◌∷◌, ◌++◌, map, length, Some, slice_get, get_or}
use Rattle.std.proofs.Common.{refl, sym, ap, subst, ◌∙◌, append_assoc, arith}
use Rattle.std.proofs.lemmas.List.{length-map, map-append}
use Rattle.std.proofs.lemmas.Option.{slice_get_within, slice_get-map, get_or_from_slice_get}
use Rattle.std.specs.Option.{option_map}
use Rattle.half_grid.specs.declared.plane.Point.{Point}
use Rattle.layout_model.specs.Images.{moved}
use Rattle.layout_model.specs.PathBounds.{IsNearBrush, IsNearStretch}
use Rattle.layout_model.specs.Paths.{HasNoLength, rectangle_of, rectangle_shape, drawn_along, extended, stretch, segments_of}
use Rattle.layout_model.specs.Segments.{segment_of, segments_in, ends_of, moved_segment, stretch_after, AreNearAfter}
use Rattle.layout_model.specs.Walks.{turns_at, walk_from, walk_on, walk_round}
use Rattle.layout_model.specs.declared.pair.Pair.{Pair}
use Rattle.layout_model.specs.declared.stretches.Brush.{Brush}
use Rattle.layout_model.specs.declared.stretches.Segment.{Segment}
use Rattle.layout_model.specs.declared.stretches.Stretch.{Stretch}
use Rattle.layout_model.specs.declared.stretches.Walk.{Walk}
use Rattle.layout_model.proofs.NearLemmas.{near_extended}
use Rattle.layout_model.proofs.WalkLemmas.{walk_list, walk_straight, walk_turn, whole_walk}

extended_length : (half before end : ℤ) (segments : List (Point × Point)) → length (extended half before end segments) ≡ length segments
extended_length half before end [] = refl
extended_length half before end (a ∷ []) = refl
extended_length half before end (a ∷ b ∷ segments) = ap suc (extended_length half half end (b ∷ segments))

pub drawn_length : (pair : Pair) (offsets : List Point) (fixed : Bool) (segments : List (Point × Point)) (half begin end : ℤ)
    → length (drawn_along pair offsets fixed segments half begin end) ≡ length segments
drawn_length pair offsets fixed segments half begin end =
    length-map _ _ ∙ length-map _ _ ∙ extended_length half begin end segments

-- ---- one by one

-- a segment with its lengths, by its number
pub extended_at : (half before end : ℤ) (segments : List (Point × Point)) (k : ℕ) (s : Point × Point) (first last : ℤ) → slice_get segments k ≡ Some s
    → (k ≡ 0 → first ≡ before) → (0 < k → first ≡ half) → (k + 1 ≡ length segments → last ≡ end) → (k + 1 < length segments → last ≡ half)
    → slice_get (extended half before end segments) k ≡ Some (stretch half first last s)
extended_at half before end [] k s first last at b0 b1 e0 e1 = absurd (omega (arith, slice_get_within [] k s at))
extended_at half before end (a ∷ []) zero s first last at b0 b1 e0 e1 =
    let e : a ≡ s = cc in rw (b0 refl, e0 refl, e) refl
extended_at half before end (a ∷ []) (suc k) s first last at b0 b1 e0 e1 = absurd (omega (arith, slice_get_within (a ∷ []) (suc k) s at))
extended_at half before end (a ∷ b ∷ segments) zero s first last at b0 b1 e0 e1 =
    let e : a ≡ s = cc in rw (b0 refl, e1 (omega arith), e) refl
extended_at half before end (a ∷ b ∷ segments) (suc k) s first last at b0 b1 e0 e1 =
    extended_at half half end (b ∷ segments) k s first last at
    (λ none. b1 (omega arith)) (λ some. b1 (omega arith)) (λ at_end. e0 (omega arith)) (λ sooner. e1 (omega arith))

one_stretch : (s t : Stretch) → t.from ≡ s.from → t.to ≡ s.to → t.half ≡ s.half
    → record { from = s.from; to = s.to; half = s.half; before = t.before; after = t.after } ≡ t
one_stretch s t from to half = rw (← from, ← to, ← half) refl

pub stretch_in : (b : Brush) (items : List Segment) (k : ℕ) (s : Segment) (t : Stretch) → slice_get items k ≡ Some s
    → t.from ≡ s.from → t.to ≡ s.to → t.half ≡ b.half → (k ≡ 0 → t.before ≡ b.begin) → (0 < k → t.before ≡ b.half)
    → (k + 1 ≡ length items → t.after ≡ b.end) → (k + 1 < length items → t.after ≡ b.half)
    → slice_get (extended b.half b.begin b.end (segments_in items)) k ≡ Some t
stretch_in b items k s t at from to half b0 b1 e0 e1 =
    let there : slice_get (segments_in items) k ≡ Some (segment_of s) = slice_get-map segment_of items k ∙ ap (option_map segment_of) at in
    let same : length (segments_in items) ≡ length items = length-map items segment_of in
    extended_at b.half b.begin b.end (segments_in items) k (segment_of s) t.before t.after there b0 b1 (λ e. e0 (omega (arith, e, same)))
    (λ less. e1 (omega (arith, less, same)))
    ∙ ap Some (one_stretch (record { from = s.from; to = s.to; half = b.half; before = t.before; after = t.after }) t from to half)

-- there are as many as the path has segments
pub many_extended : (half before end : ℤ) (items : List Segment) → length (extended half before end (segments_in items)) ≡ length items
many_extended half before end items = extended_length half before end (segments_in items) ∙ length-map items segment_of

-- ---- moved

pub extended_moved : (m : Point) (half before end : ℤ) (segments : List (Point × Point))
    → extended half before end (map (moved_segment m) segments) ≡ map (stretch_after m) (extended half before end segments)
extended_moved m half before end [] = refl
extended_moved m half before end ((a, b) ∷ []) = refl
extended_moved m half before end ((a, b) ∷ (c, d) ∷ segments) =
    ap (λ rest. stretch half before half (moved m a, moved m b) ∷ rest) (extended_moved m half half end ((c, d) ∷ segments))

moved_at : (m : Point) (b : Brush) (segments : List (Point × Point)) (k : ℕ) (s : Stretch)
    → slice_get (extended b.half b.begin b.end segments) k ≡ Some s
    → slice_get (extended b.half b.begin b.end (map (moved_segment m) segments)) k ≡ Some (stretch_after m s)
moved_at m b segments k s at =
    ap (λ (all : List Stretch). slice_get all k) (extended_moved m b.half b.begin b.end segments)
    ∙ slice_get-map (stretch_after m) (extended b.half b.begin b.end segments) k ∙ ap (option_map (stretch_after m)) at

-- a shape by its segment
pub drawn_at : (m : Point) (b : Brush) (pair : Pair) (offsets : List Point) (fixed : Bool) (segments : List (Point × Point)) (k : ℕ) (s : Stretch)
    → slice_get (extended b.half b.begin b.end segments) k ≡ Some s
    → slice_get (drawn_along pair offsets fixed (map (moved_segment m) segments) b.half b.begin b.end) k
    ≡ Some (rectangle_shape pair offsets fixed (rectangle_of (stretch_after m s)))
drawn_at m b pair offsets fixed segments k s at =
    let all : List Stretch = extended b.half b.begin b.end (map (moved_segment m) segments) in
    slice_get-map (rectangle_shape pair offsets fixed) (map rectangle_of all) k
    ∙ ap (option_map (rectangle_shape pair offsets fixed)) (slice_get-map rectangle_of all k)
    ∙ ap (λ o. option_map (rectangle_shape pair offsets fixed) (option_map rectangle_of o)) (moved_at m b segments k s at)

-- its numbers are near 0
pub near_at : (m : Point) (b : Brush) (segments : List (Point × Point)) (k : ℕ) (s : Stretch) → AreNearAfter m segments → IsNearBrush b
    → slice_get (extended b.half b.begin b.end segments) k ≡ Some s → IsNearStretch (stretch_after m s)
near_at m b segments k s near brush at =
    let all : List Stretch = extended b.half b.begin b.end (map (moved_segment m) segments) in
    let there : slice_get all k ≡ Some (stretch_after m s) = moved_at m b segments k s at in
    let found : get_or all k (stretch_after m s) ≡ stretch_after m s = get_or_from_slice_get all k (stretch_after m s) (stretch_after m s) there in
    subst IsNearStretch found
    (near_extended b.half b.begin b.end (map (moved_segment m) segments) brush.half brush.begin brush.end near k (stretch_after m s)
    (slice_get_within all k (stretch_after m s) there))

-- ---- as a walk finds them

-- corners don't depend on these
abbrev pub no_lengths : Brush
no_lengths = record { half = pos 0; begin = pos 0; end = pos 0 }

abbrev ends : Stretch → Point × Point
ends s = (s.from, s.to)

ends_extended : (half before end : ℤ) (segments : List (Point × Point)) → map ends (extended half before end segments) ≡ segments
ends_extended half before end [] = refl
ends_extended half before end ((a, b) ∷ []) = refl
ends_extended half before end ((a, b) ∷ next ∷ segments) = ap (λ rest. (a, b) ∷ rest) (ends_extended half half end (next ∷ segments))

-- what the walk has passed, with what is left, is the whole
pub record Passed (b : Brush) (whole : List Stretch) (segments : List Segment) (w : Walk) (rest : List Point) : Type 0 where
  pub split : segments_in segments ++ map ends (walk_list b w rest) ≡ map ends whole

pub passed_start : (b : Brush) (w : Walk) (rest : List Point) (segments : List Segment) → segments ≡ [] → Passed b (walk_list b w rest) segments w rest
passed_start b w rest segments none = record { split = rw none refl }

pub passed_turn : (b : Brush) (whole : List Stretch) (segments more : List Segment) (w v : Walk) (p : Point) (rest : List Point) (s : Segment)
    → Passed b whole segments w (p ∷ rest) → turns_at w p ≡ true → segment_of s ≡ ends_of w → more ≡ segments ++ s ∷ [] → v ≡ walk_round b w p
    → Passed b whole more v rest
passed_turn b whole segments more w v p rest s passed turn same all next = record {
  split =
      rw (all, next, map-append segment_of segments (s ∷ []), same)
      (append_assoc (segments_in segments) (ends_of w ∷ []) (map ends (walk_list b (walk_round b w p) rest))
      ∙ ap (λ (xs : List Stretch). segments_in segments ++ map ends xs) (sym (walk_turn b w p rest turn)) ∙ passed.split);
}

pub passed_on : (b : Brush) (whole : List Stretch) (segments more : List Segment) (w v : Walk) (p : Point) (rest : List Point)
    → Passed b whole segments w (p ∷ rest) → turns_at w p ≡ false → more ≡ segments → v ≡ walk_on w p → Passed b whole more v rest
passed_on b whole segments more w v p rest passed on all next = record {
  split = rw (all, next) (ap (λ (xs : List Stretch). segments_in segments ++ map ends xs) (sym (walk_straight b w p rest on)) ∙ passed.split);
}

pub passed_end : (b : Brush) (points : List Point) (a : Point) (rest : List Point) (segments more : List Segment) (w : Walk) (s : Segment)
    → points ≡ a ∷ rest → (HasNoLength points → ⊥) → Passed b (walk_list b (walk_from b a) rest) segments w []
    → segment_of s ≡ ends_of w → more ≡ segments ++ s ∷ [] → segments_in more ≡ segments_of points
passed_end b points a rest segments more w s same long passed last all =
    rw (all, map-append segment_of segments (s ∷ []), last)
    (passed.split
    ∙ ap (map ends) (whole_walk b rest a (λ none. long (subst HasNoLength (sym same) none)))
    ∙ ends_extended b.half b.begin b.end (segments_of (a ∷ rest))
    ∙ ap segments_of (sym same))
