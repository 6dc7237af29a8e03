-- A path that is moved: its rectangles move with its points, and it can be drawn where it could before.
use Rattle.std.proofs.Common.{◌≡◌, ◌^◌, ℕ, ℤ, pos, ◌+ℤ◌, ◌≤ℤ◌, ◌-◌, Bool, true, false, cond, List, [], ◌∷◌, length, map}
use Rattle.std.proofs.Common.{Some, None, slice_get, refl, sym, ap, subst, ◌∙◌, arith, inl, inr}
use Rattle.std.specs.Prelude.{All, IsTrue, IsSomeAnd, int_lt}
use Rattle.std.specs.Ordering.{int_eq}
use Rattle.std.proofs.lemmas.Int.{ints}
use Rattle.std.proofs.lemmas.List.{length-map}
use Rattle.std.proofs.lemmas.List.Elements.{All-nil, All-cons, All-head, All-tail}
use Rattle.std.proofs.lemmas.Option.{slice_get-map}
use Rattle.std.specs.Option.{option_map}
use Rattle.half_grid.specs.Winding.{edges_of}
use Rattle.half_grid.specs.declared.plane.Point.{Point}
use Rattle.layout_model.specs.Images.{moved}
use Rattle.layout_model.specs.Layouts.{IsWithin}
use Rattle.layout_model.specs.PathBounds.{IsNearOnPath, IsNearPoint}
use Rattle.layout_model.specs.PathLaws.{IsOutline}
use Rattle.layout_model.specs.Paths.{direction_of, are_one, moves, same_point, is_diagonal, point_at, length_of, IsEmpty, HasEmptyEnd}
use Rattle.layout_model.specs.Paths.{HasNoLength, IsDiagonalAt, IsTurnBackAt, IsCourse, IsDrawable, without_repeats_after, without_repeats}
use Rattle.layout_model.specs.Paths.{corners_after, without_straight_joints, segments_of, extended, stretches, distance_along}
use Rattle.layout_model.specs.Paths.{drawn_path, drawn_along}
use Rattle.layout_model.specs.Segments.{moved_segment, stretch_after, IsNearSegment, AreNearAfter}
use Rattle.layout_model.specs.declared.directions.Direction.{Direction}
use Rattle.layout_model.specs.declared.directions.Direction.TheVariants.{Still, East, West, North, South}
use Rattle.layout_model.specs.declared.pair.Pair.{Pair}
use Rattle.layout_model.specs.declared.shapes.Shape.{Shape}
use Rattle.layout_model.specs.declared.stretches.Stretch.{Stretch}
use Rattle.layout_model.proofs.DrawLemmas.{near_points}
use Rattle.layout_model.proofs.NearLemmas.{all_outlines, all_segments}
use Rattle.layout_model.proofs.SegmentListLemmas.{extended_moved}

-- ---- what a move leaves as it is

one_test : (p q : Bool) → (p ≡ true → q ≡ true) → (q ≡ true → p ≡ true) → p ≡ q
one_test true q h k = sym (h refl)
one_test false true h k = k refl
one_test false false h k = refl

lt_moved : (x y m : ℤ) → int_lt (x +ℤ m) (y +ℤ m) ≡ int_lt x y
lt_moved x y m = one_test _ _ (λ h. grind (arith, ints)) (λ h. grind (arith, ints))

eq_moved : (x y m : ℤ) → int_eq (x +ℤ m) (y +ℤ m) ≡ int_eq x y
eq_moved x y m = one_test _ _ (λ h. grind (arith, ints)) (λ h. grind (arith, ints))

direction_moved : (m a b : Point) → direction_of (moved m a) (moved m b) ≡ direction_of a b
direction_moved m a b = rw (lt_moved a.x b.x m.x, lt_moved b.x a.x m.x, lt_moved a.y b.y m.y, lt_moved b.y a.y m.y) refl

diagonal_moved : (m a b : Point) → is_diagonal (moved m a, moved m b) ≡ is_diagonal (a, b)
diagonal_moved m a b = rw (eq_moved a.x b.x m.x, eq_moved a.y b.y m.y) refl

same_moved : (m a b : Point) → same_point (moved m a) (moved m b) ≡ same_point a b
same_moved m a b = rw (eq_moved a.x b.x m.x, eq_moved a.y b.y m.y) refl

one_point : (x y u v : ℤ) → x ≡ u → y ≡ v → point_at x y ≡ point_at u v
one_point x y u v e f = rw (e, f) refl

-- no two points come to one
moved_back : (m a b : Point) → moved m a ≡ moved m b → a ≡ b
moved_back m a b e =
    let across : a.x +ℤ m.x ≡ b.x +ℤ m.x = ap (λ (p : Point). p.x) e in
    let upward : a.y +ℤ m.y ≡ b.y +ℤ m.y = ap (λ (p : Point). p.y) e in
    one_point a.x a.y b.x b.y (omega (arith, ints, across)) (omega (arith, ints, upward))

-- ---- the moves from point to point

edges_moved : (m : Point) (points : List Point) → edges_of (map (moved m) points) ≡ map (moved_segment m) (edges_of points)
edges_moved m [] = refl
edges_moved m (a ∷ []) = refl
edges_moved m (a ∷ b ∷ points) = ap (λ edges. (moved m a, moved m b) ∷ edges) (edges_moved m (b ∷ points))

moves_moved : (m : Point) (points : List Point) → moves (map (moved m) points) ≡ moves points
moves_moved m [] = refl
moves_moved m (a ∷ []) = refl
moves_moved m (a ∷ b ∷ points) =
    ap (λ d. d ∷ moves (map (moved m) (b ∷ points))) (direction_moved m a b)
    ∙ ap (λ ds. direction_of a b ∷ ds) (moves_moved m (b ∷ points))

-- ---- what of a list of points is no path

unmoved : (m first : Point) (points : List Point) → All (λ point. point ≡ moved m first) (map (moved m) points) → All (λ point. point ≡ first) points
unmoved m first [] h = All-nil (λ point. point ≡ first)
unmoved m first (p ∷ points) h =
    All-cons (λ point. point ≡ first) p points
    (moved_back m p first (All-head (λ point. point ≡ moved m first) (moved m p) (map (moved m) points) h))
    (unmoved m first points (All-tail (λ point. point ≡ moved m first) (moved m p) (map (moved m) points) h))

no_length : (m : Point) (points : List Point) → HasNoLength (map (moved m) points) → HasNoLength points
no_length m [] h = h
no_length m (first ∷ points) h = unmoved m first points h

some_before : {A B : Type 0} (P : A → Type 0) (Q : B → Type 0) (f : A → B) (xs : List A) (k : ℕ) → ((x : A) → Q (f x) → P x)
    → IsSomeAnd (slice_get (map f xs) k) Q → IsSomeAnd (slice_get xs k) P
some_before P Q f xs k h some =
    elim (slice_get xs k) as (λ o. slice_get (map f xs) k ≡ option_map f o → IsSomeAnd o P) [
      | None ↦ λ e. subst (λ o. IsSomeAnd o Q) e some
      | Some x ↦ λ e. h x (subst (λ o. IsSomeAnd o Q) e some)
    ] (slice_get-map f xs k)

diagonal_at : (m : Point) (points : List Point) (k : ℕ) → IsDiagonalAt (map (moved m) points) k → IsDiagonalAt points k
diagonal_at m points k h =
    some_before (λ edge. IsTrue (is_diagonal edge)) (λ edge. IsTrue (is_diagonal edge)) (moved_segment m) (edges_of points) k
    (λ (a, b) t. subst IsTrue (diagonal_moved m a b) t)
    (subst (λ edges. IsSomeAnd (slice_get edges k) (λ edge. IsTrue (is_diagonal edge))) (edges_moved m points) h)

turn_back_at : (m : Point) (points : List Point) (k : ℕ) → IsTurnBackAt (map (moved m) points) k → IsTurnBackAt points k
turn_back_at m points k h = rw (moves_moved m points) at h

-- ---- the segments

distinct_after : (m p : Point) (points : List Point)
    → without_repeats_after (moved m p) (map (moved m) points) ≡ map (moved m) (without_repeats_after p points)
distinct_after m p [] = refl
distinct_after m p (q ∷ points) =
    elim (same_point p q) as (λ t. same_point (moved m p) (moved m q) ≡ t
    → cond (same_point (moved m p) (moved m q)) (without_repeats_after (moved m q) (map (moved m) points))
    (moved m q ∷ without_repeats_after (moved m q) (map (moved m) points))
    ≡ map (moved m) (cond t (without_repeats_after q points) (q ∷ without_repeats_after q points))) [
      | true ↦ λ e. rw e (distinct_after m q points)
      | false ↦ λ e. rw e (ap (λ ps. moved m q ∷ ps) (distinct_after m q points))
    ] (same_moved m p q)

distinct_moved : (m : Point) (points : List Point) → without_repeats (map (moved m) points) ≡ map (moved m) (without_repeats points)
distinct_moved m [] = refl
distinct_moved m (p ∷ points) = ap (λ ps. moved m p ∷ ps) (distinct_after m p points)

joints_after : (m p : Point) (points : List Point) → corners_after (moved m p) (map (moved m) points) ≡ map (moved m) (corners_after p points)
joints_after m p [] = refl
joints_after m p (q ∷ []) = refl
joints_after m p (q ∷ r ∷ points) =
    let rest = corners_after (moved m q) (map (moved m) (r ∷ points)) in
    elim (are_one (direction_of p q) (direction_of q r)) as (λ t. are_one (direction_of (moved m p) (moved m q)) (direction_of (moved m q) (moved m r)) ≡ t
    → cond (are_one (direction_of (moved m p) (moved m q)) (direction_of (moved m q) (moved m r))) rest (moved m q ∷ rest)
    ≡ map (moved m) (cond t (corners_after q (r ∷ points)) (q ∷ corners_after q (r ∷ points)))) [
      | true ↦ λ e. rw e (joints_after m q (r ∷ points))
      | false ↦ λ e. rw e (ap (λ ps. moved m q ∷ ps) (joints_after m q (r ∷ points)))
    ] (ap (λ d. are_one d (direction_of (moved m q) (moved m r))) (direction_moved m p q) ∙ ap (are_one (direction_of p q)) (direction_moved m q r))

joints_moved : (m : Point) (points : List Point) → without_straight_joints (map (moved m) points) ≡ map (moved m) (without_straight_joints points)
joints_moved m [] = refl
joints_moved m (p ∷ points) = ap (λ ps. moved m p ∷ ps) (joints_after m p points)

segments_moved : (m : Point) (points : List Point) → segments_of (map (moved m) points) ≡ map (moved_segment m) (segments_of points)
segments_moved m points =
    ap (λ ps. edges_of (without_straight_joints ps)) (distinct_moved m points)
    ∙ ap edges_of (joints_moved m (without_repeats points)) ∙ edges_moved m (without_straight_joints (without_repeats points))

-- ---- the stretches

stretches_moved : (m : Point) (points : List Point) (half begin end : ℤ)
    → stretches (map (moved m) points) half begin end ≡ map (stretch_after m) (stretches points half begin end)
stretches_moved m points half begin end =
    ap (extended half begin end) (segments_moved m points) ∙ extended_moved m half begin end (segments_of points)

distance_moved : (m a b : Point) (d : Direction) → distance_along d (moved m a) (moved m b) ≡ distance_along d a b
distance_moved m a b East = omega (arith, ints)
distance_moved m a b West = omega (arith, ints)
distance_moved m a b North = omega (arith, ints)
distance_moved m a b South = omega (arith, ints)
distance_moved m a b Still = refl

length_moved : (m : Point) (s : Stretch) → length_of (stretch_after m s) ≡ length_of s
length_moved m s =
    ap (λ d. (distance_along d (moved m s.from) (moved m s.to) +ℤ s.before) +ℤ s.after) (direction_moved m s.from s.to)
    ∙ ap (λ l. (l +ℤ s.before) +ℤ s.after) (distance_moved m s.from s.to (direction_of s.from s.to))

empty_before : (m : Point) (s : Stretch) → IsEmpty (stretch_after m s) → IsEmpty s
empty_before m s h = subst (λ l. l ≤ℤ pos 0) (length_moved m s) h

empty_end : (m : Point) (all : List Stretch) → HasEmptyEnd (map (stretch_after m) all) → HasEmptyEnd all
empty_end m all (inl first) = inl (some_before IsEmpty IsEmpty (stretch_after m) all 0 (empty_before m) first)
empty_end m all (inr last) =
    inr (some_before IsEmpty IsEmpty (stretch_after m) all (length all - 1) (empty_before m)
    (subst (λ n. IsSomeAnd (slice_get (map (stretch_after m) all) (n - 1)) IsEmpty) (length-map all (stretch_after m)) last))

-- ---- what a record needs that uses a path again

-- the shapes along moved segments are those of the path that is moved so
pub path_there : (m : Point) (pair : Pair) (offsets : List Point) (fixed : Bool) (points : List Point) (half begin end : ℤ)
    → drawn_along pair offsets fixed (map (moved_segment m) (segments_of points)) half begin end
    ≡ drawn_path pair offsets fixed (map (moved m) points) half begin end
path_there m pair offsets fixed points half begin end =
    ap (λ segments. drawn_along pair offsets fixed segments half begin end) (sym (segments_moved m points))

-- a path that no end makes empty can be drawn wherever it is moved
pub drawable_there : (m : Point) (points : List Point) (half begin end : ℤ) → IsCourse points
    → (HasEmptyEnd (extended half begin end (segments_of points)) → ⊥) → IsDrawable (map (moved m) points) half begin end
drawable_there m points half begin end h ends = record {
  long = λ none. h.long (no_length m points none);
  straight = λ k at. h.straight k (diagonal_at m points k at);
  onward = λ k at. h.onward k (turn_back_at m points k at);
  ends = λ empty. ends (empty_end m (stretches points half begin end) (subst HasEmptyEnd (stretches_moved m points half begin end) empty));
}

-- segments are near 0 where the points of their path are
pub segments_near : (m : Point) (points : List Point) → All (IsWithin (2 ^ 41)) (map (moved m) points) → AreNearAfter m (segments_of points)
segments_near m points near =
    subst (All IsNearSegment) (segments_moved m points) (all_segments IsNearPoint (map (moved m) points) (near_points (map (moved m) points) near))

-- ---- how far they reach

pub path_outlines : (pair : Pair) (offsets : List Point) (fixed : Bool) (points : List Point) (half begin end : ℤ)
    → All (IsWithin (2 ^ 41)) points → IsNearOnPath half → IsNearOnPath begin → IsNearOnPath end
    → All (λ (shape : Shape). IsOutline shape.points) (drawn_path pair offsets fixed points half begin end)
path_outlines pair offsets fixed points half begin end near h b e =
    all_outlines pair offsets fixed points half begin end (near_points points near) h b e
