-- Each segment of a path that doesn't go back is square to the one before it.
use Rattle.std.proofs.Common.{◌≡◌, ◌≢◌, ◌+◌, ℕ, zero, suc, true, false, List, [], ◌∷◌, Some, fold, take, slice_get, All, refl, sym, ◌∙◌, subst, arith, inl, inr}
use Rattle.std.specs.Prelude.{IsSomeAnd, IsTrue}
use Rattle.std.proofs.lemmas.Bool.{cases_Bool, false_from_ne_true}
use Rattle.std.proofs.lemmas.List.Elements.{All-head, All-tail}
use Rattle.half_grid.specs.Winding.{edges_of}
use Rattle.half_grid.specs.declared.plane.Point.{Point}
use Rattle.layout_model.specs.declared.directions.Direction.{Direction}
use Rattle.layout_model.specs.declared.directions.Direction.TheVariants.{Still, East, West, North, South}
use Rattle.layout_model.specs.Paths.{direction_of, are_one, are_opposite, later, moves, same_point}
use Rattle.layout_model.specs.Paths.{without_repeats_after, corners_after, segments_of, HasNoTurnBack}
use Rattle.layout_model.specs.PathLaws.{GoesSomewhere, IsSquareTurn}
use Rattle.layout_model.specs.Walks.{is_direction}
use Rattle.layout_model.proofs.DirectionLemmas.{same_is, still_self, later_direction}
use Rattle.layout_model.proofs.SegmentLemmas.{one_direction, on_and_on, repeats_go}

-- after a move in this direction none of the moves goes back
abbrev GoOn : Direction → List Direction → Type 0
GoOn heading [] = Unit {0}
GoOn heading (move ∷ rest) = (are_opposite heading move ≡ false) × GoOn (later heading move) rest

go_on : (heading : Direction) (ms : List Direction)
    → ((k : ℕ) → IsSomeAnd (slice_get ms k) (λ move. IsTrue (are_opposite (fold later heading (take k ms)) move)) → ⊥)
    → GoOn heading ms
go_on heading [] none = tt
go_on heading (m ∷ ms) none = (false_from_ne_true (are_opposite heading m) (none 0), go_on (later heading m) ms (λ k. none (suc k)))

repeats_go_on : (heading : Direction) (a : Point) (points : List Point) → GoOn heading (moves (a ∷ points))
    → GoOn heading (moves (a ∷ without_repeats_after a points))
repeats_go_on heading a [] on = tt
repeats_go_on heading a (p ∷ points) on =
    elim (cases_Bool (same_point a p)) [
      | inl s ↦ (let same = same_is a p s in
          let rest = subst (λ q. GoOn heading (direction_of q p ∷ moves (p ∷ points))) same on in
          let kept = subst (λ d. GoOn (later heading d) (moves (p ∷ points))) (still_self p) rest.1 in
          rw (s, same) (repeats_go_on heading p points kept))
      | inr s ↦ rw s (on.0, repeats_go_on (later heading (direction_of a p)) p points on.1)
    ]

-- each segment is square to the one before it, the first to a segment in this direction
abbrev Turns : Direction → List (Point × Point) → Type 0
Turns before [] = Unit {0}
Turns before (edge ∷ edges) = IsSquareTurn before (direction_of edge.0 edge.1) × Turns (direction_of edge.0 edge.1) edges

is_direction_by : (d : Direction) → d ≢ Still → is_direction d ≡ true
is_direction_by Still n = absurd (n refl)
is_direction_by East n = refl
is_direction_by West n = refl
is_direction_by North n = refl
is_direction_by South n = refl

corners_turn : (before : Direction) (from previous last : Point) (points : List Point)
    → direction_of from last ≡ direction_of previous last → IsSquareTurn before (direction_of from last)
    → GoOn (direction_of previous last) (moves (last ∷ points)) → All GoesSomewhere (edges_of (last ∷ points))
    → Turns before (edges_of (from ∷ corners_after previous (last ∷ points)))
corners_turn before from previous last [] e turn on go = (turn, tt)
corners_turn before from previous last (q ∷ points) e turn on go =
    let next = is_direction_by (direction_of last q) (All-head GoesSomewhere (last, q) (edges_of (q ∷ points)) go) in
    let rest = All-tail GoesSomewhere (last, q) (edges_of (q ∷ points)) go in
    let further = subst (λ d. GoOn d (moves (q ∷ points))) (later_direction (direction_of previous last) (direction_of last q) next) on.1 in
    elim (cases_Bool (are_one (direction_of previous last) (direction_of last q))) [
      | inl t ↦ (let same = e ∙ one_direction (direction_of previous last) (direction_of last q) t in
          let onward = on_and_on from last q (direction_of last q) same refl in
          rw t (corners_turn before from last q points onward (subst (IsSquareTurn before) (same ∙ sym onward) turn) further rest))
      | inr t ↦ (let square : IsSquareTurn (direction_of from last) (direction_of last q) = subst
          (λ d. IsSquareTurn d (direction_of last q)) (sym e) (t, on.0) in
          rw t (turn, corners_turn (direction_of from last) last last q points refl square further rest))
    ]

square_start : (d : Direction) → d ≢ Still → IsSquareTurn Still d
square_start Still n = absurd (n refl)
square_start East n = (refl, refl)
square_start West n = (refl, refl)
square_start North n = (refl, refl)
square_start South n = (refl, refl)

corners_all_turn : (a : Point) (points : List Point) → GoOn Still (moves (a ∷ points))
    → All GoesSomewhere (edges_of (a ∷ points)) → Turns Still (edges_of (a ∷ corners_after a points))
corners_all_turn a [] on go = tt
corners_all_turn a (p ∷ points) on go =
    let first = All-head GoesSomewhere (a, p) (edges_of (p ∷ points)) go in
    let rest = All-tail GoesSomewhere (a, p) (edges_of (p ∷ points)) go in
    let further = subst (λ d. GoOn d (moves (p ∷ points))) (later_direction Still (direction_of a p) (is_direction_by (direction_of a p) first)) on.1 in
    corners_turn Still a a p points refl (square_start (direction_of a p) first) further rest

segments_turn : (points : List Point) → HasNoTurnBack points → Turns Still (segments_of points)
segments_turn [] none = tt
segments_turn (a ∷ points) none = corners_all_turn a (without_repeats_after a points)
    (repeats_go_on Still a points (go_on Still (moves (a ∷ points)) none)) (repeats_go a points)

turn_at : (before : Direction) (edges : List (Point × Point)) (k : ℕ) (a b c d : Point) → Turns before edges
    → slice_get edges k ≡ Some (a, b) → slice_get edges (suc k) ≡ Some (c, d)
    → IsSquareTurn (direction_of a b) (direction_of c d)
turn_at before [] k a b c d turns e f = absurd (let bad : ⊥ = cc in bad)
turn_at before (s ∷ []) k a b c d turns e f = absurd (let bad : ⊥ = cc in bad)
turn_at before (s ∷ t ∷ edges) zero a b c d turns e f =
    let one : s ≡ (a, b) = cc in
    let two : t ≡ (c, d) = cc in
    let square = subst (λ (x : Point × Point). IsSquareTurn (direction_of x.0 x.1) (direction_of t.0 t.1)) one turns.1.0 in
    subst (λ (x : Point × Point). IsSquareTurn (direction_of a b) (direction_of x.0 x.1)) two square
turn_at before (s ∷ t ∷ edges) (suc k) a b c d turns e f = turn_at (direction_of s.0 s.1) (t ∷ edges) k a b c d turns.1 e f

pub segments_square : (points : List Point) → HasNoTurnBack points → (k : ℕ) (a b c d : Point)
    → slice_get (segments_of points) k ≡ Some (a, b) → slice_get (segments_of points) (k + 1) ≡ Some (c, d) → IsSquareTurn (direction_of a b) (direction_of c d)
segments_square points none k a b c d e f =
    let more : k + 1 ≡ suc k = omega arith in
    turn_at Still (segments_of points) k a b c d (segments_turn points none) e (rw more at f)
