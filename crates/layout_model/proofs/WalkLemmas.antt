-- A walk along a path, and the segments from corner to corner.
use Rattle.std.proofs.Common.{◌≡◌, ℤ, true, false, if◌then◌else◌, List, [], ◌∷◌, ap, ◌∙◌, sym, refl, subst, inl, inr}
use Rattle.std.proofs.lemmas.Bool.{cases_Bool}
use Rattle.std.proofs.lemmas.List.Elements.{All-cons, All-nil}
use Rattle.half_grid.specs.Winding.{edges_of}
use Rattle.half_grid.specs.declared.plane.Point.{Point}
use Rattle.layout_model.specs.declared.directions.Direction.{Direction}
use Rattle.layout_model.specs.declared.directions.Direction.TheVariants.{Still}
use Rattle.layout_model.specs.declared.stretches.Stretch.{Stretch}
use Rattle.layout_model.specs.declared.stretches.Brush.{Brush}
use Rattle.layout_model.specs.declared.stretches.Walk.{Walk}
use Rattle.layout_model.specs.Paths.{direction_of, are_one, later, same_point, without_repeats_after, corners_after, extended, stretch, stretches, HasNoLength}
use Rattle.layout_model.proofs.DirectionLemmas.{same_is, same_self, still_self, other_direction, later_direction, later_first, turn_still, turn_by}
use Rattle.layout_model.specs.Walks.{is_direction, is_turn, turns_at, walk_from, walk_on, walk_round, stretch_of}

-- the segments from here on
abbrev pub walk_list : Brush → Walk → List Point → List Stretch
walk_list brush walk [] = stretch_of brush brush.end walk ∷ []
walk_list brush walk (point ∷ points) =
    if turns_at walk point then stretch_of brush brush.half walk ∷ walk_list brush (walk_round brush walk point) points
    else walk_list brush (walk_on walk point) points

pub walk_straight : (b : Brush) (w : Walk) (p : Point) (ps : List Point) → turns_at w p ≡ false → walk_list b w (p ∷ ps) ≡ walk_list b (walk_on w p) ps
walk_straight b w p ps h = rw h refl

pub walk_turn : (b : Brush) (w : Walk) (p : Point) (ps : List Point) → turns_at w p ≡ true
    → walk_list b w (p ∷ ps) ≡ stretch_of b b.half w ∷ walk_list b (walk_round b w p) ps
walk_turn b w p ps h = rw h refl

abbrev walk : Point → Point → Direction → ℤ → Walk
walk from last heading before = record { from = from; last = last; heading = heading; before = before }

-- what stands after a point begins with some corner
some_corner : (a b : Point) (rest : List Point) → (c : Point) × (cs : List Point) × (corners_after a (b ∷ rest) ≡ c ∷ cs)
some_corner a b [] = (b, [], refl)
some_corner a b (q ∷ rest) =
    elim (cases_Bool (are_one (direction_of a b) (direction_of b q))) [
      | inl e ↦ (let more = some_corner b q rest in (more.0, more.1, rw e more.2))
      | inr e ↦ (b, corners_after b (q ∷ rest), rw e refl)
    ]

extended_by : (half before end : ℤ) (s : Point × Point) (a c : Point) (cs : List Point)
    → extended half before end (s ∷ edges_of (a ∷ c ∷ cs)) ≡ stretch half before half s ∷ extended half half end
    (edges_of (a ∷ c ∷ cs))
extended_by half before end s a c cs = refl

extended_corner : (half before end : ℤ) (s : Point × Point) (a b : Point) (rest : List Point)
    → extended half before end (s ∷ edges_of (a ∷ corners_after a (b ∷ rest))) ≡ stretch half before half s
    ∷ extended half half end (edges_of (a ∷ corners_after a (b ∷ rest)))
extended_corner half before end s a b rest =
    let some = some_corner a b rest in
    rw (some.2) (extended_by half before end s a some.0 some.1)

-- the segments by the corners after the point `previous`, where the walk came straight from the corner `from`
abbrev by_corners : Brush → Point → Point → ℤ → List Point → List Stretch
by_corners b from previous before points = extended b.half before b.end (edges_of (from ∷ corners_after previous points))

corners_same : (b : Brush) (from previous last : Point) (before : ℤ) (ps : List Point)
    → by_corners b from previous before (last ∷ without_repeats_after last (last ∷ ps))
    ≡ by_corners b from previous before (last ∷ without_repeats_after last ps)
corners_same b from previous last before ps = rw (same_self last) refl

corners_straight : (b : Brush) (from previous last p : Point) (before : ℤ) (ps : List Point)
    → same_point last p ≡ false → are_one (direction_of previous last) (direction_of last p) ≡ true
    → by_corners b from previous before (last ∷ without_repeats_after last (p ∷ ps)) ≡ by_corners b from last before (p ∷ without_repeats_after p ps)
corners_straight b from previous last p before ps s t = rw (s, t) refl

corners_turn : (b : Brush) (from previous last p : Point) (before : ℤ) (ps : List Point) → same_point last p ≡ false
    → are_one (direction_of previous last) (direction_of last p) ≡ false
    → by_corners b from previous before (last ∷ without_repeats_after last (p ∷ ps)) ≡ stretch b.half before b.half
    (from, last) ∷ by_corners b last last b.half (p ∷ without_repeats_after p ps)
corners_turn b from previous last p before ps s t = rw (s, t) (extended_corner b.half before b.end (from, last) last p (without_repeats_after p ps))

walk_same : (b : Brush) (from last : Point) (heading : Direction) (before : ℤ) (ps : List Point)
    → walk_list b (walk from last heading before) (last ∷ ps) ≡ walk_list b (walk from last heading before) ps
walk_same b from last heading before ps =
    let still = still_self last in
    walk_straight b (walk from last heading before) last ps (ap (is_turn heading) still ∙ turn_still heading) ∙ ap
    (λ d. walk_list b (walk from last (later heading d) before) ps) still

from_corner : (b : Brush) (ps : List Point) (from previous last : Point) (heading : Direction) (before : ℤ)
    → heading ≡ direction_of previous last → is_direction heading ≡ true
    → walk_list b (walk from last heading before) ps ≡ by_corners b from previous before (last ∷ without_repeats_after last ps)
from_corner b [] from previous last heading before eh dh = refl
from_corner b (p ∷ ps) from previous last heading before eh dh =
    elim (cases_Bool (same_point last p)) [
      | inl s ↦
          subst (λ (q : Point). walk_list b (walk from last heading before)
          (q ∷ ps) ≡ by_corners b from previous before (last ∷ without_repeats_after last (q ∷ ps)))
          (same_is last p s)
          (walk_same b from last heading before ps ∙ from_corner b ps from previous last heading before eh dh ∙ sym
          (corners_same b from previous last before ps))
      | inr s ↦ (let moves = other_direction last p s in elim (cases_Bool (are_one heading (direction_of last p))) [
        | inl t ↦
            walk_straight b (walk from last heading before) p ps (turn_by heading (direction_of last p) true dh moves t)
            ∙ ap (λ d. walk_list b (walk from p d before) ps) (later_direction heading (direction_of last p) moves)
            ∙ from_corner b ps from last p (direction_of last p) before refl moves
            ∙ sym (corners_straight b from previous last p before ps s (subst (λ d. are_one d (direction_of last p) ≡ true) eh t))
        | inr t ↦
            walk_turn b (walk from last heading before) p ps (turn_by heading (direction_of last p) false dh moves t)
            ∙ ap (λ (rest : List Stretch). stretch b.half before b.half (from, last) ∷ rest)
            (from_corner b ps last last p (direction_of last p) b.half refl moves)
            ∙ sym (corners_turn b from previous last p before ps s (subst (λ d. are_one d (direction_of last p) ≡ false) eh t))
      ])
    ]

start_same : (b : Brush) (a : Point) (ps : List Point) → walk_list b (walk_from b a) (a ∷ ps) ≡ walk_list b (walk_from b a) ps
start_same b a ps = walk_same b a a Still b.begin ps

stretches_same : (b : Brush) (a : Point) (ps : List Point) → stretches (a ∷ a ∷ ps) b.half b.begin b.end ≡ stretches (a ∷ ps) b.half b.begin b.end
stretches_same b a ps = rw (same_self a) refl

stretches_other : (b : Brush) (a p : Point) (ps : List Point) → same_point a p ≡ false
    → stretches (a ∷ p ∷ ps) b.half b.begin b.end ≡ by_corners b a a b.begin (p ∷ without_repeats_after p ps)
stretches_other b a p ps s = rw s refl

-- the walk from a path's first point goes along its segments
pub whole_walk : (b : Brush) (ps : List Point) (a : Point) → (HasNoLength (a ∷ ps) → ⊥)
    → walk_list b (walk_from b a) ps ≡ stretches (a ∷ ps) b.half b.begin b.end
whole_walk b [] a long = absurd (long (All-nil (λ p. p ≡ a)))
whole_walk b (p ∷ ps) a long =
    elim (cases_Bool (same_point a p)) [
      | inl s ↦
          subst (λ (q : Point). (HasNoLength (a ∷ q ∷ ps) → ⊥) → walk_list b (walk_from b a) (q ∷ ps) ≡ stretches
          (a ∷ q ∷ ps) b.half b.begin b.end) (same_is a p s)
          (λ far. start_same b a ps ∙ whole_walk b ps a (λ all. far (All-cons (λ p. p ≡ a) a ps refl all)) ∙ sym (stretches_same b a ps))
          long
      | inr s ↦
          walk_straight b (walk_from b a) p ps refl
          ∙ ap (λ d. walk_list b (walk a p d b.begin) ps) (later_first (direction_of a p))
          ∙ from_corner b ps a a p (direction_of a p) b.begin refl (other_direction a p s)
          ∙ sym (stretches_other b a p ps s)
    ]
