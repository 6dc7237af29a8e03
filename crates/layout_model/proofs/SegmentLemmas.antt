-- The segments of a path go somewhere, and where no move is diagonal each goes along one axis.
use Rattle.std.proofs.Common.{◌≡◌, ◌≢◌, ◌<ℤ◌, true, false, not, List, [], ◌∷◌, get_or, All, refl, sym, ◌∙◌, subst, arith, inl, inr}
use Rattle.std.specs.Ordering.{int_eq}
use Rattle.std.proofs.lemmas.Int.{ints}
use Rattle.std.proofs.lemmas.Bool.{cases_Bool, and_cases, not-false, false_from_ne_true}
use Rattle.std.proofs.lemmas.Option.{slice_get-get_or}
use Rattle.std.proofs.lemmas.List.Elements.{All-head, All-tail, All-cons, All-nil, All-weaker}
use Rattle.half_grid.specs.Winding.{edges_of}
use Rattle.half_grid.specs.declared.plane.Point.{Point}
use Rattle.half_grid.proofs.ForCallers.{int_eq_true}
use Rattle.layout_model.specs.declared.directions.Direction.{Direction}
use Rattle.layout_model.specs.declared.directions.Direction.TheVariants.{Still, East, West, North, South}
use Rattle.layout_model.specs.Paths.{direction_of, are_one, same_point, is_diagonal, without_repeats_after, corners_after, segments_of, HasNoDiagonal}
use Rattle.layout_model.specs.PathLaws.{GoesSomewhere, IsAlongAxis}
use Rattle.layout_model.proofs.DirectionLemmas.{same_is, other_direction}
use Rattle.layout_model.specs.Walks.{is_direction}

pub one_direction : (d e : Direction) → are_one d e ≡ true → d ≡ e
one_direction Still Still h = refl
one_direction East East h = refl
one_direction West West h = refl
one_direction North North h = refl
one_direction South South h = refl
one_direction _ _ h = absurd (let bad : ⊥ = cc in bad)

-- on and on in one direction is that direction
pub on_and_on : (a b c : Point) (d : Direction) → direction_of a b ≡ d → direction_of b c ≡ d → direction_of a c ≡ d
on_and_on a b c Still h k = grind (arith, ints)
on_and_on a b c East h k = grind (arith, ints)
on_and_on a b c West h k = grind (arith, ints)
on_and_on a b c North h k = grind (arith, ints)
on_and_on a b c South h k = grind (arith, ints)

east_more : (a b : Point) → direction_of a b ≡ East → a.x <ℤ b.x
east_more a b h = grind (arith, ints)

west_less : (a b : Point) → direction_of a b ≡ West → b.x <ℤ a.x
west_less a b h = grind (arith, ints)

north_upright : (a b : Point) → direction_of a b ≡ North → a.x ≡ b.x
north_upright a b h = grind (arith, ints)

south_upright : (a b : Point) → direction_of a b ≡ South → a.x ≡ b.x
south_upright a b h = grind (arith, ints)

east_level : (a b : Point) → direction_of a b ≡ East → IsAlongAxis (a, b) → a.y ≡ b.y
east_level a b h (inl e) = let more = east_more a b h in absurd (omega (arith, ints, more, e))
east_level a b h (inr e) = e

west_level : (a b : Point) → direction_of a b ≡ West → IsAlongAxis (a, b) → a.y ≡ b.y
west_level a b h (inl e) = let less = west_less a b h in absurd (omega (arith, ints, less, e))
west_level a b h (inr e) = e

axis_on : (a b c : Point) (d : Direction) → d ≢ Still → direction_of a b ≡ d → direction_of b c ≡ d
    → IsAlongAxis (a, b) → IsAlongAxis (b, c) → IsAlongAxis (a, c)
axis_on a b c Still n h k e f = absurd (n refl)
axis_on a b c East n h k e f = inr (east_level a b h e ∙ east_level b c k f)
axis_on a b c West n h k e f = inr (west_level a b h e ∙ west_level b c k f)
axis_on a b c North n h k e f = inl (north_upright a b h ∙ north_upright b c k)
axis_on a b c South n h k e f = inl (south_upright a b h ∙ south_upright b c k)

-- ---- edges that go somewhere, and edges along an axis

goes_by : (d : Direction) → is_direction d ≡ true → d ≢ Still
goes_by d h e = let still : is_direction Still ≡ true = subst (λ x. is_direction x ≡ true) e h in absurd (let bad : ⊥ = cc in bad)

goes : (a b : Point) → same_point a b ≡ false → GoesSomewhere (a, b)
goes a b s = goes_by (direction_of a b) (other_direction a b s)

pub repeats_go : (a : Point) (points : List Point) → All GoesSomewhere (edges_of (a ∷ without_repeats_after a points))
repeats_go a [] = All-nil GoesSomewhere
repeats_go a (p ∷ points) =
    elim (cases_Bool (same_point a p)) [
      | inl s ↦ rw (s, same_is a p s) (repeats_go p points)
      | inr s ↦ rw s (All-cons GoesSomewhere (a, p) (edges_of (p ∷ without_repeats_after p points)) (goes a p s) (repeats_go p points))
    ]

repeats_along : (a : Point) (points : List Point) → All IsAlongAxis (edges_of (a ∷ points)) → All IsAlongAxis (edges_of (a ∷ without_repeats_after a points))
repeats_along a [] all = All-nil IsAlongAxis
repeats_along a (p ∷ points) all =
    let rest = repeats_along p points (All-tail IsAlongAxis (a, p) (edges_of (p ∷ points)) all) in
    elim (cases_Bool (same_point a p)) [
      | inl s ↦ rw (s, same_is a p s) rest
      | inr s ↦ rw s (All-cons IsAlongAxis (a, p) (edges_of (p ∷ without_repeats_after p points))
          (All-head IsAlongAxis (a, p) (edges_of (p ∷ points)) all) rest)
    ]

-- a property of edges that two edges of one direction hand on to the edge past both
abbrev HandsOn : (Point × Point → Type 0) → Type 0
HandsOn P = (a b c : Point) → direction_of a b ≡ direction_of b c → P (a, b) → P (b, c) → P (a, c)

module _ (P : Point × Point → Type 0) (on : HandsOn P) where
  corners_keep : (from previous last : Point) (points : List Point)
      → direction_of from last ≡ direction_of previous last → P (from, last) → All P (edges_of (last ∷ points))
      → All P (edges_of (from ∷ corners_after previous (last ∷ points)))
  corners_keep from previous last [] e p all = All-cons P (from, last) [] p (All-nil P)
  corners_keep from previous last (q ∷ points) e p all =
      let next = All-head P (last, q) (edges_of (q ∷ points)) all in
      let rest = All-tail P (last, q) (edges_of (q ∷ points)) all in
      elim (cases_Bool (are_one (direction_of previous last) (direction_of last q))) [
        | inl t ↦ (let same = e ∙ one_direction (direction_of previous last) (direction_of last q) t in
            rw t (corners_keep from last q points (on_and_on from last q (direction_of last q) same refl) (on from last q same p next) rest))
        | inr t ↦ rw t (All-cons P (from, last) (edges_of (last ∷ corners_after last (q ∷ points))) p (corners_keep last last q points refl next rest))
      ]

  corners_all : (a : Point) (points : List Point) → All P (edges_of (a ∷ points)) → All P (edges_of (a ∷ corners_after a points))
  corners_all a [] all = All-nil P
  corners_all a (p ∷ points) all =
      corners_keep a a p points refl (All-head P (a, p) (edges_of (p ∷ points)) all) (All-tail P (a, p) (edges_of (p ∷ points)) all)

-- both at once
abbrev IsMove : Point × Point → Type 0
IsMove edge = GoesSomewhere edge × IsAlongAxis edge

goes_on : HandsOn GoesSomewhere
goes_on a b c e p q s = p (let d = on_and_on a b c (direction_of b c) e refl in e ∙ sym d ∙ s)

move_on : HandsOn IsMove
move_on a b c e p q = (goes_on a b c e p.0 q.0, axis_on a b c (direction_of b c) q.0 e refl p.1 q.1)

both : (xs : List (Point × Point)) → All GoesSomewhere xs → All IsAlongAxis xs → All IsMove xs
both xs go along k d h = (go k d h, along k d h)

pub segments_go : (points : List Point) → All GoesSomewhere (segments_of points)
segments_go [] = All-nil GoesSomewhere
segments_go (a ∷ points) = corners_all GoesSomewhere goes_on a (without_repeats_after a points) (repeats_go a points)

not_diagonal : (edge : Point × Point) → is_diagonal edge ≡ false → IsAlongAxis edge
not_diagonal (a, b) h =
    elim (and_cases (not (int_eq a.x b.x)) (not (int_eq a.y b.y)) h) [
      | inl e ↦ inl (int_eq_true a.x b.x (not-false (int_eq a.x b.x) e))
      | inr e ↦ inr (int_eq_true a.y b.y (not-false (int_eq a.y b.y) e))
    ]

edges_along : (points : List Point) → HasNoDiagonal points → All IsAlongAxis (edges_of points)
edges_along points none k d h =
    let edge = get_or (edges_of points) k d in
    let found = slice_get-get_or (edges_of points) k d h in
    not_diagonal edge (false_from_ne_true (is_diagonal edge) (λ on. none k (rw found on)))

pub segments_along : (points : List Point) → HasNoDiagonal points → All IsAlongAxis (segments_of points)
segments_along [] none = All-nil IsAlongAxis
segments_along (a ∷ points) none =
    let along = repeats_along a points (edges_along (a ∷ points) none) in
    let moves = both (edges_of (a ∷ without_repeats_after a points)) (repeats_go a points) along in
    All-weaker IsMove IsAlongAxis (λ edge move. move.1) (segments_of (a ∷ points)) (corners_all IsMove move_on a (without_repeats_after a points) moves)
