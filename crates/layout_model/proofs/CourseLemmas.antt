-- A walk along a path's points, as far as no move was diagonal or none went back, and the points that equal the first.
use Rattle.std.proofs.Common.{◌≡◌, ◌<◌, ◌≤◌, ℕ, ◌+◌, zero, suc, below_more, true, false, List, [], ◌∷◌, length, get_or}
use Rattle.std.proofs.Common.{drop, take, None, slice_get, refl, ap, ◌∙◌, sym, subst, arith, inl, inr}
use Rattle.std.proofs.lemmas.Bool.{cases_lt, both_ways}
use Rattle.std.proofs.lemmas.List.Sums.{fold_more}
use Rattle.std.specs.Prelude.{IsSomeAnd}
use Rattle.half_grid.specs.Winding.{edges_of}
use Rattle.half_grid.specs.declared.plane.Point.{Point}
use Rattle.layout_model.specs.declared.directions.Direction.{Direction}
use Rattle.layout_model.specs.declared.directions.Direction.TheVariants.{Still}
use Rattle.layout_model.specs.Paths.{direction_of, are_opposite, later, last_direction, moves, is_diagonal}
use Rattle.layout_model.specs.Paths.{IsDiagonalAt, HasNoDiagonal, IsFirstDiagonal, IsTurnBackAt, HasNoTurnBack}
use Rattle.layout_model.specs.Paths.{IsFirstTurnBack, HasNoLength, same_point}
use Rattle.layout_model.proofs.DirectionLemmas.{same_is, same_self}
use Rattle.layout_model.proofs.Cuts.{cut_at, get_at, get_past, HasNone, none_more}

one_more : (k : ℕ) → k + 1 ≡ suc k
one_more k = omega arith

no_place : {A : Type 0} (P : A → Type 0) (xs : List A) (k : ℕ) → slice_get xs k ≡ None → IsSomeAnd (slice_get xs k) P → ⊥
no_place P xs k e = rw e (λ h. h)

-- ---- diagonals

-- so many moves were passed, and the walk stands at the point before the rest
pub record Straight (points : List Point) (at : Point) (rest : List Point) (number : ℕ) : Type 0 where
  pub edges : drop number (edges_of points) ≡ edges_of (at ∷ rest)
  pub none : HasNone (IsDiagonalAt points) number

pub straight_more : (points : List Point) (a b : Point) (rest : List Point) (k : ℕ) → Straight points a (b ∷ rest) k
    → is_diagonal (a, b) ≡ false → Straight points b rest (k + 1)
straight_more points a b rest k p off =
    let at = get_at (edges_of points) k (a, b) (edges_of (b ∷ rest)) p.edges in
    record {
      edges = rw (one_more k) (cut_at (edges_of points) k (a, b) (edges_of (b ∷ rest)) p.edges).rest;
      none = none_more (IsDiagonalAt points) k p.none (rw at (λ on. absurd (let bad : ⊥ = cc in bad)));
    }

pub straight_diagonal : (points : List Point) (a b : Point) (rest : List Point) (k : ℕ)
    → Straight points a (b ∷ rest) k → is_diagonal (a, b) ≡ true → IsFirstDiagonal points k
straight_diagonal points a b rest k p on =
    let at = get_at (edges_of points) k (a, b) (edges_of (b ∷ rest)) p.edges in
    record { here = rw at on; before = p.none }

pub straight_end : (points : List Point) (a : Point) (k : ℕ) → Straight points a [] k → HasNoDiagonal points
straight_end points a k p j =
    elim (cases_lt j k) [
      | inl h ↦ p.none j h
      | inr h ↦ (let past = get_past (edges_of points) k j p.edges h in rw past (λ on. on))
    ]

-- ---- turns back

pub record Onward (points : List Point) (at : Point) (rest : List Point) (heading : Direction) (number : ℕ) : Type 0 where
  pub left : drop number (moves points) ≡ moves (at ∷ rest)
  pub last : heading ≡ last_direction (take number (moves points))
  pub none : HasNone (IsTurnBackAt points) number

pub onward_more : (points : List Point) (a b : Point) (rest : List Point) (heading : Direction) (k : ℕ) → Onward points a (b ∷ rest) heading k
    → are_opposite heading (direction_of a b) ≡ false → Onward points b rest (later heading (direction_of a b)) (k + 1)
onward_more points a b rest heading k p off =
    let cut = cut_at (moves points) k (direction_of a b) (moves (b ∷ rest)) p.left in
    let at = get_at (moves points) k (direction_of a b) (moves (b ∷ rest)) p.left in
    let on = subst (λ h. are_opposite h (direction_of a b) ≡ false) p.last off in
    record {
      left = rw (one_more k) cut.rest;
      last =
          ap (λ h. later h (direction_of a b)) p.last
          ∙ ap (later (last_direction (take k (moves points)))) (sym (cut.item Still))
          ∙ sym (fold_more later Still (moves points) k Still cut.inside);
      none = none_more (IsTurnBackAt points) k p.none (rw at (λ back. absurd (let bad : ⊥ = cc in bad)));
    }

pub onward_back : (points : List Point) (a b : Point) (rest : List Point) (heading : Direction) (k : ℕ) → Onward points a (b ∷ rest) heading k
    → are_opposite heading (direction_of a b) ≡ true → IsFirstTurnBack points k
onward_back points a b rest heading k p back =
    let at = get_at (moves points) k (direction_of a b) (moves (b ∷ rest)) p.left in
    let on = subst (λ h. are_opposite h (direction_of a b) ≡ true) p.last back in
    record { here = rw at on; before = p.none }

pub onward_end : (points : List Point) (a : Point) (heading : Direction) (k : ℕ) → Onward points a [] heading k → HasNoTurnBack points
onward_end points a heading k p j =
    elim (cases_lt j k) [
      | inl h ↦ p.none j h
      | inr h ↦ (let past = get_past (moves points) k j p.left h in rw past (λ on. on))
    ]

-- ---- points that equal the first

get_either : (xs : List Point) (k : ℕ) (d e : Point) → k < length xs → get_or xs k d ≡ get_or xs k e
get_either [] k d e h = absurd (omega (arith, h))
get_either (x ∷ xs) zero d e h = refl
get_either (x ∷ xs) (suc k) d e h = get_either xs k d e (omega (arith, h))

-- the first so many points equal this one
abbrev pub AreSame : Point → List Point → ℕ → Type 0
AreSame a rest number = (k : ℕ) → k < number → (other : Point) → get_or rest k other ≡ a

pub same_more : (a : Point) (rest : List Point) (k : ℕ) (d : Point) → AreSame a rest k → k < length rest
    → same_point (get_or rest k d) a ≡ true → AreSame a rest (k + 1)
same_more a rest k d all h s = below_more (λ j. (other : Point) → get_or rest j other ≡ a) k all
    (λ other. get_either rest k other d h ∙ same_is (get_or rest k d) a s)

pub same_all : (points : List Point) (a : Point) (rest : List Point) (k : ℕ) → points ≡ a ∷ rest → AreSame a rest k → length rest ≤ k → HasNoLength points
same_all points a rest k e all h = subst HasNoLength (sym e) (λ j d low. all j (omega (arith, low, h)) d)

pub same_not : (points : List Point) (a : Point) (rest : List Point) (k : ℕ) (d : Point) → points ≡ a ∷ rest
    → k < length rest → same_point (get_or rest k d) a ≡ false → HasNoLength points → ⊥
same_not points a rest k d e h s all =
    let equal : get_or rest k d ≡ a = (subst HasNoLength e all) k d h in
    let other = subst (λ q. same_point q a ≡ false) equal s in
    let one = same_self a in
    both_ways (same_point a a) other one
