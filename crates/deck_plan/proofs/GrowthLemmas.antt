-- What grows of two lists of trapezoids, and what shrinks by what grows outside of it.
use Rattle.std.proofs.Common.{◌≡◌, ◌↔◌, ◌≤◌, ◌+◌, ℕ, zero, suc, ℤ, ◌⊎◌, inl, inr, List, [], ◌∷◌, ◌++◌, All, Contains, refl, subst, arith}
use Rattle.std.proofs.lemmas.List.Elements.{All-nil, All-cons, All-head, All-tail, All-weaker, All-contains, All-contains_itself}
use Rattle.std.proofs.lemmas.List.Sums.{sum_by-append}
use Rattle.half_grid.specs.Nearness.{IsNear, IsGrown, IsShrunk}
use Rattle.half_grid.specs.Trapezoids.{Trapezoid, IsInTrapezoid, count_in}
use Rattle.half_grid.specs.Windows.{RowRange}
use Rattle.half_grid.specs.declared.plane.Tile.{Tile}
use Rattle.half_grid.specs.declared.extent.Frame.{Frame}
use Rattle.square_size.specs.EdgeLaws.{IsInSome}
use Rattle.square_size.specs.Ranges.{IsRectangle}
use Rattle.tone_mirror.specs.Frames.{IsInFrame}
use Rattle.bool_ops.specs.declared.operations.Op.TheVariants.{Or, Sub}
use Rattle.bool_ops.specs.Operations.{IsInRows, IsInResult, IsJoinedOf}
use Rattle.deck_plan.specs.Lists.{HasArea}
use Rattle.deck_plan.specs.Needs.{widened}
use Rattle.deck_plan.proofs.AreaLists.{same_area, combined_has, some_decided}
use Rattle.deck_plan.proofs.Singles.{one_in}
use Rattle.deck_plan.proofs.Sizes.{near_itself, near_rows}

-- what holds of all of a list holds of all of either part of it
pub first_all : (P : Trapezoid → Type 0) (xs ys whole : List Trapezoid) → whole ≡ xs ++ ys → All P whole → All P xs
first_all P [] ys whole is all = All-nil P
first_all P (x ∷ xs) ys whole is all = let h = subst (All P) is all in
    All-cons P x xs (All-head P x (xs ++ ys) h) (first_all P xs ys (xs ++ ys) refl (All-tail P x (xs ++ ys) h))

pub last_all : (P : Trapezoid → Type 0) (xs ys whole : List Trapezoid) → whole ≡ xs ++ ys → All P whole → All P ys
last_all P [] ys whole is all = subst (All P) is all
last_all P (x ∷ xs) ys whole is all = last_all P xs ys (xs ++ ys) refl (All-tail P x (xs ++ ys) (subst (All P) is all))

count_both : (xs ys : List Trapezoid) (t : Tile) → count_in (xs ++ ys) t ≡ count_in xs t + count_in ys t
count_both xs ys t = sum_by-append _ xs ys

one_of : (a b : ℕ) → 1 ≤ (a + b) → (1 ≤ a) ⊎ (1 ≤ b)
one_of zero b h = inr (omega (arith, h))
one_of (suc a) b h = inl (omega arith)

in_first : (xs ys : List Trapezoid) (t : Tile) → IsInSome xs t → IsInSome (xs ++ ys) t
in_first xs ys t h = let both = count_both xs ys t in omega (arith, both, h)

in_last : (xs ys : List Trapezoid) (t : Tile) → IsInSome ys t → IsInSome (xs ++ ys) t
in_last xs ys t h = let both = count_both xs ys t in omega (arith, both, h)

in_both : (xs ys : List Trapezoid) (t : Tile) → IsInSome (xs ++ ys) t → IsInSome xs t ⊎ IsInSome ys t
in_both xs ys t h = let both = count_both xs ys t in one_of (count_in xs t) (count_in ys t) (omega (arith, both, h))

-- what grows of two lists grows of one after the other
pub both_grown : (dx dy : ℤ) (first last : List Trapezoid) (window : RowRange) (low high both : List Trapezoid)
    → HasArea window (IsGrown dx dy (IsInSome first)) low → HasArea window (IsGrown dx dy (IsInSome last)) high
    → IsJoinedOf window (IsInResult Or low high window) both → HasArea window (IsGrown dx dy (IsInSome (first ++ last))) both
both_grown dx dy first last window low high both before after joined =
    same_area window (λ t. IsInSome low t ⊎ IsInSome high t) (IsGrown dx dy (IsInSome (first ++ last))) both
    (λ t rows h. elim h [
      | inl a ↦ (let g = (before.inside t a).1 in (g.0, in_first first last g.0 g.1, g.2))
      | inr a ↦ (let g = (after.inside t a).1 in (g.0, in_last first last g.0 g.1, g.2))
    ])
    (λ t rows g. elim (in_both first last g.0 g.1) [
      | inl h ↦ inl (before.all t rows (g.0, h, g.2))
      | inr h ↦ inr (after.all t rows (g.0, h, g.2))
    ])
    (combined_has Or low high window both joined)

-- what is left of the widened hull without what grows of the tiles outside is what shrinks
module _ (dx dy : ℤ) (r : IsRectangle dx dy) (z : Trapezoid) (traps outside grown : List Trapezoid) (window : RowRange) (frame : Frame)
    (tiles : (t : Tile) → IsInTrapezoid z t ↔ IsInFrame frame t)
    (around : (t : Tile) → IsInSome traps t → (u : Tile) → IsNear dx dy t u → IsInFrame frame u)
    (outside_is : IsJoinedOf (widened dy window) (IsInResult Sub (z ∷ []) traps (widened dy window)) outside)
    (grown_is : HasArea window (IsGrown dx dy (IsInSome outside)) grown) where
  outside_has : HasArea (widened dy window) (λ t. IsInSome (z ∷ []) t × (IsInSome traps t → ⊥)) outside
  outside_has = combined_has Sub (z ∷ []) traps (widened dy window) outside outside_is

  -- no tile near to it is outside
  none_near : (t : Tile) → IsInRows window t → (IsInSome grown t → ⊥) → (u : Tile) → IsNear dx dy t u → IsInSome (z ∷ []) u → IsInSome traps u
  none_near t rows free u near inner = elim (some_decided traps u) [
    | inl some ↦ some
    | inr none ↦ absurd (free (grown_is.all t rows (u, outside_has.all u (near_rows dx dy window t u rows near) (inner, none), near)))
  ]

  kept : (t : Tile) → IsInRows window t → IsInSome (z ∷ []) t → (IsInSome grown t → ⊥) → IsShrunk dx dy (IsInSome traps) t
  kept t rows inner free u near =
      let own = none_near t rows free t (near_itself dx dy r t) inner in
      none_near t rows free u near (one_in z u ((tiles u).1 (around t own u near)))

  left : (t : Tile) → IsShrunk dx dy (IsInSome traps) t → IsInSome (z ∷ []) t × (IsInSome grown t → ⊥)
  left t all =
      let near = near_itself dx dy r t in (
        one_in z t ((tiles t).1 (around t (all t near) t near)),
        λ g. (let of = (grown_is.inside t g).1 in (outside_has.inside of.0 of.1).1.1 (all of.0 of.2)),
      )

  pub shrunk_left : (shrunk : List Trapezoid) → IsJoinedOf window (IsInResult Sub (z ∷ []) grown window) shrunk
      → HasArea window (IsShrunk dx dy (IsInSome traps)) shrunk
  shrunk_left shrunk joined =
      same_area window (λ t. IsInSome (z ∷ []) t × (IsInSome grown t → ⊥)) (IsShrunk dx dy (IsInSome traps)) shrunk
      (λ t rows h. kept t rows h.0 h.1) (λ t rows all. left t all)
      (combined_has Sub (z ∷ []) grown window shrunk joined)

-- what is left of the lone trapezoids of a list and of its rest, united
pub apart_shrunk : (dx dy : ℤ) (traps lone rest left both : List Trapezoid) (window : RowRange)
    → ((t : Tile) → IsShrunk dx dy (IsInSome traps) t ↔ (IsInSome lone t ⊎ IsShrunk dx dy (IsInSome rest) t))
    → HasArea window (IsShrunk dx dy (IsInSome rest)) left → IsJoinedOf window (IsInResult Or lone left window) both
    → HasArea window (IsShrunk dx dy (IsInSome traps)) both
apart_shrunk dx dy traps lone rest left both window parted has joined =
    same_area window (λ t. IsInSome lone t ⊎ IsInSome left t) (IsShrunk dx dy (IsInSome traps)) both
    (λ t rows h. elim h [ inl a ↦ (parted t).1 (inl a) | inr a ↦ (parted t).1 (inr (has.inside t a).1) ])
    (λ t rows s. elim ((parted t).0 s) [ inl a ↦ inl a | inr a ↦ inr (has.all t rows a) ])
    (combined_has Or lone left window both joined)

-- what holds of all of a list holds of all whose trapezoids are among them
pub all_among : (P : Trapezoid → Type 0) (traps some : List Trapezoid) → ((z : Trapezoid) → Contains some z → Contains traps z) → All P traps → All P some
all_among P traps some among all =
    All-weaker (Contains some) P (λ z h. All-contains P traps z all (among z h)) some (All-contains_itself some)
