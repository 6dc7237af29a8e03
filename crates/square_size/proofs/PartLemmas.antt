-- Lone trapezoids shrink by themselves, and the rest by itself.
use Rattle.std.proofs.Common.{◌≡◌, ◌≤◌, ◌↔◌, ℤ, pos, ◌≤ℤ◌, length, List, [], ◌∷◌, ◌++◌, Contains, sym, subst, ◌⊎◌, inl, inr, arith}
use Rattle.std.proofs.lemmas.Int.{ints}
use Rattle.std.proofs.lemmas.List.{length-append}
use Rattle.std.proofs.lemmas.List.Elements.{Contains-append_left, Contains-push, Contains-push_cases, All-contains}
use Rattle.half_grid.specs.JoinedLists.{IsJoined}
use Rattle.half_grid.specs.Nearness.{IsNear, IsShrunk}
use Rattle.half_grid.specs.Trapezoids.{Trapezoid, IsInTrapezoid, IsLegal, count_in}
use Rattle.half_grid.specs.Windows.{RowRange}
use Rattle.half_grid.specs.declared.plane.Tile.{Tile}
use Rattle.square_size.specs.Lone.{IsTouching, IsInOne, IsLone}
use Rattle.square_size.specs.Parting.{IsPartedBy, IsParted}
use Rattle.square_size.proofs.Touching.{half_double}
use Rattle.square_size.proofs.Leaving.{leaves}
use Rattle.square_size.proofs.Entering.{enters}
use Rattle.square_size.proofs.Members.{none_in_empty, counted_in, found_in, count_append, in_or_not, any_or_none}

-- ---- going through the list

-- a member of a list with one more
was_or_is : (xs : List Trapezoid) (x z : Trapezoid) {P : Type 0} → Contains (xs ++ x ∷ []) z → (Contains xs z → P) → (x ≡ z → P) → P
was_or_is xs x z {P} h old new = elim (Contains-push_cases xs x z h) [ inl there ↦ old there | inr same ↦ new same ]

-- one that touches no other
pub parted_lone : (d : ℤ) (traps done shrunk rest small : List Trapezoid) (z : Trapezoid) → IsParted d traps done shrunk rest → Contains traps z
    → IsLone traps z → ((t : Tile) → IsShrunk d d (IsInTrapezoid z) t ↔ IsInOne small t) → length small ≤ 1
    → IsParted d traps (done ++ z ∷ []) (shrunk ++ small) rest
parted_lone d traps done shrunk rest small z (lone, is) among alone left one = (
  lone ++ z ∷ [],
  record {
    counted = λ t. omega (arith, count_append t done (z ∷ []), count_append t lone (z ∷ []), is.counted t);
    lone_of = λ y h. was_or_is lone z y h (λ there. is.lone_of y there) (λ same. subst (λ w. Contains traps w × IsLone traps w) same (among, alone));
    rest_of = λ y h. is.rest_of y h;
    left = λ t. (forward t, backward t);
    few = omega (arith, is.few, one, length-append done (z ∷ []), length-append shrunk small);
  },
)
  where
    forward : (t : Tile) → IsInOne (shrunk ++ small) t → (y : Trapezoid) × Contains (lone ++ z ∷ []) y × IsShrunk d d (IsInTrapezoid y) t
    forward t h = elim (any_or_none t shrunk) [
      | inl none ↦ (
          let here : IsInOne small t = omega (arith, h, none, count_append t shrunk small) in
          (z, Contains-push lone z, (left t).1 here))
      | inr some ↦ (
          let there = (is.left t).0 some in
          (there.0, Contains-append_left lone (z ∷ []) there.0 there.1, there.2))
    ]

    backward : (t : Tile) → ((y : Trapezoid) × Contains (lone ++ z ∷ []) y × IsShrunk d d (IsInTrapezoid y) t) → IsInOne (shrunk ++ small) t
    backward t (y, h, all) = was_or_is lone z y h
        (λ there. (let n = (is.left t).1 (y, there, all) in omega (arith, n, count_append t shrunk small)))
        (λ same. (let n = (left t).0 (subst (λ w. IsShrunk d d (IsInTrapezoid w) t) (sym same) all) in omega (arith, n, count_append t shrunk small)))

-- one of the rest
pub parted_rest : (d : ℤ) (traps done shrunk rest : List Trapezoid) (z : Trapezoid) → IsParted d traps done shrunk rest → Contains traps z
    → IsParted d traps (done ++ z ∷ []) shrunk (rest ++ z ∷ [])
parted_rest d traps done shrunk rest z (lone, is) among = (
  lone,
  record {
    counted = λ t. omega (arith, count_append t done (z ∷ []), count_append t rest (z ∷ []), is.counted t);
    lone_of = λ y h. is.lone_of y h;
    rest_of = λ y h. was_or_is rest z y h (λ there. is.rest_of y there) (λ same. subst (Contains traps) same among);
    left = λ t. is.left t;
    few = omega (arith, is.few, length-append done (z ∷ []), length-append rest (z ∷ []));
  },
)

-- ---- what is left

near_itself : (d : ℤ) (t : Tile) → pos 1 ≤ℤ d → IsNear d d t t
near_itself d t low =
    let h = half_double d in
    record {
      columns = record { above = omega (arith, ints, low); below = omega (arith, ints, low) };
      rows = record { above = omega (arith, ints, low); below = omega (arith, ints, low) };
      sums = record { above = omega (arith, ints, low, h); below = omega (arith, ints, low, h) };
      differences = record { above = omega (arith, ints, low, h); below = omega (arith, ints, low, h) };
    }

module _ (d : ℤ) (low : pos 1 ≤ℤ d) (traps shrunk lone rest : List Trapezoid) (window : RowRange)
    (joined : IsJoined window traps) (is : IsPartedBy d traps traps shrunk lone rest) where
  -- a tile that touches a lone trapezoid isn't near to one that is left
  none_touches : (t n : Tile) (z : Trapezoid) {P : Type 0} → IsShrunk d d (IsInOne traps) t → Contains lone z → IsTouching z n → IsNear d d t n → P
  none_touches t n z {P} left among touches near =
      let some = left n near in let none = (is.lone_of z among).1 n touches in absurd (omega (arith, some, none))

  legal : (z : Trapezoid) → Contains traps z → IsLegal z
  legal z among = All-contains IsLegal traps z joined.legal among

  of_lone : (t : Tile) (z : Trapezoid) → IsShrunk d d (IsInOne traps) t → Contains lone z → IsInTrapezoid z t → IsShrunk d d (IsInTrapezoid z) t
  of_lone t z left among inside = λ u near. elim (in_or_not u z) [
    | inl there ↦ there
    | inr not ↦ (
        let n = leaves d z t u low (legal z (is.lone_of z among).0) near inside not in
        none_touches t n.0 z left among n.1 n.2)
  ]

  of_rest : (t : Tile) → IsShrunk d d (IsInOne traps) t → count_in lone t ≡ 0 → IsShrunk d d (IsInOne rest) t
  of_rest t left none = λ u near. elim (any_or_none u lone) [
    | inl nowhere ↦ (let one = left u near in omega (arith, one, nowhere, is.counted u))
    | inr there ↦ (
        let z = found_in u lone there in
        let outside : IsInTrapezoid z.0 t → ⊥ = λ inside. (let n = counted_in t z.0 lone z.1 inside in absurd (omega (arith, n, none))) in
        let n = enters d z.0 t u low (legal z.0 (is.lone_of z.0 z.1).0) near outside z.2 in
        none_touches t n.0 z.0 left z.1 n.1 n.2)
  ]

  forward : (t : Tile) → IsShrunk d d (IsInOne traps) t → IsInOne shrunk t ⊎ IsShrunk d d (IsInOne rest) t
  forward t left = elim (any_or_none t lone) [
    | inl none ↦ inr (of_rest t left none)
    | inr some ↦ (let z = found_in t lone some in inl ((is.left t).1 (z.0, z.1, of_lone t z.0 left z.1 z.2)))
  ]

  backward : (t : Tile) → IsInOne shrunk t ⊎ IsShrunk d d (IsInOne rest) t → IsShrunk d d (IsInOne traps) t
  backward t (inl small) = λ u near.
      (let z = (is.left t).0 small in counted_in u z.0 traps (is.lone_of z.0 z.1).0 (z.2 u near))
  backward t (inr left) = λ u near. (let some = left u near in omega (arith, some, is.counted u))

pub all_parted : (d : ℤ) (traps shrunk rest : List Trapezoid) (window : RowRange) → pos 1 ≤ℤ d → IsJoined window traps
    → IsParted d traps traps shrunk rest → (t : Tile) → IsShrunk d d (IsInOne traps) t ↔ (IsInOne shrunk t ⊎ IsShrunk d d (IsInOne rest) t)
all_parted d traps shrunk rest window low joined (lone, is) t = (
  forward d low traps shrunk lone rest window joined is t,
  backward d low traps shrunk lone rest window joined is t,
)
