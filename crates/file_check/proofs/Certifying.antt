-- Which verdict it is, exactly where.
use Rattle.std.proofs.Common.{◌≡◌, ℕ, pos, refl, sym, ap, subst, ◌∙◌, List, All, arith}
use Rattle.std.specs.Prelude.{◌↔◌}
use Rattle.std.proofs.lemmas.Int.{ints, by_lt_z}
use Rattle.std.proofs.lemmas.Option.{get_or_from_slice_get, slice_get_within}
use Rattle.std.proofs.lemmas.List.Elements.{All-get_or}
use mathlib.Core.Logic.{inl, inr}
use Rattle.half_grid.specs.Trapezoids.{Trapezoid, CoversExactly, count_in}
use Rattle.half_grid.specs.declared.plane.Tile.{Tile}
use Rattle.half_grid.specs.declared.shot.Limits.{Limits}
use Rattle.half_grid.proofs.ForCallers.{same_number}
use Rattle.plane_sweep.specs.Lowest.{ComesNoLater}
use Rattle.shot_checker.specs.Verdicts.{Fits, IsFirstTooLarge}
use Rattle.shot_checker.specs.declared.verdicts.Verdict.{Verdict}
use Rattle.shot_checker.specs.declared.verdicts.Verdict.TheVariants.{Exact, Miscovered, TooLarge}
use Rattle.deck_plan.specs.Plans.{Planned, planned_area}
use Rattle.file_check.specs.Certificates.{IsWantedCount, IsFirstWrongTile, IsCertified, IsMiscover}
use Rattle.file_check.proofs.FaultLemmas.{two_wanted}

one_wanted : (area : Tile → Type 0) (t : Tile) (m n : ℕ) → IsWantedCount area t m → IsWantedCount area t n → m ≡ n
one_wanted area t m n a b =
    by_lt_z (pos m) (pos n)
    (λ lt. absurd (two_wanted area t m n a b (λ e. omega (arith, ints, lt, e))))
    (λ le. by_lt_z (pos n) (pos m)
    (λ lt. absurd (two_wanted area t m n a b (λ e. omega (arith, ints, lt, e))))
    (λ ge. omega (arith, ints, le, ge)))

-- two tiles of which neither comes later are one
one_tile : (t u : Tile) → ComesNoLater t u → ComesNoLater u t → t ≡ u
one_tile t u a b =
    elim a [
      | inl lt ↦ elim b [ inl gt ↦ absurd (omega (arith, ints, lt, gt)) | inr same ↦ (let e = same.0 in absurd (omega (arith, ints, lt, e))) ]
      | inr same ↦ elim b [
        | inl gt ↦ (let e = same.0 in absurd (omega (arith, ints, gt, e)))
        | inr back ↦ (let le = same.1 in let ge = back.1 in same_number t u same.0 (omega (arith, ints, le, ge)))
      ]
    ]

pub one_fault : (area : Tile → Type 0) (shots : List Trapezoid) (t u : Tile) (m n x y : ℕ)
    → IsFirstWrongTile area shots t m n → IsFirstWrongTile area shots u x y → Miscovered t m n ≡ Miscovered u x y
one_fault area shots t u m n x y a b =
    let e : t ≡ u = one_tile t u (a.first u b.miscovered) (b.first t a.miscovered) in
    let count : m ≡ x = a.count_is ∙ ap (count_in shots) e ∙ sym b.count_is in
    let wanted : n ≡ y = one_wanted area u n y (subst (λ s. IsWantedCount area s n) e a.wanted_is) b.wanted_is in
    rw (e, count, wanted) refl

pub not_covered : (area : Tile → Type 0) (shots : List Trapezoid) (t : Tile) (m n : ℕ) → IsFirstWrongTile area shots t m n → CoversExactly shots area → ⊥
not_covered area shots t m n a covers = a.miscovered (record { once = covers.once t; never = covers.never t })

pub not_all_fit : (limits : Limits) (shots : List Trapezoid) (k : ℕ) → IsFirstTooLarge shots limits k → All (Fits limits) shots → ⊥
not_all_fit limits shots k first fit =
    let within = slice_get_within shots k first.shot first.at in
    first.too_large (subst (Fits limits) (get_or_from_slice_get shots k first.shot first.shot first.at)
    (All-get_or (Fits limits) shots k first.shot within fit))

module _ (p : Planned) (k : ℕ) (shots : List Trapezoid) where
  abbrev Says : Verdict → Type 0
  Says Exact = IsCertified p k shots
  Says (Miscovered t count wanted) = IsMiscover p k shots t count wanted
  Says (TooLarge i) = IsFirstTooLarge shots p.deck.limits i

  module _ (t : Tile) (count wanted : ℕ) (h : IsMiscover p k shots t count wanted) where
    pub not_exact : (Miscovered t count wanted ≡ Exact) ↔ IsCertified p k shots
    not_exact = (λ e. subst Says e h, λ is. absurd (not_covered (planned_area p k) shots t count wanted h.fault is.covers))

    pub just_this : (u : Tile) (m n : ℕ) → (Miscovered t count wanted ≡ Miscovered u m n) ↔ IsMiscover p k shots u m n
    just_this u m n = (λ e. subst Says e h, λ is. one_fault (planned_area p k) shots t u count wanted m n h.fault is.fault)

    pub none_too_large : (i : ℕ) → (Miscovered t count wanted ≡ TooLarge i) ↔ IsFirstTooLarge shots p.deck.limits i
    none_too_large i = (λ e. subst Says e h, λ is. absurd (not_all_fit p.deck.limits shots i is h.fit))
