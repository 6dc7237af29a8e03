-- The laws of mapped streams.
use Rattle.std.proofs.Common.{◌≡◌, ℕ, suc, ◌≤◌, List, [], ◌∷◌, length, refl, ap, subst, arith}
use Rattle.std.specs.List.{AllZip}
use Rattle.geo_stream.specs.Mapped.{IsTheAnswer, StandsForMapped}

-- one answer each, so one list of answers
same_answers : {A U : Type 0} (pre : A → Type 0) (post : A → U → Type 0) (items : List A) (xs ys : List U)
    → AllZip (IsTheAnswer pre post) items xs → AllZip (IsTheAnswer pre post) items ys → xs ≡ ys
same_answers pre post [] [] [] p q = refl
same_answers pre post [] [] (y ∷ ys) p q = absurd q
same_answers pre post [] (x ∷ xs) ys p q = absurd p
same_answers pre post (a ∷ items) [] ys p q = absurd p
same_answers pre post (a ∷ items) (x ∷ xs) [] p q = absurd q
same_answers pre post (a ∷ items) (x ∷ xs) (y ∷ ys) p q =
    let first = q.0.only x p.0.allowed in
    let rest = same_answers pre post items xs ys p.1 q.1 in
    cc

-- as many answers as items
as_many : {A U : Type 0} (R : A → U → Type 0) (items : List A) (xs : List U) → AllZip R items xs → length items ≡ length xs
as_many R [] [] p = refl
as_many R [] (x ∷ xs) p = absurd p
as_many R (a ∷ items) [] p = absurd p
as_many R (a ∷ items) (x ∷ xs) p = ap suc (as_many R items xs p.1)

module _ {S A U : Type 0} {source_for : S → List A → Type 0} {pre : A → Type 0} {post : A → U → Type 0} where
  pub Mapped-one_list : ((s : S) (xs ys : List A) → source_for s xs → source_for s ys → xs ≡ ys)
      → (s : S) (xs ys : List U) → StandsForMapped source_for pre post s xs → StandsForMapped source_for pre post s ys → xs ≡ ys
  Mapped-one_list one s xs ys p q =
      same_answers pre post q.items xs ys (subst (λ items. AllZip (IsTheAnswer pre post) items xs) (one s p.items q.items p.source q.source) p.each) q.each

  pub Mapped-no_longer : {m : S → ℕ} → ((s : S) (xs : List A) → source_for s xs → length xs ≤ m s)
      → (s : S) (xs : List U) → StandsForMapped source_for pre post s xs → length xs ≤ m s
  Mapped-no_longer in_source s xs p =
      omega (arith, as_many _ p.items xs p.each, in_source s p.items p.source)

  pub Mapped-bounded : {m : S → ℕ} {n : ℕ} → ((s : S) (xs : List A) → source_for s xs → m s ≤ n)
      → (s : S) (xs : List U) → StandsForMapped source_for pre post s xs → m s ≤ n
  Mapped-bounded in_source s xs p = in_source s p.items p.source
