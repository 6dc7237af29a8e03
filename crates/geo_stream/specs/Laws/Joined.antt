-- The laws of joined streams.
use Rattle.std.proofs.Common.{◌≡◌, ℕ, ◌+◌, ◌≤◌, List, length, ap, arith, length-append}
use Rattle.geo_stream.specs.Joined.{StandsForJoined}

module _ {S T A : Type 0} {first_for : S → List A → Type 0} {second_for : T → List A → Type 0} where
  pub Joined-one_list : ((s : S) (xs ys : List A) → first_for s xs → first_for s ys → xs ≡ ys)
      → ((t : T) (xs ys : List A) → second_for t xs → second_for t ys → xs ≡ ys)
      → (s : S) (t : T) (xs ys : List A) → StandsForJoined first_for second_for s t xs → StandsForJoined first_for second_for s t ys → xs ≡ ys
  Joined-one_list one_first one_second s t xs ys p q =
      let front = one_first s p.front q.front p.first q.first in
      let back = one_second t p.back q.back p.second q.second in
      cc (p.is, q.is)

  pub Joined-no_longer : {m : S → ℕ} {n : T → ℕ} → ((s : S) (xs : List A) → first_for s xs → length xs ≤ m s)
      → ((t : T) (xs : List A) → second_for t xs → length xs ≤ n t)
      → (s : S) (t : T) (xs : List A) → StandsForJoined first_for second_for s t xs → length xs ≤ m s + n t
  Joined-no_longer in_first in_second s t xs p =
      omega (arith, ap length p.is, length-append p.front p.back, in_first s p.front p.first, in_second t p.back p.second)

  pub Joined-bounded : {m : S → ℕ} {n : T → ℕ} {a b : ℕ} → ((s : S) (xs : List A) → first_for s xs → m s ≤ a)
      → ((t : T) (xs : List A) → second_for t xs → n t ≤ b)
      → (s : S) (t : T) (xs : List A) → StandsForJoined first_for second_for s t xs → m s + n t ≤ a + b
  Joined-bounded in_first in_second s t xs p = omega (arith, in_first s p.front p.first, in_second t p.back p.second)
