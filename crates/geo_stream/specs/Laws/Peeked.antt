-- The laws of peeked streams.
use Rattle.std.proofs.Common.{◌≡◌, ℕ, ◌+◌, ◌≤◌, List, length, Option, Some, None, ap, arith, length-append}
use Rattle.std.specs.Option.{option_to_list}
use Rattle.geo_stream.specs.Peeked.{StandsForPeeked}

-- one item at most was taken
at_most_one : {A : Type 0} (head : Option A) → length (option_to_list head) ≤ 1
at_most_one None = omega arith
at_most_one (Some item) = omega arith

module _ {S A : Type 0} {stands_for : S → List A → Type 0} where
  pub Peeked-one_list : ((s : S) (xs ys : List A) → stands_for s xs → stands_for s ys → xs ≡ ys)
      → (s : S) (head : Option A) (xs ys : List A) → StandsForPeeked stands_for s head xs → StandsForPeeked stands_for s head ys → xs ≡ ys
  Peeked-one_list one s head xs ys p q =
      let others = one s p.others q.others p.given q.given in
      cc (p.is, q.is)

  pub Peeked-no_longer : {size : S → ℕ} → ((s : S) (xs : List A) → stands_for s xs → length xs ≤ size s)
      → (s : S) (head : Option A) (xs : List A) → StandsForPeeked stands_for s head xs → length xs ≤ length (option_to_list head) + size s
  Peeked-no_longer short s head xs p =
      omega (arith, ap length p.is, length-append (option_to_list head) p.others, short s p.others p.given)

  pub Peeked-bounded : {size : S → ℕ} {most : ℕ} → ((s : S) (xs : List A) → stands_for s xs → size s ≤ most)
      → (s : S) (head : Option A) (xs : List A) → StandsForPeeked stands_for s head xs → length (option_to_list head) + size s ≤ 1 + most
  Peeked-bounded below s head xs p = omega (arith, at_most_one head, below s p.others p.given)
