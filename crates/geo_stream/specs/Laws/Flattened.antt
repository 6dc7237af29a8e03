-- The laws of flattened streams.
use Rattle.std.proofs.Common.{◌≡◌, ℕ, ◌+◌, ◌*◌, ◌≤◌, List, [], ◌∷◌, length, Option, Some, None, refl, ap, sym, subst}
use Rattle.std.proofs.Common.{◌∙◌, arith, length-append, mul-suc, mul-le-mul_left}
use Rattle.std.specs.List.{AllZip}
use Rattle.geo_stream.specs.Flattened.{StandsForFlattened, InHandStandsFor, end_to_end, size_in_hand}

module _ {J A : Type 0} {stands_for : J → List A → Type 0} where
  -- no stream in hand stands for two lists
  same_in_hand : ((stream : J) (xs ys : List A) → stands_for stream xs → stands_for stream ys → xs ≡ ys)
      → (in_hand : Option J) (xs ys : List A) → InHandStandsFor stands_for in_hand xs → InHandStandsFor stands_for in_hand ys → xs ≡ ys
  same_in_hand one None xs ys p q = p ∙ sym q
  same_in_hand one (Some stream) xs ys p q = one stream xs ys p q

  -- streams stand for one list of lists
  same_lists : ((stream : J) (xs ys : List A) → stands_for stream xs → stands_for stream ys → xs ≡ ys)
      → (streams : List J) (xs ys : List (List A)) → AllZip stands_for streams xs → AllZip stands_for streams ys → xs ≡ ys
  same_lists one [] [] [] p q = refl
  same_lists one [] [] (y ∷ ys) p q = absurd q
  same_lists one [] (x ∷ xs) ys p q = absurd p
  same_lists one (s ∷ streams) [] ys p q = absurd p
  same_lists one (s ∷ streams) (x ∷ xs) [] p q = absurd q
  same_lists one (s ∷ streams) (x ∷ xs) (y ∷ ys) p q =
      let head = one s x y p.0 q.0 in
      let rest = same_lists one streams xs ys p.1 q.1 in
      cc

  -- the items of so many streams are at most so many times the greatest size
  length-end_to_end : {size : J → ℕ} {most : ℕ}
      → ((stream : J) (xs : List A) → stands_for stream xs → length xs ≤ size stream)
      → ((stream : J) (xs : List A) → stands_for stream xs → size stream ≤ most)
      → (streams : List J) (lists : List (List A)) → AllZip stands_for streams lists → length (end_to_end lists) ≤ most * length streams
  length-end_to_end short below [] [] p = omega arith
  length-end_to_end short below [] (x ∷ lists) p = absurd p
  length-end_to_end short below (s ∷ streams) [] p = absurd p
  length-end_to_end {most = most} short below (s ∷ streams) (x ∷ lists) p =
      omega (
        arith,
        length-append x
            (end_to_end lists),
        short s x p.0,
        below s x p.0,
        length-end_to_end short below streams lists p.1,
        mul-suc
            most (length streams),
      )

  -- the stream in hand has no more items than its size, which is at most the greatest
  length_in_hand : {size : J → ℕ} → ((stream : J) (xs : List A) → stands_for stream xs → length xs ≤ size stream)
      → (in_hand : Option J) (xs : List A) → InHandStandsFor stands_for in_hand xs → length xs ≤ size_in_hand size in_hand
  length_in_hand short None xs p = omega (arith, ap length p)
  length_in_hand short (Some stream) xs p = short stream xs p

  below_in_hand : {size : J → ℕ} {most : ℕ} → ((stream : J) (xs : List A) → stands_for stream xs → size stream ≤ most)
      → (in_hand : Option J) (xs : List A) → InHandStandsFor stands_for in_hand xs → size_in_hand size in_hand ≤ most
  below_in_hand below None xs p = omega arith
  below_in_hand below (Some stream) xs p = below stream xs p

  module _ {S : Type 0} {source_for : S → List J → Type 0} where
    pub Flattened-one_list : ((s : S) (xs ys : List J) → source_for s xs → source_for s ys → xs ≡ ys)
        → ((stream : J) (xs ys : List A) → stands_for stream xs → stands_for stream ys → xs ≡ ys)
        → (s : S) (in_hand : Option J) (xs ys : List A) → StandsForFlattened source_for stands_for s in_hand xs
        → StandsForFlattened source_for stands_for s in_hand ys → xs ≡ ys
    Flattened-one_list one_source one s in_hand xs ys p q =
        let front = same_in_hand one in_hand p.front q.front p.first q.first in
        let each = subst (λ streams. AllZip stands_for streams p.lists) (one_source s p.streams q.streams p.given q.given) p.each in
        let lists = same_lists one q.streams p.lists q.lists each q.each in
        cc (p.is, q.is)

    pub Flattened-no_longer : {count : S → ℕ} {size : J → ℕ} {most : ℕ} → ((s : S) (xs : List J) → source_for s xs → length xs ≤ count s)
        → ((stream : J) (xs : List A) → stands_for stream xs → length xs ≤ size stream)
        → ((stream : J) (xs : List A) → stands_for stream xs → size stream ≤ most)
        → (s : S) (in_hand : Option J) (xs : List A) → StandsForFlattened source_for stands_for s in_hand xs
        → length xs ≤ size_in_hand size in_hand + most * count s
    Flattened-no_longer {count = count} {most = most} few short below s in_hand xs p =
        let products : most * length p.streams ≤ most * count s = mul-le-mul_left most (few s p.streams p.given) in
        omega (
          arith,
          ap length p.is,
          length-append p.front
              (end_to_end p.lists),
          length_in_hand short in_hand p.front p.first,
          length-end_to_end short below p.streams
              p.lists p.each,
          products,
        )

    pub Flattened-bounded : {count : S → ℕ} {size : J → ℕ} {most many : ℕ} → ((s : S) (xs : List J) → source_for s xs → count s ≤ many)
        → ((stream : J) (xs : List A) → stands_for stream xs → size stream ≤ most)
        → (s : S) (in_hand : Option J) (xs : List A) → StandsForFlattened source_for stands_for s in_hand xs
        → size_in_hand size in_hand + most * count s ≤ most + most * many
    Flattened-bounded {count = count} {most = most} {many = many} few below s in_hand xs p =
        let products : most * count s ≤ most * many = mul-le-mul_left most (few s p.streams p.given) in
        omega (arith, below_in_hand below in_hand p.front p.first, products)
