-- What one turn of a flattened stream does to the list that it stands for.
use Rattle.std.proofs.Common.{◌≡◌, ℕ, ◌+◌, ◌*◌, ◌≤◌, List, [], ◌∷◌, ◌++◌, Option, Some, None, refl, ap, ◌∙◌, subst, sym, arith, mul-suc, mul-le-mul_left}
use Rattle.std.specs.List.{AllZip}
use Rattle.geo_stream.specs.Stream.{TakesFirst}
use Rattle.geo_stream.specs.Flattened.{StandsForFlattened, InHandStandsFor, end_to_end, size_in_hand}

-- a source that has one stream fewer makes room for the greatest size
room_for_one : (most m n : ℕ) → m + 1 ≤ n → most + most * m ≤ most * n
room_for_one most m n h =
    let products : most * (m + 1) ≤ most * n = mul-le-mul_left most h in
    omega (arith, products, mul-suc most m)

module _ {S J A : Type 0} (R : S → List J → Type 0) (Q : J → List A → Type 0) where
  -- the stream in hand gave its first item
  pub taken : (s : S) (hand new : Option J) (first : A) → ((xs : List A) → InHandStandsFor Q hand xs → TakesFirst (InHandStandsFor Q) xs (Some first) new)
      → (items : List A) → StandsForFlattened R Q s hand items → (others : List A) × (items ≡ first ∷ others) × StandsForFlattened R Q s new others
  taken s hand new first gave items p =
      let t = gave p.front p.first in (
        t.0 ++ end_to_end p.lists,
        p.is ∙ ap
            (λ front. front ++ end_to_end p.lists) t.1,
        record {
          front = t.0;
          streams = p.streams;
          lists = p.lists;
          is =
              refl;
          first = t.2;
          given = p.given;
          each = p.each;
        },
      )

  begun : (s : S) (stream : J) (streams : List J) (lists : List (List A)) → R s streams
      → AllZip Q (stream ∷ streams) lists → StandsForFlattened R Q s (Some stream) (end_to_end lists)
  begun s stream streams [] given each = absurd each
  begun s stream streams (list ∷ lists) given each =
      record { front = list; streams = streams; lists = lists; is = refl; first = each.0; given = given; each = each.1 }

  -- the stream in hand had no item, and the source gave another
  pub turned : (s t : S) (hand new : Option J) (stream : J) → ((xs : List A) → InHandStandsFor Q hand xs → TakesFirst (InHandStandsFor Q) xs None new)
      → ((xs : List J) → R s xs → TakesFirst R xs (Some stream) t)
      → (items : List A) → StandsForFlattened R Q s hand items → StandsForFlattened R Q t (Some stream) items
  turned s t hand new stream ended gave items p =
      let none = (ended p.front p.first).0 in
      let more = gave p.streams p.given in
      let each = subst (λ streams. AllZip Q streams p.lists) more.1 p.each in
      let is : items ≡ end_to_end p.lists = p.is ∙ ap (λ front. front ++ end_to_end p.lists) none in
      subst (StandsForFlattened R Q t (Some stream)) (sym is) (begun t stream more.0 p.lists more.2 each)

  nothing : (lists : List (List A)) → AllZip Q [] lists → end_to_end lists ≡ []
  nothing [] each = refl
  nothing (list ∷ lists) each = absurd each

  -- neither has an item
  pub ended : (s t : S) (hand new : Option J) → ((xs : List A) → InHandStandsFor Q hand xs → TakesFirst (InHandStandsFor Q) xs None new)
      → ((xs : List J) → R s xs → TakesFirst R xs None t)
      → (items : List A) → StandsForFlattened R Q s hand items → (items ≡ []) × StandsForFlattened R Q t new []
  ended s t hand new stopped gave items p =
      let none = stopped p.front p.first in
      let more = gave p.streams p.given in
      let each = subst (λ streams. AllZip Q streams p.lists) more.0 p.each in (
        p.is ∙ ap (λ front. front ++ end_to_end p.lists) none.0
            ∙ nothing p.lists each,
        record {
          front = [];
          streams = [];
          lists = [];
          is = refl;
          first = none.1;
          given =
              more.1;
          each = tt;
        },
      )

  below_head : {size : J → ℕ} {most : ℕ} → ((stream : J) (xs : List A) → Q stream xs → size stream ≤ most)
      → (stream : J) (streams : List J) (lists : List (List A)) → AllZip Q (stream ∷ streams) lists → size stream ≤ most
  below_head below stream streams [] each = absurd each
  below_head below stream streams (list ∷ lists) each = below stream list each.0

  -- the stream that the source gave is no larger than the greatest
  given_below : {size : J → ℕ} {most : ℕ} → ((stream : J) (xs : List A) → Q stream xs → size stream ≤ most)
      → (s t : S) (hand : Option J) (stream : J) → ((xs : List J) → R s xs → TakesFirst R xs (Some stream) t)
      → (items : List A) → StandsForFlattened R Q s hand items → size stream ≤ most
  given_below below s t hand stream gave items p =
      let more = gave p.streams p.given in
      below_head below stream more.0 p.lists (subst (λ streams. AllZip Q streams p.lists) more.1 p.each)

  -- where the source gave another stream, the size has not risen
  pub turned_size : (count : S → ℕ) {size : J → ℕ} {most : ℕ} → ((stream : J) (xs : List A) → Q stream xs → size stream ≤ most)
      → (s t : S) (hand : Option J) (stream : J) → ((xs : List J) → R s xs → TakesFirst R xs (Some stream) t) → count t + 1 ≤ count s
      → (items : List A) → StandsForFlattened R Q s hand items
      → (before : ℕ) → size_in_hand size hand + most * count s ≤ before → size stream + most * count t ≤ before
  turned_size count {most = most} below s t hand stream gave fewer items p before h =
      omega (arith, given_below below s t hand stream gave items p, room_for_one most (count t) (count s) fewer)
