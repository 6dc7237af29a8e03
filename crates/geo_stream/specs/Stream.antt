-- A stream stands for the list of the items that are still to come.
-- A call of `next` takes the first item off this list, and answers None where the list is empty.
use Rattle.std.specs.Prelude.{◌≡◌, List, [], ◌∷◌, Option, MatchOption}

module _ {S A : Type 0} (stands_for : S → List A → Type 0) where
  -- the stream stands for some list
  abbrev pub HasList : S → Type 0
  HasList stream = (items : List A) × stands_for stream items

  -- the answer is the first of these items, or None where there is none, and the stream then stands for the others
  abbrev pub TakesFirst : List A → Option A → S → Type 0
  TakesFirst items answer after =
      MatchOption answer ((items ≡ []) × stands_for after []) (λ first. (others : List A) × (items ≡ first ∷ others) × stands_for after others)
