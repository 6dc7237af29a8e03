-- A flattened stream stands for the lists of the streams that its source gives, one after the other.
-- The stream in hand is the one that the source gave last, and what it still has comes first.
use Rattle.std.specs.Prelude.{◌≡◌, ℕ, List, [], ◌∷◌, ◌++◌, Option, Some, None}
use Rattle.std.specs.List.{AllZip}

-- the lists, one after the other
abbrev pub end_to_end : {A : Type 0} → List (List A) → List A
end_to_end [] = []
end_to_end (list ∷ lists) = list ++ end_to_end lists

-- no stream in hand stands for the empty list
abbrev pub InHandStandsFor : {J A : Type 0} → (J → List A → Type 0) → Option J → List A → Type 0
InHandStandsFor stands_for None items = items ≡ []
InHandStandsFor stands_for (Some stream) items = stands_for stream items

-- the size of the stream in hand
abbrev pub size_in_hand : {J : Type 0} → (J → ℕ) → Option J → ℕ
size_in_hand size None = 0
size_in_hand size (Some stream) = size stream

module _ {S J A : Type 0} (source_for : S → List J → Type 0) (stands_for : J → List A → Type 0) where
  -- what the stream in hand has, and then the lists of the streams that the source gives, are this list
  pub record StandsForFlattened (source : S) (in_hand : Option J) (items : List A) : Type 0 where
    pub front : List A
    pub streams : List J
    pub lists : List (List A)
    pub is : items ≡ front ++ end_to_end lists
    pub first : InHandStandsFor stands_for in_hand front
    pub given : source_for source streams
    pub each : AllZip stands_for streams lists
