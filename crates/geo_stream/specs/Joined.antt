-- Two streams joined stand for the list of the first, followed by that of the second.
use Rattle.std.specs.Prelude.{◌≡◌, List, ◌++◌}

module _ {S T A : Type 0} (first_for : S → List A → Type 0) (second_for : T → List A → Type 0) where
  -- the streams s and t, one after the other, stand for this list
  pub record StandsForJoined (s : S) (t : T) (items : List A) : Type 0 where
    pub front : List A
    pub back : List A
    pub is : items ≡ front ++ back
    pub first : first_for s front
    pub second : second_for t back
