-- A stream of which the first item was taken stands for this item, followed by what it still stands for. Where there was none, nothing follows.
use Rattle.std.specs.Prelude.{◌≡◌, List, [], ◌∷◌, ◌++◌, Option, Some, None, IfNone}
use Rattle.std.specs.Option.{option_to_list}

module _ {S A : Type 0} (stands_for : S → List A → Type 0) where
  -- the item that was taken, and the stream after it, stand for this list
  pub record StandsForPeeked (rest : S) (head : Option A) (items : List A) : Type 0 where
    pub others : List A
    pub is : items ≡ option_to_list head ++ others
    pub given : stands_for rest others
    pub ended : IfNone head (others ≡ [])

-- the first item of a list, if there is one
abbrev pub head_of : {A : Type 0} → List A → Option A
head_of [] = None
head_of (item ∷ items) = Some item
