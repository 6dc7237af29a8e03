-- A mapped stream stands for the answers of its function at the items of its source, in order.
-- What the function answers is known by its promise alone. So these facts are kept: the function may be called on each
-- item to come, and its promise allows one answer for each.
use Rattle.std.specs.Prelude.{◌≡◌, List}
use Rattle.std.specs.List.{AllZip}

module _ {A U : Type 0} (pre : A → Type 0) (post : A → U → Type 0) where
  -- the function may be called on the item, and this answer is the one that its promise allows
  pub record IsTheAnswer (item : A) (answer : U) : Type 0 where
    pub callable : pre item
    pub allowed : post item answer
    pub only : (other : U) → post item other → other ≡ answer

  -- the function may be called on the item, and its promise allows one answer
  abbrev pub HasOneAnswer : A → Type 0
  HasOneAnswer item = (answer : U) × IsTheAnswer item answer

module _ {S A U : Type 0} (source_for : S → List A → Type 0) (pre : A → Type 0) (post : A → U → Type 0) where
  -- the function's answers at the items of the stream s are this list
  pub record StandsForMapped (s : S) (answers : List U) : Type 0 where
    pub items : List A
    pub source : source_for s items
    pub each : AllZip (IsTheAnswer pre post) items answers
