-- A list given again and again, and shapes that are the same ones over and over.
use Rattle.std.specs.Prelude.{ℕ, zero, suc, ◌≡◌, ◌≤◌, ◌<◌, ◌+◌, ◌*◌, List, [], ◌++◌, length, take, drop}
use Rattle.layout_model.specs.declared.shapes.Shape.{Shape}

-- the list so many times, one after another
abbrev pub repeated : {X : Type 0} → ℕ → List X → List X
repeated zero items = []
repeated (suc times) items = items ++ repeated times items

-- from shape `k` on, the next `period` shapes stand `times` times, one after another
pub record AreCopies (shapes : List Shape) (k period times : ℕ) : Type 0 where
  pub some : 0 < period
  pub once : 0 < times
  pub within : k + times * period ≤ length shapes
  pub is : take (times * period) (drop k shapes) ≡ repeated times (take period (drop k shapes))
