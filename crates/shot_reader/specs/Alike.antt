-- What two lists of bytes have in common from their beginning on.
use Rattle.std.specs.Prelude.{ℕ, ◌≡◌, ◌<◌, ◌≤◌, List, length, slice_index}

-- the first so many bytes of the two are the same
pub record BeginAlike (xs ys : List ℕ) (count : ℕ) : Type 0 where
  pub within : count ≤ length xs
  pub fits : count ≤ length ys
  pub same : (i : ℕ) → i < count → slice_index xs i ≡ slice_index ys i
