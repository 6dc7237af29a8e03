-- Numbers among bytes, each up to its first byte below 80 hex.
use Rattle.std.specs.Prelude.{ℕ, ◌≡◌, ◌≤◌, List, ◌++◌, length, drop, All}
use Rattle.std.specs.List.{concat}
use Rattle.shot_reader.specs.Refusals.{IsNumber}

-- a number stands at a place, and ends before another
pub record NumberAt (bytes : List ℕ) (at next : ℕ) : Type 0 where
  pub within : next ≤ length bytes
  pub number : List ℕ
  pub is : IsNumber number
  pub text : drop at bytes ≡ number ++ drop next bytes

-- so many numbers stand from a place up to another
pub record NumbersAt (bytes : List ℕ) (at done next : ℕ) : Type 0 where
  pub within : next ≤ length bytes
  pub numbers : List (List ℕ)
  pub many : length numbers ≡ done
  pub are : All IsNumber numbers
  pub text : drop at bytes ≡ concat numbers ++ drop next bytes

-- so many are left, and then this follows
pub record Left (rest : List ℕ) (count : ℕ) (after : List ℕ) : Type 0 where
  pub numbers : List (List ℕ)
  pub many : length numbers ≡ count
  pub are : All IsNumber numbers
  pub text : rest ≡ concat numbers ++ after
