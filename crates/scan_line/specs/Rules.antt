-- A rule that takes or leaves a tile by its two windings, the one of operand A and the one of operand B.
--
-- It is kept as a function. What a kept function answers is known by its promise alone, so these facts are asked of it:
-- it may be called on all pairs of windings that there can be, its promise allows one answer for each, and it takes no
-- tile that no edge winds round.
use Rattle.std.specs.Prelude.{ℤ, pos, neg_ℤ, ◌^◌, ◌≡◌, ◌≤ℤ◌, Bool, true, false}

-- a list of edges has fewer than 2^64 items, so a winding is within 2^64 of 0
pub record IsWinding (w : ℤ) : Type 0 where
  pub low : neg_ℤ (pos (2 ^ 64)) ≤ℤ w
  pub high : w ≤ℤ pos (2 ^ 64)

-- the function may be called on these two, and this answer is the one that its promise allows
pub record IsTheAnswer (pre : ℤ → ℤ → Type 0) (post : ℤ → ℤ → Bool → Type 0) (a b : ℤ) (answer : Bool) : Type 0 where
  pub callable : pre a b
  pub allowed : post a b answer
  pub only : (other : Bool) → post a b other → other ≡ answer

pub record IsRule (pre : ℤ → ℤ → Type 0) (post : ℤ → ℤ → Bool → Type 0) : Type 0 where
  pub one_answer : (a b : ℤ) → IsWinding a → IsWinding b → (answer : Bool) × IsTheAnswer pre post a b answer
  pub leaves_nothing : IsTheAnswer pre post (pos 0) (pos 0) false

-- the rule takes a tile with these two windings
abbrev pub Takes : (ℤ → ℤ → Bool → Type 0) → ℤ → ℤ → Type 0
Takes post a b = post a b true
