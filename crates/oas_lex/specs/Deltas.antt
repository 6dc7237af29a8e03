-- Moves as OASIS spells them (SEMI P39 1.0, section 7, deltas).
--
-- A 2-delta is an unsigned number whose two low bits are the direction and whose other bits are the magnitude; in a
-- 3-delta the three low bits are the direction. A g-delta is an unsigned number. Where its bit 0 is clear it holds a
-- direction in bits 1 to 3 and the magnitude above. Where its bit 0 is set, bit 1 says west, the bits above it are the x
-- magnitude, and a signed y follows.
use Rattle.std.specs.Prelude.{ℕ, zero, suc, ◌/◌, ◌%◌, ◌≡◌, ◌⊎◌, ℤ, pos, neg_ℤ, List}
use Rattle.half_grid.specs.declared.plane.Point.{Point}
use Rattle.oas_lex.specs.declared.LexBad.{LexBad}
use Rattle.oas_lex.specs.Numbers.{HasUnsigned, HasSigned}
use Rattle.oas_lex.specs.Strings.{NumberFails}

abbrev pub move : ℤ → ℤ → Point
move x y = record { x = x; y = y }

-- a move in direction 0 to 7: E, N, W, S, NE, NW, SW, SE. A diagonal's magnitude holds for x and y.
abbrev pub towards : ℕ → ℕ → Point
towards zero n = move (pos n) (pos 0)
towards (suc zero) n = move (pos 0) (pos n)
towards (suc (suc zero)) n = move (neg_ℤ (pos n)) (pos 0)
towards (suc (suc (suc zero))) n = move (pos 0) (neg_ℤ (pos n))
towards (suc (suc (suc (suc zero)))) n = move (pos n) (pos n)
towards (suc (suc (suc (suc (suc zero))))) n = move (neg_ℤ (pos n)) (pos n)
towards (suc (suc (suc (suc (suc (suc zero)))))) n = move (neg_ℤ (pos n)) (neg_ℤ (pos n))
towards (suc (suc (suc (suc (suc (suc (suc direction))))))) n = move (pos n) (neg_ℤ (pos n))

-- east, or west where the bit is set
abbrev pub sideways : ℕ → ℕ → ℤ
sideways zero n = pos n
sideways (suc west) n = neg_ℤ (pos n)

-- the 2-delta stands at `at`
abbrev pub HasDelta2 : List ℕ → ℕ → Point → ℕ → Type 0
HasDelta2 bytes at p next = (code : ℕ) × HasUnsigned bytes at code next × (p ≡ towards (code % 4) (code / 4))

-- the 3-delta stands at `at`
abbrev pub HasDelta3 : List ℕ → ℕ → Point → ℕ → Type 0
HasDelta3 bytes at p next = (code : ℕ) × HasUnsigned bytes at code next × (p ≡ towards (code % 8) (code / 8))

-- the g-delta is this one number
pub record HasOneCode (bytes : List ℕ) (at code : ℕ) (p : Point) (next : ℕ) : Type 0 where
  pub even : code % 2 ≡ 0
  pub spells : HasUnsigned bytes at code next
  pub value : p ≡ towards (code / 2 % 8) (code / 16)

-- the g-delta is this number and a signed number at `y_at`
pub record HasTwoCodes (bytes : List ℕ) (at code y_at : ℕ) (y : ℤ) (p : Point) (next : ℕ) : Type 0 where
  pub odd : code % 2 ≡ 1
  pub spells : HasUnsigned bytes at code y_at
  pub spells_y : HasSigned bytes y_at y next
  pub value : p ≡ move (sideways (code / 2 % 2) (code / 4)) y

-- the g-delta stands at `at`
abbrev pub HasDeltaG : List ℕ → ℕ → Point → ℕ → Type 0
HasDeltaG bytes at p next =
    ((code : ℕ) × HasOneCode bytes at code p next)
    ⊎ ((code : ℕ) × (y_at : ℕ) × (y : ℤ) × HasTwoCodes bytes at code y_at y p next)

-- the first number of a g-delta stands at `at`, and the second fails
pub record SecondFails (bytes : List ℕ) (at code y_at : ℕ) (bad : LexBad) : Type 0 where
  pub odd : code % 2 ≡ 1
  pub spells : HasUnsigned bytes at code y_at
  pub fails : NumberFails bytes y_at bad

-- no g-delta stands at `at`, for this cause
abbrev pub DeltaGFails : List ℕ → ℕ → LexBad → Type 0
DeltaGFails bytes at bad =
    NumberFails bytes at bad ⊎ ((code : ℕ) × (y_at : ℕ) × SecondFails bytes at code y_at bad)
