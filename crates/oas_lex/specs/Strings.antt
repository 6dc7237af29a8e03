-- Strings as OASIS spells them (SEMI P39 1.0, section 7, strings), and how a number or a string may fail to stand among
-- bytes.
--
-- A string is an unsigned length and that many bytes.
use Rattle.std.specs.Prelude.{ℕ, ◌+◌, ◌<◌, ◌≤◌, ◌≡◌, ◌⊎◌, List, length}
use Rattle.oas_lex.specs.declared.LexBad.{LexBad}
use Rattle.oas_lex.specs.declared.LexBad.TheVariants.{Short, Wide, RealKind}
use Rattle.oas_lex.specs.Numbers.{HasUnsigned, EndsFirst, IsWide}

-- so many bytes stand from `at` up to before `next`
pub record HasBytes (bytes : List ℕ) (at count next : ℕ) : Type 0 where
  pub ends : next ≡ at + count
  pub within : next ≤ length bytes

-- a string stands at `at`; its bytes are those from `first` up to before `next`
abbrev pub HasText : List ℕ → ℕ → ℕ → ℕ → Type 0
HasText bytes at first next = (size : ℕ) × HasUnsigned bytes at size first × HasBytes bytes first size next

-- no unsigned number stands at `at`, for this cause
abbrev pub NumberFails : List ℕ → ℕ → LexBad → Type 0
NumberFails bytes at Short = EndsFirst bytes at
NumberFails bytes at Wide = IsWide bytes at
NumberFails bytes at RealKind = ⊥

-- fewer bytes than so many stand from `at` on
pub record BytesFail (bytes : List ℕ) (at count : ℕ) (bad : LexBad) : Type 0 where
  pub short : bad ≡ Short
  pub cut : length bytes < at + count

-- no string stands at `at`, for this cause: its length is none, or its bytes aren't all there
abbrev pub TextFails : List ℕ → ℕ → LexBad → Type 0
TextFails bytes at bad =
    NumberFails bytes at bad ⊎ ((size : ℕ) × (first : ℕ) × HasUnsigned bytes at size first × BytesFail bytes first size bad)
