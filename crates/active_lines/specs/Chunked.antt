-- Lines that are kept in chunks, and a place among them: the number of a chunk, and that of a line in it.
use Rattle.std.specs.Prelude.{ℕ, ◌+◌, ◌-◌, ◌*◌, ◌<◌, ◌≤◌, ◌≡◌, ◌++◌, List, [], All, length, take, drop, slice_index_or}
use Rattle.std.specs.List.{flat_map, HoldsAt}
use Rattle.active_lines.specs.declared.item.ActiveLine.{ActiveLine}
use Rattle.active_lines.specs.declared.chunk.Least.{Least}
use Rattle.active_lines.specs.declared.chunk.Least.TheVariants.{Unknown, Known}
use Rattle.active_lines.specs.Leaning.{IsNearLine}
use Rattle.active_lines.specs.ActiveLists.{IsShut}
use Rattle.active_lines.specs.Neighbours.{IsLeastMeeting}

-- what is kept of the least meeting in a chunk is so
abbrev pub IsKept : List ActiveLine → Least → Type 0
IsKept lines Unknown = Unit {0}
IsKept lines (Known least) = IsLeastMeeting lines least

abbrev pub HasNearLine : ActiveLine → Type 0
HasNearLine l = IsNearLine l.line

pub record IsChunk (lines : List ActiveLine) (least : Least) : Type 0 where
  pub near : All HasNearLine lines
  pub kept : IsKept lines least

-- the lines of all chunks
abbrev pub lines_of : List (List ActiveLine) → List ActiveLine
lines_of chunks = flat_map (λ lines. lines) chunks

abbrev pub chunk_at : List (List ActiveLine) → ℕ → List ActiveLine
chunk_at chunks c = slice_index_or chunks c []

abbrev pub lines_before : List (List ActiveLine) → ℕ → ℕ → List ActiveLine
lines_before chunks c k = lines_of (take c chunks) ++ take k (chunk_at chunks c)

abbrev pub lines_after : List (List ActiveLine) → ℕ → ℕ → List ActiveLine
lines_after chunks c k = drop k (chunk_at chunks c) ++ lines_of (drop (c + 1) chunks)

abbrev pub HasLine : List ActiveLine → Type 0
HasLine lines = 0 < length lines

-- no chunk is empty, and the place is at a line, or at the end of all
pub record IsPlace (chunks : List (List ActiveLine)) (c k : ℕ) : Type 0 where
  pub full : All HasLine chunks
  pub inside : c ≤ length chunks
  pub at_line : c < length chunks → k < length (chunk_at chunks c)
  pub at_end : c ≡ length chunks → k ≡ 0

-- the chunks of a page, of which each has 32, and the first one after them
abbrev pub page_at : List (List ActiveLine) → ℕ → List (List ActiveLine)
page_at chunks p = take 33 (drop (32 * p) chunks)

-- what is kept of the least meetings in pages is so
abbrev pub ArePages : List (List ActiveLine) → List Least → Type 0
ArePages chunks leasts = (p : ℕ) → IsKept (lines_of (page_at chunks p)) (slice_index_or leasts p Unknown)

-- the place is one, and so is what is kept of pages
pub record IsPaged (chunks : List (List ActiveLine)) (c k : ℕ) (leasts : List Least) : Type 0 where
  pub place : IsPlace chunks c k
  pub pages : ArePages chunks leasts

-- of the lines before the place (c, k) those after the first n of the chunk b are shut, and the last of these n is open
pub record IsOpenUpTo (chunks : List (List ActiveLine)) (c k b n : ℕ) : Type 0 where
  pub up_to : b ≤ c
  pub within : b ≡ c → n ≤ k
  pub inside : n ≤ length (chunk_at chunks b)
  pub right : List ActiveLine
  pub split : lines_before chunks c k ≡ lines_before chunks b n ++ right
  pub shut : All IsShut right
  pub open_there : 0 < n → HoldsAt (λ l. IsShut l → ⊥) (chunk_at chunks b) (n - 1)
