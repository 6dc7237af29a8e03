-- The counts of a row of windows: those above 0, by ascending column.
use Rattle.std.specs.Prelude.{ℕ, ℤ, ◌≡◌, ◌+◌, ◌<◌, ◌≤◌, ◌≤ℤ◌, ◌<ℤ◌, List, sum_by, length, slice_index_or, if◌then◌else◌}
use Rattle.std.specs.Ordering.{int_eq}
use Rattle.std.specs.List.{All}
use Rattle.density_map.specs.declared.counts.Counted.{Counted}

-- what a count adds to that of a column
abbrev pub tiles_at : ℤ → Counted → ℕ
tiles_at i counted = if int_eq counted.column i then counted.tiles else 0

-- the count of a column, which is 0 where it isn't listed
abbrev pub count_at : ℤ → List Counted → ℕ
count_at i counts = sum_by (tiles_at i) counts

abbrev pub column_of : List Counted → ℕ → Counted → ℤ
column_of counts k d = (slice_index_or counts k d).column

pub record AreCounts (counts : List Counted) : Type 0 where
  pub ascending : (j k : ℕ) (d : Counted) → j < k → k < length counts → column_of counts j d <ℤ column_of counts k d
  pub above_zero : All (λ counted. 0 < counted.tiles) counts

-- where the column stands in the list, or has to stand
pub record IsPlaceOf (counts : List Counted) (column : ℤ) (at : ℕ) : Type 0 where
  pub inside : at ≤ length counts
  pub before : (k : ℕ) (d : Counted) → k < at → column_of counts k d <ℤ column
  pub after : (k : ℕ) (d : Counted) → at ≤ k → k < length counts → column ≤ℤ column_of counts k d

-- what stands there is less, or isn't
abbrev pub IsLess : List Counted → ℕ → ℤ → Type 0
IsLess counts at column = (d : Counted) → column_of counts at d <ℤ column

abbrev pub IsNotLess : List Counted → ℕ → ℤ → Type 0
IsNotLess counts at column = (d : Counted) → column ≤ℤ column_of counts at d

pub record HasColumn (counts : List Counted) (at : ℕ) (column : ℤ) : Type 0 where
  pub inside : at < length counts
  pub is : (d : Counted) → column_of counts at d ≡ column

-- the count of one column has become so much greater, and no other has changed
abbrev pub IsCountedMore : List Counted → Counted → List Counted → Type 0
IsCountedMore counts more new = (i : ℤ) → count_at i new ≡ count_at i counts + tiles_at i more
