-- Repetitions (SEMI P39 1.0, section 7, repetitions).
--
-- A byte gives the kind. After it stand one or two dimensions, each stored less 2, then numbers (a grid, spaces), then
-- g-deltas.
use Rattle.std.specs.Prelude.{ℕ, ◌+◌, ◌<◌, ◌≡◌, ◌⊎◌, Option, Some, None, List, [], ◌∷◌, length, map, slice_index, get_or}
use Rattle.half_grid.specs.declared.plane.Point.{Point}
use Rattle.oas_record.specs.Faults.{NoBytes}
use Rattle.oas_record.specs.Lists.{HasNumbers, NoNumbers, HasDeltas, NoDeltas}
use Rattle.oas_record.specs.declared.delta_form.DeltaForm.TheVariants.{GDelta}
use Rattle.oas_record.specs.declared.faults.RecordBad.{RecordBad}
use Rattle.oas_record.specs.declared.faults.RecordBad.TheVariants as faults
use Rattle.oas_record.specs.declared.repetition.Rep.{Rep}
use Rattle.oas_record.specs.declared.repetition.Rep.TheVariants as reps

-- ---- the table of kinds

-- how many stand there: so many, or so many and as many more as the dimension less 1
pub data Amount : Type 0 where
  Just : ℕ → Amount
  AndFewer : ℕ → Amount

pub record RepRow : Type 0 where
  pub dims : ℕ
  pub numbers : Amount
  pub deltas : Amount

abbrev row : ℕ → Amount → Amount → RepRow
row dims numbers deltas = record { dims = dims; numbers = numbers; deltas = deltas }

-- one row a kind, from kind 0 on: the dimensions, the numbers and the g-deltas after them
abbrev pub rep_rows : List RepRow
rep_rows =
    -- 0: the last repetition
    row 0 (Just 0) (Just 0)
    -- 1: x-dimension, y-dimension, x-space, y-space
    ∷ row 2 (Just 2) (Just 0)
    -- 2, 3: dimension, space; a row, a column
    ∷ row 1 (Just 1) (Just 0)
    ∷ row 1 (Just 1) (Just 0)
    -- 4: dimension, spaces, one fewer than the dimension; a row
    ∷ row 1 (AndFewer 0) (Just 0)
    -- 5: dimension, grid, spaces
    ∷ row 1 (AndFewer 1) (Just 0)
    -- 6, 7: as 4 and 5; a column
    ∷ row 1 (AndFewer 0) (Just 0)
    ∷ row 1 (AndFewer 1) (Just 0)
    -- 8: n-dimension, m-dimension, two g-deltas
    ∷ row 2 (Just 0) (Just 2)
    -- 9: dimension, g-delta
    ∷ row 1 (Just 0) (Just 1)
    -- 10: dimension, g-deltas, one fewer than the dimension
    ∷ row 1 (Just 0) (AndFewer 0)
    -- 11: dimension, grid, g-deltas
    ∷ row 1 (Just 1) (AndFewer 0)
    ∷ []

abbrev pub row_at : List RepRow → ℕ → Option RepRow
row_at rows k = get_or (map Some rows) k None

-- the amount after these stored dimensions: the first dimension less 1 is one more than is stored of it
abbrev pub amount : Amount → List ℕ → ℕ
amount (Just n) stored = n
amount (AndFewer n) stored = n + (get_or stored 0 0 + 1)

-- ---- the fields of a repetition

abbrev pub kind_of : Rep → ℕ
kind_of reps.Same = 0
kind_of (reps.Grid x_dim y_dim x_space y_space) = 1
kind_of (reps.Row dim space) = 2
kind_of (reps.Column dim space) = 3
kind_of (reps.RowSpaces dim spaces) = 4
kind_of (reps.RowOnGrid dim grid spaces) = 5
kind_of (reps.ColumnSpaces dim spaces) = 6
kind_of (reps.ColumnOnGrid dim grid spaces) = 7
kind_of (reps.Lattice n_dim m_dim u v) = 8
kind_of (reps.Line dim u) = 9
kind_of (reps.Moves dim moves) = 10
kind_of (reps.MovesOnGrid dim grid moves) = 11

abbrev pub dims_of : Rep → List ℕ
dims_of reps.Same = []
dims_of (reps.Grid x_dim y_dim x_space y_space) = x_dim ∷ y_dim ∷ []
dims_of (reps.Row dim space) = dim ∷ []
dims_of (reps.Column dim space) = dim ∷ []
dims_of (reps.RowSpaces dim spaces) = dim ∷ []
dims_of (reps.RowOnGrid dim grid spaces) = dim ∷ []
dims_of (reps.ColumnSpaces dim spaces) = dim ∷ []
dims_of (reps.ColumnOnGrid dim grid spaces) = dim ∷ []
dims_of (reps.Lattice n_dim m_dim u v) = n_dim ∷ m_dim ∷ []
dims_of (reps.Line dim u) = dim ∷ []
dims_of (reps.Moves dim moves) = dim ∷ []
dims_of (reps.MovesOnGrid dim grid moves) = dim ∷ []

abbrev pub numbers_of : Rep → List ℕ
numbers_of reps.Same = []
numbers_of (reps.Grid x_dim y_dim x_space y_space) = x_space ∷ y_space ∷ []
numbers_of (reps.Row dim space) = space ∷ []
numbers_of (reps.Column dim space) = space ∷ []
numbers_of (reps.RowSpaces dim spaces) = spaces
numbers_of (reps.RowOnGrid dim grid spaces) = grid ∷ spaces
numbers_of (reps.ColumnSpaces dim spaces) = spaces
numbers_of (reps.ColumnOnGrid dim grid spaces) = grid ∷ spaces
numbers_of (reps.Lattice n_dim m_dim u v) = []
numbers_of (reps.Line dim u) = []
numbers_of (reps.Moves dim moves) = []
numbers_of (reps.MovesOnGrid dim grid moves) = grid ∷ []

abbrev pub deltas_of : Rep → List Point
deltas_of reps.Same = []
deltas_of (reps.Grid x_dim y_dim x_space y_space) = []
deltas_of (reps.Row dim space) = []
deltas_of (reps.Column dim space) = []
deltas_of (reps.RowSpaces dim spaces) = []
deltas_of (reps.RowOnGrid dim grid spaces) = []
deltas_of (reps.ColumnSpaces dim spaces) = []
deltas_of (reps.ColumnOnGrid dim grid spaces) = []
deltas_of (reps.Lattice n_dim m_dim u v) = u ∷ v ∷ []
deltas_of (reps.Line dim u) = u ∷ []
deltas_of (reps.Moves dim moves) = moves
deltas_of (reps.MovesOnGrid dim grid moves) = moves

-- ---- where it stands

-- the dimensions, numbers and g-deltas of a repetition of this row stand from `at` up to before `next`
pub record HasRepetitionParts (r : RepRow) (bytes : List ℕ) (at : ℕ) (dims numbers : List ℕ) (deltas : List Point) (next : ℕ) (stored : List ℕ) (a b : ℕ) : Type 0 where
  pub dim_count : length stored ≡ r.dims
  pub stands_dims : HasNumbers bytes at stored a
  pub dims_are : dims ≡ map (λ n. n + 2) stored
  pub number_count : length numbers ≡ amount r.numbers stored
  pub stands_numbers : HasNumbers bytes a numbers b
  pub delta_count : length deltas ≡ amount r.deltas stored
  pub stands_deltas : HasDeltas GDelta bytes b deltas next

abbrev pub HasRepetitionRow : Option RepRow → List ℕ → ℕ → List ℕ → List ℕ → List Point → ℕ → Type 0
HasRepetitionRow (Some r) bytes at dims numbers deltas next =
    (stored : List ℕ) × (a : ℕ) × (b : ℕ) × HasRepetitionParts r bytes at dims numbers deltas next stored a b
HasRepetitionRow None bytes at dims numbers deltas next = ⊥

-- the repetition stands from `at` up to before `next`
pub record HasRep (bytes : List ℕ) (at : ℕ) (rep : Rep) (next : ℕ) : Type 0 where
  pub within : at < length bytes
  pub kind : kind_of rep ≡ slice_index bytes at
  pub parts : HasRepetitionRow (row_at rep_rows (slice_index bytes at)) bytes (at + 1) (dims_of rep) (numbers_of rep) (deltas_of rep) next

-- ---- where none stands

-- these dimensions stand there, and what follows them fails
abbrev pub AfterDims : RepRow → List ℕ → List ℕ → ℕ → RecordBad → Type 0
AfterDims r stored bytes a bad =
    NoNumbers (amount r.numbers stored) bytes a bad
    ⊎ ((numbers : List ℕ) × (b : ℕ) × ((length numbers ≡ amount r.numbers stored) × HasNumbers bytes a numbers b)
    × NoDeltas GDelta (amount r.deltas stored) bytes b bad)

abbrev pub RepetitionRowFails : Option RepRow → List ℕ → ℕ → RecordBad → Type 0
RepetitionRowFails (Some r) bytes at bad =
    NoNumbers r.dims bytes at bad
    ⊎ ((stored : List ℕ) × (a : ℕ) × ((length stored ≡ r.dims) × HasNumbers bytes at stored a) × AfterDims r stored bytes a bad)
RepetitionRowFails None bytes at bad = bad ≡ faults.Shape

pub record RepetitionFails (bytes : List ℕ) (at : ℕ) (bad : RecordBad) : Type 0 where
  pub within : at < length bytes
  pub fails : RepetitionRowFails (row_at rep_rows (slice_index bytes at)) bytes (at + 1) bad

-- no repetition stands at `at`, for this cause: its kind isn't there, or its kind is and the rest isn't
abbrev pub NoRep : List ℕ → ℕ → RecordBad → Type 0
NoRep bytes at bad = NoBytes bytes at 1 bad ⊎ RepetitionFails bytes at bad
