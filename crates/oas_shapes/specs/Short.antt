-- Which lists are gone through without memory. Whatever rule a record with such lists breaks is told, also where memory
-- is wanting.
use Rattle.std.specs.Prelude.{◌<◌, Option, Some, None, List, length}
use Rattle.oas_record.specs.declared.fields.Deltas.{Deltas}
use Rattle.oas_record.specs.declared.repetition.Rep.{Rep}
use Rattle.oas_record.specs.declared.repetition.Rep.TheVariants as reps

-- with the place that they begin at they lead to twelve places at most
abbrev pub AreFew : {A : Type 0} → List A → Type 0
AreFew moves = length moves < 12

-- a repetition that lists few spaces or moves, or none because it is regular
abbrev pub IsShort : Rep → Type 0
IsShort (reps.RowSpaces dim spaces) = AreFew spaces
IsShort (reps.RowOnGrid dim grid spaces) = AreFew spaces
IsShort (reps.ColumnSpaces dim spaces) = AreFew spaces
IsShort (reps.ColumnOnGrid dim grid spaces) = AreFew spaces
IsShort (reps.Moves dim moves) = AreFew moves
IsShort (reps.MovesOnGrid dim grid moves) = AreFew moves
IsShort _ = Unit {0}

-- that of a record that may have none
abbrev pub IsShortIn : Option Rep → Type 0
IsShortIn None = Unit {0}
IsShortIn (Some rep) = IsShort rep

-- a point list of a path
abbrev pub HasFewPoints : Deltas → Type 0
HasFewPoints deltas = AreFew deltas.items

-- a point list of a polygon: with the vertex that isn't stored and the first one again it has twelve points at most
abbrev pub HasFewVertices : Deltas → Type 0
HasFewVertices deltas = length deltas.items < 10
