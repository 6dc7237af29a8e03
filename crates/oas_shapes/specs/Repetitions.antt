-- The offsets of a repetition in grid steps, by its kind (SEMI P39 1.0, section 7, repetitions). The first is (0, 0). Of
-- a regular one the first number runs fastest, as in a grid of a layout.
use Rattle.std.specs.Prelude.{ℕ, ◌≤◌, Option, Some, None, List, [], ◌∷◌, map, All}
use Rattle.half_grid.specs.declared.plane.Point.{Point}
use Rattle.layout_model.specs.Grids.{grid_places}
use Rattle.layout_model.specs.Images.{enlarged}
use Rattle.oas_record.specs.Repetitions.{dims_of}
use Rattle.oas_record.specs.declared.repetition.Rep.{Rep}
use Rattle.oas_record.specs.declared.repetition.Rep.TheVariants as reps
use Rattle.oas_shapes.specs.Plane.{origin, east, north, doubled, places_along}

abbrev pub steps_of : Rep → List Point
-- 0: it stands for another repetition, and is one place by itself
steps_of reps.Same = origin ∷ []
-- 1: (a * x_space, b * y_space)
steps_of (reps.Grid x_dim y_dim x_space y_space) = grid_places x_dim y_dim (east x_space) (north y_space)
-- 2, 3: a row, a column
steps_of (reps.Row dim space) = grid_places dim 1 (east space) origin
steps_of (reps.Column dim space) = grid_places dim 1 (north space) origin
-- 4, 6: a row, a column, the spaces added up
steps_of (reps.RowSpaces dim spaces) = places_along origin (map east spaces)
steps_of (reps.ColumnSpaces dim spaces) = places_along origin (map north spaces)
-- 5, 7: as 4 and 6, each space times the grid
steps_of (reps.RowOnGrid dim grid spaces) = places_along origin (map (λ space. enlarged grid (east space)) spaces)
steps_of (reps.ColumnOnGrid dim grid spaces) = places_along origin (map (λ space. enlarged grid (north space)) spaces)
-- 8: a*u + b*v
steps_of (reps.Lattice n_dim m_dim u v) = grid_places n_dim m_dim u v
-- 9: a*u
steps_of (reps.Line dim u) = grid_places dim 1 u origin
-- 10: the moves added up
steps_of (reps.Moves dim moves) = places_along origin moves
-- 11: as 10, each move times the grid
steps_of (reps.MovesOnGrid dim grid moves) = places_along origin (map (enlarged grid) moves)

-- the offsets in half units
abbrev pub offsets_of : Rep → List Point
offsets_of rep = map doubled (steps_of rep)

-- those of a record that may have none
abbrev pub offsets_in : Option Rep → List Point
offsets_in None = origin ∷ []
offsets_in (Some rep) = offsets_of rep

-- a dimension is at most 16,777,216; it is stored less 2, so there is none below 2
abbrev pub IsDimension : ℕ → Type 0
IsDimension n = (2 ≤ n) × (n ≤ 16777216)

abbrev pub HasDimensions : Rep → Type 0
HasDimensions rep = All IsDimension (dims_of rep)

abbrev pub HasDimensionsIn : Option Rep → Type 0
HasDimensionsIn None = Unit {0}
HasDimensionsIn (Some rep) = HasDimensions rep
