-- Regular repetitions.
use Rattle.std.specs.Prelude.{◌≡◌, ◌≤◌, ◌⊎◌, List}
use Rattle.half_grid.specs.declared.plane.Point.{Point}
use Rattle.layout_model.specs.Grids.{grid_places}
use Rattle.oas_shapes.specs.Plane.{origin}
use Rattle.oas_shapes.specs.Ways.{way_of}
use Rattle.oas_shapes.specs.declared.lattices.Lattice.{Lattice}

abbrev pub places_of : Lattice → List Point
places_of l = grid_places l.nu l.nv (way_of l.u) (way_of l.v)

-- both counts are 1 to 16,777,216, and where one is 1 its step is none
pub record IsLattice (l : Lattice) : Type 0 where
  pub some_columns : 1 ≤ l.nu
  pub few_columns : l.nu ≤ 16777216
  pub some_rows : 1 ≤ l.nv
  pub few_rows : l.nv ≤ 16777216
  pub columns : (2 ≤ l.nu) ⊎ (way_of l.u ≡ origin)
  pub rows : (2 ≤ l.nv) ⊎ (way_of l.v ≡ origin)
