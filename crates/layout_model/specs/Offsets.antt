-- What a list of offsets shows: one place, the places that it keeps, or those of a grid.
use Rattle.std.specs.Prelude.{List, [], ◌∷◌, ◌*◌, ◌≢◌, length}
use Rattle.half_grid.specs.declared.extent.Frame.{Frame}
use Rattle.half_grid.specs.declared.plane.Point.{Point}
use Rattle.layout_model.specs.Grids.{IsGrid, grid_places}
use Rattle.layout_model.specs.Hulls.{IsLeastBoxOf}
use Rattle.layout_model.specs.declared.offsets.Places.{Places}
use Rattle.layout_model.specs.declared.offsets.Places.TheVariants.{One, Listed, Regular}

abbrev pub list_of : Places → List Point
list_of (One place) = place ∷ []
list_of (Listed listed) = listed.value.places.items
list_of (Regular grid) = grid_places grid.value.nu grid.value.nv grid.value.u grid.value.v

-- a list of one place is kept as that place; one of some places has their least box
pub record IsListed (places : List Point) (box : Frame) : Type 0 where
  pub several : length places ≢ 1
  pub hull : places ≢ [] → IsLeastBoxOf places box

abbrev pub IsSound : Places → Type 0
IsSound (One place) = Unit {0}
IsSound (Listed listed) = IsListed listed.value.places.items listed.value.hull
IsSound (Regular grid) = IsGrid grid.value.nu grid.value.nv grid.value.u grid.value.v × (grid.value.nu * grid.value.nv ≢ 1)
