-- The places that are kept with a repetition that lists them.
use Rattle.std.specs.Prelude.{◌≡◌, List, Option, Some, None}
use Rattle.half_grid.specs.declared.plane.Point.{Point}
use Rattle.layout_model.specs.Layouts.{AreOffsets}
use Rattle.oas_record.specs.declared.repetition.Rep.{Rep}
use Rattle.oas_shapes.specs.Repetitions.{HasDimensions, offsets_of}

-- they are its offsets, which keep all rules
pub record AreItsPlaces (rep : Rep) (places : List Point) : Type 0 where
  pub offsets : places ≡ offsets_of rep
  pub grid : AreOffsets places
  pub allowed : HasDimensions rep

-- none are kept, or those are its places
abbrev pub IsShared : Rep → Option (List Point) → Type 0
IsShared rep None = Unit {0}
IsShared rep (Some places) = AreItsPlaces rep places
