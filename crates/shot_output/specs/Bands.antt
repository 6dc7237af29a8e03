-- What is put to the writer of an output: the shots of one band after another, from the first band on.
use Rattle.std.specs.Prelude.{ℕ, ℤ, ◌≡◌, ◌+◌, ◌^◌, ◌<◌, Bool, IsTrue, List}
use Rattle.half_grid.specs.Trapezoids.{Trapezoid}
use Rattle.half_grid.specs.Windows.{RowRange}
use Rattle.depot.specs.Content.{Content, with_written, IsPartWritten}
use Rattle.half_grid.specs.declared.plane.Tile.{Tile}
use Rattle.bool_ops.specs.Operations.{IsInRows}
use Rattle.deck_plan.specs.Plans.{Planned, IsBandOf, planned_area}
use Rattle.fracture.specs.Cutting.{shots_of}
use Rattle.layout_model.specs.declared.pair.Pair.{Pair}
use Rattle.shot_writer.specs.Writing.{AreSumsAfter, no_sums, records_of, triangles_of}
use Rattle.shot_writer.specs.declared.parts.Sums.{Sums}
use Rattle.deck_plan.specs.Bands.{band}
use Rattle.shot_output.specs.ShotLists.{IsShotListBelow}
use Rattle.shot_output.specs.Files.{rules_of, IsListOf}

-- no tile of the output's area lies outside the rows
abbrev pub HasRows : Planned → ℕ → RowRange → Type 0
HasRows p k rows = (t : Tile) → planned_area p k t → IsInRows rows t

abbrev pub band_shots : Planned → List Trapezoid → List Trapezoid
band_shots p traps = shots_of p.deck.limits.height p.deck.limits.width traps

-- the sums have room for the shots of the window
abbrev pub HasRoomFor : Planned → ℕ → RowRange → Sums → Type 0
HasRoomFor p k window sums = (traps : List Trapezoid) → IsBandOf p k window traps → sums.triangles + triangles_of (band_shots p traps) < 2 ^ 127

-- the shots of the window were put
pub record IsBandPut (p : Planned) (k : ℕ) (window : RowRange) (pair : Pair) (tells : Bool) (before now : Content) (sums new : Sums) : Type 0 where
  pub traps : List Trapezoid
  pub joined : IsBandOf p k window traps
  pub content : IsTrue tells → now ≡ with_written before (records_of pair (band_shots p traps))
  pub summed : AreSumsAfter sums (band_shots p traps) new

-- a prefix of their records was
pub record IsBandPart (p : Planned) (k : ℕ) (window : RowRange) (pair : Pair) (tells : Bool) (before now : Content) : Type 0 where
  pub traps : List Trapezoid
  pub joined : IsBandOf p k window traps
  pub content : IsTrue tells → IsPartWritten before (records_of pair (band_shots p traps)) now

-- the shots of all bands below a band were put
pub record IsPutBelow (p : Planned) (k : ℕ) (window : RowRange) (pair : Pair) (tells : Bool) (before now : Content) (sums : Sums) : Type 0 where
  pub m : ℤ
  pub at : window ≡ band p.deck.band m
  pub shots : List Trapezoid
  pub list : IsShotListBelow (rules_of p.deck) (planned_area p k) m shots
  pub content : IsTrue tells → now ≡ with_written before (records_of pair shots)
  pub summed : AreSumsAfter no_sums shots sums

-- all shots were put
pub record IsPut (p : Planned) (k : ℕ) (pair : Pair) (tells : Bool) (before now : Content) (sums : Sums) : Type 0 where
  pub shots : List Trapezoid
  pub list : IsListOf p k shots
  pub content : IsTrue tells → now ≡ with_written before (records_of pair shots)
  pub summed : AreSumsAfter no_sums shots sums

-- a prefix of the records of all shots was
pub record IsPutPart (p : Planned) (k : ℕ) (pair : Pair) (tells : Bool) (before now : Content) : Type 0 where
  pub shots : List Trapezoid
  pub list : IsListOf p k shots
  pub content : IsTrue tells → IsPartWritten before (records_of pair shots) now
