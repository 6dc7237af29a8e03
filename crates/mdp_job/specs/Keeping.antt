-- What holds of the files of all stripes together, whatever FILE is.
use Rattle.std.specs.Prelude.{ℕ, ◌≡◌, ℤ, pos, ◌+ℤ◌, List, [], ◌∷◌, count_by, length}
use Rattle.std.specs.List.{All}
use Rattle.half_grid.specs.Sizes.{is_tile}
use Rattle.half_grid.specs.Trapezoids.{Trapezoid, IsShot, FitsLimits, CoversExactly, count_in}
use Rattle.half_grid.specs.declared.plane.Tile.{Tile}
use Rattle.geo_stream.specs.Flattened.{end_to_end}
use Rattle.field_split.specs.Laws.{LiesInOneField}
use Rattle.shot_writer.specs.Writing.{triangles_of}
use Rattle.deck_text.specs.declared.deck.Output.{Output}
use Rattle.job_input.specs.declared.reading.Input.{Input}
use Rattle.mdp_job.specs.Denoted.{area_of}

-- each shot of the first list lies in one field of stripe k, and so on for the lists after it
abbrev pub LieInFields : ℤ → ℤ → List (List Trapezoid) → Type 0
LieInFields size k [] = Unit {0}
LieInFields size k (pieces ∷ lists) = All (LiesInOneField size k) pieces × LieInFields size (k +ℤ pos 1) lists

-- the shots have so many tiles, where one that is in two shots counts twice
pub record HaveTiles (shots : List Trapezoid) (n : ℕ) : Type 0 where
  pub tiles : List Tile
  pub each : (t : Tile) → count_by (is_tile t) tiles ≡ count_in shots t
  pub count : length tiles ≡ n

-- Each tile is in as many shots of all stripes' files together as of FILE's. All these shots are legal, each lies in one
-- field, and they are within limits that FILE's shots are within. Where FILE's shots cover exactly an area that a deck
-- denotes of a layout, so do they. The triangles that are said of a stripe, and of all, are the tiles of their shots.
pub record AreKept (size : ℤ) (shots : List Trapezoid) (first : ℤ) (lists : List (List Trapezoid)) : Type 0 where
  pub same : (t : Tile) → count_in (end_to_end lists) t ≡ count_in shots t
  pub legal : All IsShot (end_to_end lists)
  pub fields : LieInFields size first lists
  pub within : (height width : ℤ) → All (FitsLimits height width) shots → All (FitsLimits height width) (end_to_end lists)
  pub cover : (input : Input) (output : Output) → CoversExactly shots (area_of input output) → CoversExactly (end_to_end lists) (area_of input output)
  pub triangles : All (λ pieces. HaveTiles pieces (triangles_of pieces)) lists
  pub all_triangles : HaveTiles (end_to_end lists) (triangles_of (end_to_end lists))
