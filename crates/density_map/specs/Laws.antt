-- What holds of counts over tiles.
use Rattle.std.specs.Prelude.{ℤ, ◌≡◌, List, [], ◌∷◌, ◌++◌, count_by}
use Rattle.half_grid.specs.Sizes.{is_tile}
use Rattle.half_grid.specs.Trapezoids.{Trapezoid, count_in}
use Rattle.half_grid.specs.declared.extent.Frame.{Frame}
use Rattle.half_grid.specs.declared.plane.Tile.{Tile}
use Rattle.density_map.specs.Frames.{IsInFrame, frame_tiles}
use Rattle.density_map.specs.Windows.{IsWindowCount, window_sum}
use Rattle.density_map.specs.Rows.{RowMap, AreApart, IsMapOf, IsAdded}

-- The tiles of a frame are those in its columns and rows, each once.
abbrev pub EachTileOnce : Type 0
EachTileOnce = (frame : Frame) (t : Tile) → IsInFrame frame t → count_by (is_tile t) (frame_tiles frame) ≡ 1

abbrev pub NoOtherTile : Type 0
NoOtherTile = (frame : Frame) (t : Tile) → (IsInFrame frame t → ⊥) → count_by (is_tile t) (frame_tiles frame) ≡ 0

-- Where no tile is in two of the trapezoids, what they have in a window together is the count of the window for the
-- tiles that they have.
abbrev pub SumIsCount : Type 0
SumIsCount = (size i j : ℤ) (traps : List Trapezoid) → AreApart traps → IsWindowCount (λ t. count_in traps t ≡ 1) size i j (window_sum size i j traps)

-- One more trapezoid is counted.
abbrev pub OneMore : Type 0
OneMore = (m new : RowMap) (traps : List Trapezoid) (z : Trapezoid) → IsMapOf m traps → IsAdded m z new → IsMapOf new (traps ++ z ∷ [])
