-- What holds of the stripe lists of every list of shots.
use Rattle.std.specs.Prelude.{◌≤◌, ◌*◌, ◌^◌, ℤ, pos, ◌+ℤ◌, ◌≡◌, List, length}
use Rattle.std.specs.List.{All}
use Rattle.half_grid.specs.Trapezoids.{Trapezoid, IsInTrapezoid, IsShot, FitsLimits, count_in}
use Rattle.half_grid.specs.declared.plane.Tile.{Tile}
use Rattle.geo_stream.specs.Flattened.{end_to_end}
use Rattle.field_split.specs.Fields.{IsFieldSize, IsInStretch, IsInField, IsStripeList, AreStripeLists}
use Rattle.field_split.specs.Looks.{IsFieldShot, IsWithinStripes}

-- A list of shots has a stripe list for each stripe,
abbrev pub SomeStripeList : Type 0
SomeStripeList = (size k : ℤ) (shots : List Trapezoid) → IsFieldSize size → All IsShot shots
    → (pieces : List Trapezoid) × IsStripeList size k shots pieces

-- and only one.
abbrev pub OneStripeList : Type 0
OneStripeList = (size k : ℤ) (shots xs ys : List Trapezoid) → IsFieldSize size → All IsShot shots
    → IsStripeList size k shots xs → IsStripeList size k shots ys → xs ≡ ys

-- Each piece is legal and within reach,
abbrev pub PiecesAreShots : Type 0
PiecesAreShots = (size k : ℤ) (shots pieces : List Trapezoid) → IsFieldSize size → All IsShot shots
    → IsStripeList size k shots pieces → All IsShot pieces

-- within the limits that the shots are within,
abbrev pub PiecesFit : Type 0
PiecesFit = (size k height width : ℤ) (shots pieces : List Trapezoid) → IsFieldSize size → All IsShot shots
    → All (FitsLimits height width) shots → IsStripeList size k shots pieces → All (FitsLimits height width) pieces

-- at most 2^28 for each shot, where the shots can be split,
abbrev pub PiecesAreFew : Type 0
PiecesAreFew = (size k : ℤ) (shots pieces : List Trapezoid) → IsFieldSize size → All IsFieldShot shots
    → IsStripeList size k shots pieces → length pieces ≤ 2 ^ 28 * length shots

-- all tiles of a trapezoid lie in one field of stripe k
abbrev pub LiesInOneField : ℤ → ℤ → Trapezoid → Type 0
LiesInOneField size k z = (m : ℤ) × ((t : Tile) → IsInTrapezoid z t → IsInField size m k t)

-- and in one field.
abbrev pub PiecesInFields : Type 0
PiecesInFields = (size k : ℤ) (shots pieces : List Trapezoid) → IsFieldSize size → All IsShot shots
    → IsStripeList size k shots pieces → All (LiesInOneField size k) pieces

-- A tile of the stripe is in as many of the pieces as of the shots.
abbrev pub SameTilesInStripe : Type 0
SameTilesInStripe = (size k : ℤ) (shots pieces : List Trapezoid) (t : Tile) → IsFieldSize size → All IsShot shots
    → IsStripeList size k shots pieces → IsInStretch size k t.j → count_in pieces t ≡ count_in shots t

-- Each tile is in as many of the pieces of all stripes that the shots meet as of the shots.
abbrev pub SameTiles : Type 0
SameTiles = (size first last : ℤ) (shots : List Trapezoid) (lists : List (List Trapezoid)) (t : Tile) → IsFieldSize size → All IsShot shots
    → All (IsWithinStripes size first last) shots → AreStripeLists size first shots lists → (first +ℤ pos (length lists)) ≡ (last +ℤ pos 1)
    → count_in (end_to_end lists) t ≡ count_in shots t
