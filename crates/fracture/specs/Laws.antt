-- What holds of the shots of every list of trapezoids.
use Rattle.std.specs.Prelude.{ℤ, ◌≤◌, ◌≡◌, Bool, IsTrue, List}
use Rattle.std.specs.List.{All}
use Rattle.half_grid.specs.JoinedLists.{IsJoined}
use Rattle.half_grid.specs.Trapezoids.{Trapezoid, IsShot, FitsLimits, count_in}
use Rattle.half_grid.specs.Windows.{RowRange}
use Rattle.half_grid.specs.declared.plane.Tile.{Tile}
use Rattle.fracture.specs.Limits.{AreLimits}
use Rattle.fracture.specs.Cutting.{cut_list, shots_of}
use Rattle.fracture.specs.Economy.{HasNoNeedlessCut}

-- Each tile is in as many of the shots as of the trapezoids.
abbrev pub SameTiles : Type 0
SameTiles = (height width : ℤ) (traps : List Trapezoid) (t : Tile) → AreLimits height width → All IsShot traps
    → count_in (shots_of height width traps) t ≡ count_in traps t

-- Each shot is legal and within reach,
abbrev pub AreShots : Type 0
AreShots = (height width : ℤ) (traps : List Trapezoid) → AreLimits height width → All IsShot traps
    → All IsShot (shots_of height width traps)

-- and within the limits.
abbrev pub FitTheLimits : Type 0
FitTheLimits = (height width : ℤ) (traps : List Trapezoid) → AreLimits height width → All IsShot traps
    → All (FitsLimits height width) (shots_of height width traps)

-- Within one trapezoid no cut is needless, whatever the bands and the area are.
abbrev pub NoneWithin : Type 0
NoneWithin = (rows height width : ℤ) (area : Tile → Bool) (z : Trapezoid) → AreLimits height width → IsShot z
    → HasNoNeedlessCut rows height width (λ t. IsTrue (area t)) (cut_list height width z)

-- Nor is one between the trapezoids of a joined list, where the area is that of the list.
abbrev pub NoneBetween : Type 0
NoneBetween = (rows height width : ℤ) (window : RowRange) (traps : List Trapezoid) → AreLimits height width → All IsShot traps
    → IsJoined window traps → HasNoNeedlessCut rows height width (λ t. 1 ≤ count_in traps t) (shots_of height width traps)
