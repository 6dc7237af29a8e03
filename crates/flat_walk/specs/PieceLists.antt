-- What is left of a shape's pieces, wherever they are kept. This is for the contracts of the walk's own functions.
use Rattle.std.specs.Prelude.{◌≡◌, List, [], ◌∷◌}
use Rattle.half_grid.specs.Quads.{Corners, corners_of}
use Rattle.half_grid.specs.Trapezoids.{Trapezoid, trapezoid, IsShot}
use Rattle.half_grid.specs.declared.extent.Frame.{Frame}
use Rattle.half_grid.specs.declared.plane.Line.TheVariants.{Upright}
use Rattle.flat_walk.specs.declared.piece_lists.PieceList.{PieceList}
use Rattle.flat_walk.specs.declared.piece_lists.PieceList.TheVariants.{Only, Short, Wide}

-- the box, filled
abbrev pub upright : Frame → Trapezoid
upright frame = trapezoid frame.y0 frame.y1 (Upright frame.x0) (Upright frame.x1)

abbrev pub listed : PieceList → List Trapezoid
listed (Only frame) = upright frame ∷ []
listed (Short pieces) = pieces.now
listed (Wide traps) = traps.now

-- those that are kept as trapezoids are shots anyway
abbrev pub AreShots : PieceList → Type 0
AreShots (Only frame) = IsShot (upright frame)
AreShots (Short pieces) = Unit {0}
AreShots (Wide traps) = Unit {0}

-- the corners are those of the first piece, and the others are left
pub record IsNextPiece (before : List Trapezoid) (quad : Corners) (after : List Trapezoid) : Type 0 where
  pub piece : Trapezoid
  pub is : before ≡ piece ∷ after
  pub corners : quad ≡ corners_of piece
