-- Entries by codes: 0 stands for the one piece of a rectangle, had from the shape of the entry's number, and each other code
-- for an entry of a store. This is for the contracts of the table's own functions.
use Rattle.std.specs.Prelude.{◌≡◌, ◌<◌, ℕ, zero, suc, List, [], ◌∷◌, Option, Some, None, length, get_or, slice_get}
use Rattle.std.specs.Int.{int_min, int_max}
use Rattle.half_grid.specs.Trapezoids.{Trapezoid, IsShot}
use Rattle.half_grid.specs.declared.extent.Frame.{Frame}
use Rattle.half_grid.specs.declared.plane.Point.{Point}
use Rattle.layout_model.specs.declared.shapes.Shape.{Shape}
use Rattle.flat_walk.specs.Kept.{Entry, alone, bare}
use Rattle.flat_walk.specs.PieceLists.{upright}

-- the box of the first and the third of four corners
abbrev pub own_frame : List Point → Option Frame
own_frame (a ∷ b ∷ c ∷ d ∷ e ∷ []) = Some (record { x0 = int_min a.x c.x; y0 = int_min a.y c.y; x1 = int_max a.x c.x; y1 = int_max a.y c.y })
own_frame points = None

abbrev pub framed : Option Frame → List Trapezoid
framed None = []
framed (Some frame) = upright frame ∷ []

abbrev pub own_pieces : Option Shape → List Trapezoid
own_pieces None = []
own_pieces (Some shape) = framed (own_frame shape.points)

-- the entry of number n by its code
abbrev pub entry_at : List Shape → List Entry → ℕ → ℕ → Entry
entry_at shapes store n zero = alone (own_pieces (slice_get shapes n))
entry_at shapes store n (suc number) = get_or store number bare

-- those from number n on
abbrev pub entries_from : List Shape → List Entry → ℕ → List ℕ → List Entry
entries_from shapes store n [] = []
entries_from shapes store n (code ∷ codes) = entry_at shapes store n code ∷ entries_from shapes store (suc n) codes

-- the shape has four corners, and the box of two of them is a shot
pub record IsOwnShape (shapes : List Shape) (n : ℕ) : Type 0 where
  pub shape : Shape
  pub here : slice_get shapes n ≡ Some shape
  pub frame : Frame
  pub is : own_frame shape.points ≡ Some frame
  pub shot : IsShot (upright frame)

-- what the code stands for is there
abbrev pub IsCoded : List Shape → List Entry → ℕ → ℕ → Type 0
IsCoded shapes store n zero = IsOwnShape shapes n
IsCoded shapes store n (suc number) = number < length store

abbrev pub AreCoded : List Shape → List Entry → ℕ → List ℕ → Type 0
AreCoded shapes store n [] = Unit {0}
AreCoded shapes store n (code ∷ codes) = IsCoded shapes store n code × AreCoded shapes store (suc n) codes
