-- What a kept piece is: a trapezoid whose numbers are of 32 bits, with its lines by their ways and numbers.
use Rattle.std.specs.Prelude.{ℤ}
use Rattle.half_grid.specs.Lines.{first_strip}
use Rattle.half_grid.specs.Trapezoids.{Trapezoid, trapezoid}
use Rattle.half_grid.specs.declared.plane.Line.{Line}
use Rattle.half_grid.specs.declared.plane.Line.TheVariants as line
use Rattle.layout_model.specs.Kept.{IsShort}
use Rattle.flat_walk.specs.declared.kept_pieces.Kind.{Kind}
use Rattle.flat_walk.specs.declared.kept_pieces.Kind.TheVariants.{Upright, Rising, Falling}
use Rattle.flat_walk.specs.declared.kept_pieces.ShortPiece.TheInside.{Inside}

-- which way a line goes
abbrev pub kind_of : Line → Kind
kind_of (line.Upright c) = Upright
kind_of (line.Rising c) = Rising
kind_of (line.Falling c) = Falling

-- the line that goes this way and has this number
abbrev pub line_from : Kind → ℤ → Line
line_from Upright number = line.Upright number
line_from Rising number = line.Rising number
line_from Falling number = line.Falling number

abbrev pub trapezoid_from : Inside → Trapezoid
trapezoid_from few = trapezoid few.y0 few.y1 (line_from few.left_kind few.left) (line_from few.right_kind few.right)

-- its rows and its lines have numbers of 32 bits
pub record IsShortTrapezoid (z : Trapezoid) : Type 0 where
  pub y0 : IsShort z.y0
  pub y1 : IsShort z.y1
  pub left : IsShort (first_strip z.left)
  pub right : IsShort (first_strip z.right)
