-- A line is the one that goes its way and has its number.
use Rattle.std.proofs.Common.{◌≡◌, ℤ, refl}
use Rattle.half_grid.specs.Lines.{first_strip}
use Rattle.half_grid.specs.Ways.{way_of, line_by}
use Rattle.half_grid.specs.declared.plane.Line.{Line}
use Rattle.half_grid.specs.declared.plane.Line.TheVariants.{Upright, Rising, Falling}
use Rattle.half_grid.specs.declared.border.Way.{Way}

line_back : (l : Line) → line_by (way_of l) (first_strip l) ≡ l
line_back (Upright c) = refl
line_back (Rising c) = refl
line_back (Falling c) = refl

pub line_is : (l : Line) (way : Way) (number : ℤ) → way ≡ way_of l → number ≡ first_strip l → line_by way number ≡ l
line_is l way number h k = rw (h, k) (line_back l)
