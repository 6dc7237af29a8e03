-- What names a line, and what a trapezoid.
use Rattle.std.proofs.Common.{◌≡◌, ℤ, ◌<ℤ◌, refl, arith, ap}
use Rattle.std.proofs.lemmas.Int.{ints}
use Rattle.half_grid.specs.Lines.{x_on}
use Rattle.half_grid.specs.Trapezoids.{trapezoid}
use Rattle.half_grid.specs.declared.plane.Line.{Line}
use Rattle.half_grid.specs.declared.plane.Line.TheVariants.{Upright, Rising, Falling}

-- two points of different Y name the line through them
pub line_names : (l m : Line) (y0 y1 : ℤ) → y0 <ℤ y1 → x_on l y0 ≡ x_on m y0 → x_on l y1 ≡ x_on m y1 → l ≡ m
line_names (Upright a) (Upright b) y0 y1 h p q = ap Upright p
line_names (Upright a) (Rising b) y0 y1 h p q = absurd (omega (arith, ints))
line_names (Upright a) (Falling b) y0 y1 h p q = absurd (omega (arith, ints))
line_names (Rising a) (Upright b) y0 y1 h p q = absurd (omega (arith, ints))
line_names (Rising a) (Rising b) y0 y1 h p q = let same : a ≡ b = omega (arith, ints) in ap Rising same
line_names (Rising a) (Falling b) y0 y1 h p q = absurd (omega (arith, ints))
line_names (Falling a) (Upright b) y0 y1 h p q = absurd (omega (arith, ints))
line_names (Falling a) (Rising b) y0 y1 h p q = absurd (omega (arith, ints))
line_names (Falling a) (Falling b) y0 y1 h p q = let same : a ≡ b = omega (arith, ints) in ap Falling same

pub same_trapezoid : (a b c d : ℤ) (l m r s : Line) → a ≡ b → c ≡ d → l ≡ m → r ≡ s → trapezoid a c l r ≡ trapezoid b d m s
same_trapezoid a b c d l m r s e f g h = rw (e, f, g, h) refl
