-- A line by which way it goes and by its number, which is that of the first strip right of it.
use Rattle.std.specs.Prelude.{◌≡◌, ℤ, refl}
use Rattle.half_grid.specs.Lines.{first_strip}
use Rattle.half_grid.specs.declared.plane.Line.{Line}
use Rattle.half_grid.specs.declared.plane.Line.TheVariants as line
use Rattle.half_grid.specs.declared.border.Way.{Way}
use Rattle.half_grid.specs.declared.border.Way.TheVariants.{Upright, Rising, Falling}

-- which way a line goes
abbrev pub way_of : Line → Way
way_of (line.Upright c) = Upright
way_of (line.Rising c) = Rising
way_of (line.Falling c) = Falling

-- the line that goes this way and has this number
abbrev pub line_by : Way → ℤ → Line
line_by Upright number = line.Upright number
line_by Rising number = line.Rising number
line_by Falling number = line.Falling number

-- Number and way are the line's, so that both can be had back from it.
pub number_back : (way : Way) (number : ℤ) → first_strip (line_by way number) ≡ number
number_back Upright number = refl
number_back Rising number = refl
number_back Falling number = refl

pub way_back : (way : Way) (number : ℤ) → way_of (line_by way number) ≡ way
way_back Upright number = refl
way_back Rising number = refl
way_back Falling number = refl
