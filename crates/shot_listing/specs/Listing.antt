-- The listing of a shot file: a line for its unit, one for its layer and datatype where it has shots, a line of six
-- numbers for each shot, and a line of the sums. Each line ends with LF, and all numbers are decimal.
use Rattle.std.specs.Prelude.{ℕ, List, [], ◌++◌, Option, None, Some, length, flat_map, codes}
use Rattle.std.specs.Fmt.{decimal, signed_decimal}
use Rattle.half_grid.specs.Lines.{x_on}
use Rattle.half_grid.specs.Trapezoids.{Trapezoid}
use Rattle.layout_model.specs.declared.pair.Pair.{Pair}
use Rattle.shot_writer.specs.Writing.{triangles_of}

-- `unit 2000`
abbrev pub unit_line : ℕ → List ℕ
unit_line unit = codes "unit " ++ decimal unit ++ codes "\n"

-- `layer 1 0`, the layer and the datatype, where there are shots
abbrev pub layer_line : Option Pair → List ℕ
layer_line None = []
layer_line (Some pair) = codes "layer " ++ decimal pair.layer ++ codes " " ++ decimal pair.datatype ++ codes "\n"

-- `0 20 0 20 0 20`: the Y of the lower and of the upper side, the X of both ends of the lower side, and of the upper
unfoldable pub shot_line : Trapezoid → List ℕ
shot_line z =
    signed_decimal z.y0 ++ codes " " ++ signed_decimal z.y1 ++ codes " "
    ++ signed_decimal (x_on z.left z.y0) ++ codes " " ++ signed_decimal (x_on z.right z.y0) ++ codes " "
    ++ signed_decimal (x_on z.left z.y1) ++ codes " " ++ signed_decimal (x_on z.right z.y1) ++ codes "\n"

-- `shots 1 triangles 800`
abbrev pub sums_line : ℕ → ℕ → List ℕ
sums_line shots triangles = codes "shots " ++ decimal shots ++ codes " triangles " ++ decimal triangles ++ codes "\n"

-- the text of a unit, a pair and a list of shots
unfoldable pub listing : ℕ → Option Pair → List Trapezoid → List ℕ
listing unit pair shots =
    unit_line unit ++ layer_line pair ++ flat_map shot_line shots ++ sums_line (length shots) (triangles_of shots)
