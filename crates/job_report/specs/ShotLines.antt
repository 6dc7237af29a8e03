-- The line of a refused shot file. It ends with LF. A number in it is decimal.
use Rattle.std.specs.Prelude.{ℕ, List, ◌++◌, codes, decimal}
use Rattle.std.specs.Fmt.{signed_decimal}
use Rattle.half_grid.specs.declared.plane.Side.{Side}
use Rattle.half_grid.specs.declared.plane.Side.TheVariants.{Left, Right}
use Rattle.half_grid.specs.declared.plane.Tile.{Tile}
use Rattle.shot_reader.specs.declared.refusing.ShotBad.{ShotBad}
use Rattle.shot_reader.specs.declared.refusing.ShotBad.TheVariants.{Head, Record, Spelling, Illegal, End}
use Rattle.shot_repeat.specs.declared.refusing.PackBad.{PackBad}
use Rattle.shot_repeat.specs.declared.refusing.PackBad.TheVariants as packs
use Rattle.job_report.specs.declared.faults.CheckFault.{CheckFault}
use Rattle.job_report.specs.declared.faults.CheckFault.TheVariants as check_faults

-- a refused shot file, by its name, the fault and the fault's offset
abbrev pub fault_line : List ℕ → List ℕ → ℕ → List ℕ
fault_line file fault at = codes "check refused: " ++ file ++ fault ++ decimal at ++ codes "\n"

abbrev pub shot_line_of : List ℕ → ShotBad → List ℕ
shot_line_of file (Head at) = fault_line file (codes ": head at ") at
shot_line_of file (Record at) = fault_line file (codes ": record at ") at
shot_line_of file (Spelling at) = fault_line file (codes ": spelling at ") at
shot_line_of file (Illegal at) = fault_line file (codes ": illegal at ") at
shot_line_of file (End at) = fault_line file (codes ": end at ") at

-- a refused packed shot file
abbrev pub pack_line_of : List ℕ → PackBad → List ℕ
pack_line_of file (packs.Head at) = fault_line file (codes ": packed head at ") at
pack_line_of file (packs.Record at) = fault_line file (codes ": packed record at ") at
pack_line_of file (packs.Spelling at) = fault_line file (codes ": packed spelling at ") at
pack_line_of file (packs.Undefined at) = fault_line file (codes ": packed undefined at ") at
pack_line_of file (packs.Pair at) = fault_line file (codes ": packed pair at ") at
pack_line_of file (packs.Many at) = fault_line file (codes ": packed many at ") at
pack_line_of file (packs.Illegal at) = fault_line file (codes ": packed illegal at ") at
pack_line_of file (packs.End at) = fault_line file (codes ": packed end at ") at

-- a refused shot file, by its name and what is wrong with it
abbrev pub text_line : List ℕ → List ℕ → List ℕ
text_line file text = codes "check refused: " ++ file ++ text

abbrev pub side_text : Side → List ℕ
side_text Left = codes " left count "
side_text Right = codes " right count "

-- a tile that is in another number of shots than it should be: `tile 0 0 left count 2 wanted 1`
abbrev pub tile_line : List ℕ → Tile → (count wanted : ℕ) → List ℕ
tile_line file t count wanted =
    codes "check refused: " ++ file ++ codes ": tile " ++ signed_decimal t.i ++ codes " " ++ signed_decimal t.j
    ++ side_text t.side ++ decimal count ++ codes " wanted " ++ decimal wanted ++ codes "\n"

-- a shot that is beyond the limits: `shot 0 too large`
abbrev pub too_large_line : List ℕ → ℕ → List ℕ
too_large_line file k = codes "check refused: " ++ file ++ codes ": shot " ++ decimal k ++ codes " too large\n"

-- a shot that is past a field's reach: `shot 0 past field reach`
abbrev pub wide_line : List ℕ → ℕ → List ℕ
wide_line file k = codes "check refused: " ++ file ++ codes ": shot " ++ decimal k ++ codes " past field reach\n"

-- too many stripes: `4097 stripes`
abbrev pub stripes_line : List ℕ → ℕ → List ℕ
stripes_line file value = codes "check refused: " ++ file ++ codes ": " ++ decimal value ++ codes " stripes\n"

abbrev pub check_line : List ℕ → CheckFault → List ℕ
check_line file check_faults.Long = text_line file (codes ": longer than 268435456 bytes\n")
check_line file (check_faults.Bad bad) = shot_line_of file bad
check_line file check_faults.Head = text_line file (codes ": unit or layer differs\n")
check_line file (check_faults.Miscovered t count wanted) = tile_line file t count wanted
check_line file (check_faults.TooLarge k) = too_large_line file k
check_line file (check_faults.Pack bad) = pack_line_of file bad
check_line file (check_faults.Wide k) = wide_line file k
check_line file (check_faults.Stripes value) = stripes_line file value
