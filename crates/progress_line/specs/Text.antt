-- What a line of progress says: `reading chip.gds: 0:03, 1.5 of 20.0 MB`, and of a file that is made row by row
-- `covering metal.oas: 1200 of 4000 rows, 0:12, 0:28 left, 34210 shots, 1.5 MB`.
use Rattle.depot.specs.declared.outside.Phase.{Phase}
use Rattle.depot.specs.declared.outside.Phase.TheVariants.{Reading, Judging, Covering, Writing, Checking, Counting}
use Rattle.depot.specs.declared.outside.Progress.{Progress}
use Rattle.std.specs.Prelude.{ℕ, ◌-◌, ◌*◌, ◌/◌, ◌%◌, Bool, List, [], Option, Some, None, ◌++◌, ◌&&◌, codes, decimal, length, drop, map, take, nat_le, nat_lt, if◌then◌else◌}

-- a visible ASCII character or a space as it is, and another byte as `?`
abbrev pub shown : ℕ → ℕ
shown b = if nat_le 32 b && nat_le b 126 then b else 63

-- a name of at most 24 bytes, and of a longer one two dots and its last 22 bytes
abbrev pub short_name : List ℕ → List ℕ
short_name name = if nat_le (length name) 24 then name else codes ".." ++ drop (length name - 22) name

-- what is done
abbrev pub verb : Phase → List ℕ
verb Reading = codes "reading "
verb Judging = codes "judging "
verb Covering = codes "covering "
verb Writing = codes "writing "
verb Checking = codes "checking "
verb Counting = codes "counting "

-- seconds as minutes and seconds
abbrev pub clock : ℕ → List ℕ
clock s = decimal (s / 60) ++ codes ":" ++ decimal (s % 60 / 10) ++ decimal (s % 60 % 10)

-- how many rows are done of all, where that is known
abbrev pub rows_done : Option Progress → List ℕ
rows_done None = []
rows_done (Some p) = decimal p.rows ++ codes " of " ++ decimal p.all_rows ++ codes " rows, "

-- how many shots are written, where there are some
abbrev pub some_shots : ℕ → List ℕ
some_shots n = if nat_lt 0 n then decimal n ++ codes " shots, " else []

-- the same of what is known of an output
abbrev pub shots_done : Option Progress → List ℕ
shots_done None = []
shots_done (Some p) = some_shots p.shots

-- how much is done: rows where these are known, else bytes
abbrev pub part_done : Option Progress → ℕ → ℕ
part_done None done = done
part_done (Some p) done = p.rows

-- how much there is of it, and 0 where that isn't known
abbrev pub part_of : Option Progress → Option ℕ → ℕ
part_of None None = 0
part_of None (Some all) = all
part_of (Some p) all = p.all_rows

-- whether the time that is left is told: after ten seconds, where some of all is done
abbrev pub is_told : ℕ → ℕ → ℕ → Bool
is_told seconds done all = nat_le 10 seconds && nat_lt 0 done && nat_le done all

-- the time that is left, if what is left goes as fast as what is done
abbrev pub time_left : ℕ → ℕ → ℕ → List ℕ
time_left seconds done all = if is_told seconds done all then codes ", " ++ clock (seconds * (all - done) / done) ++ codes " left" else []

-- bytes in millions, cut to one decimal
abbrev pub megabytes : ℕ → List ℕ
megabytes bytes = decimal (bytes / 1000000) ++ codes "." ++ decimal (bytes % 1000000 / 100000)

-- bytes of a file of this size
abbrev pub bytes_of : ℕ → ℕ → List ℕ
bytes_of size bytes = if nat_lt size 1000000 then decimal bytes else megabytes bytes

-- what the bytes of a file of this size are counted in
abbrev pub unit_of : ℕ → List ℕ
unit_of size = if nat_lt size 1000000 then codes " bytes" else codes " MB"

-- the bytes that are done, of all where these are known
abbrev pub amount : ℕ → Option ℕ → List ℕ
amount done None = bytes_of done done ++ unit_of done
amount done (Some all) = bytes_of all done ++ codes " of " ++ bytes_of all all ++ unit_of all

-- a text at the end of a line, as much of it as there is room for
unfoldable pub put : List ℕ → List ℕ → List ℕ
put line text = take 120 (line ++ map shown text)

-- a file's name, as a line has it
abbrev pub label : List ℕ → List ℕ
label name = put [] (short_name name ++ codes ": ")

-- the line of a file, so many seconds after its work began
abbrev pub line_of : Phase → List ℕ → Option Progress → ℕ → Option ℕ → ℕ → List ℕ
line_of phase name work done all seconds =
    put [] (verb phase ++ name ++ rows_done work ++ clock seconds ++ time_left seconds (part_done work done) (part_of work all) ++ codes ", "
    ++ shots_done work ++ amount done all)
