-- The text of density tables: for each output of a deck a line of its file and of the windows' size, a line for each
-- window that has tiles, by ascending row and then by ascending column, one for the first window that has the most, where
-- there is any, and one for the number of all triangles. Each line ends with LF, and all numbers are decimal.
use Rattle.std.specs.Prelude.{ℕ, ℤ, List, [], ◌++◌, Option, None, Some, flat_map, codes, decimal}
use Rattle.std.specs.Fmt.{signed_decimal}
use Rattle.std.specs.List.{zip}
use Rattle.deck_text.specs.declared.deck.Output.{Output}
use Rattle.density_report.specs.declared.entries.Entry.{Entry}
use Rattle.density_report.specs.Tables.{Table}

-- what follows the file's name in the first line
abbrev pub size_end : ℤ → List ℕ
size_end size = codes " size " ++ signed_decimal size ++ codes "\n"

-- `density out.oas size 64`
abbrev pub size_line : List ℕ → ℤ → List ℕ
size_line file size = codes "density " ++ file ++ size_end size

-- `-1 0 300`: the column and the row of the window, and its number of triangles
unfoldable pub entry_line : Entry → List ℕ
entry_line e = signed_decimal e.column ++ codes " " ++ signed_decimal e.row ++ codes " " ++ decimal e.tiles ++ codes "\n"

-- `most -1 0 300`
abbrev pub most_line : Option Entry → List ℕ
most_line None = []
most_line (Some e) = codes "most " ++ entry_line e

-- `triangles 400`
abbrev pub triangles_line : ℕ → List ℕ
triangles_line triangles = codes "triangles " ++ decimal triangles ++ codes "\n"

-- both, as a table ends
abbrev pub last_lines : Option Entry → ℕ → List ℕ
last_lines most triangles = most_line most ++ triangles_line triangles

-- the first lines of a table: that of the file, and those of the first windows
unfoldable pub front_text : ℤ → List ℕ → List Entry → List ℕ
front_text size file entries = size_line file size ++ flat_map entry_line entries

-- the text of one table
unfoldable pub table_text : ℤ → Output × Table → List ℕ
table_text size (output, table) =
    front_text size output.file table.entries ++ most_line table.most ++ triangles_line table.triangles

-- the text of the tables of outputs, one after another
abbrev pub tables_text : ℤ → List Output → List Table → List ℕ
tables_text size outputs tables = flat_map (table_text size) (zip outputs tables)
