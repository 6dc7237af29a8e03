-- The line that is said where a deck or a layout is refused. It ends with LF. Numbers in it are decimal, but for the bits
-- of a unit.
use Rattle.std.specs.Prelude.{ℕ, List, ◌++◌, codes, decimal}
use Rattle.std.specs.Fmt.{signed_decimal}
use Rattle.deck_text.specs.declared.refusal.DeckBad.{DeckBad}
use Rattle.deck_text.specs.declared.refusal.DeckBad.TheVariants as deck_faults
use Rattle.gds_reader.specs.declared.refusing.GdsBad.{GdsBad}
use Rattle.gds_reader.specs.declared.refusing.GdsBad.TheVariants as gds_faults
use Rattle.oas_fields.specs.declared.variables.Variable.{Variable}
use Rattle.oas_fields.specs.declared.variables.Variable.TheVariants as variables
use Rattle.oas_record.specs.declared.faults.RecordBad.{RecordBad}
use Rattle.oas_record.specs.declared.faults.RecordBad.TheVariants as causes
use Rattle.oas_reader.specs.declared.refusing.OasBad.{OasBad}
use Rattle.oas_reader.specs.declared.refusing.OasBad.TheVariants as oas_faults
use Rattle.cell_tree.specs.declared.faults.TreeBad.{TreeBad}
use Rattle.cell_tree.specs.declared.faults.TreeBad.TheVariants as tree_faults
use Rattle.job_report.specs.Pieces.{hex_text, names_text}

-- a refused deck
unfoldable pub deck_line : DeckBad → List ℕ
deck_line (deck_faults.Line n column) = codes "deck refused: line " ++ decimal n ++ codes " column " ++ decimal column ++ codes "\n"
deck_line (deck_faults.Order n) = codes "deck refused: line " ++ decimal n ++ codes " out of order\n"
deck_line (deck_faults.Twice n m) = codes "deck refused: line " ++ decimal n ++ codes " repeats line " ++ decimal m ++ codes "\n"
deck_line (deck_faults.Unknown n name) = codes "deck refused: line " ++ decimal n ++ codes " unknown " ++ name ++ codes "\n"
deck_line (deck_faults.NoFrame n) = codes "deck refused: line " ++ decimal n ++ codes " has no frame\n"
deck_line (deck_faults.Range n value) = codes "deck refused: line " ++ decimal n ++ codes " out of range " ++ signed_decimal value ++ codes "\n"
deck_line (deck_faults.Odd n) = codes "deck refused: line " ++ decimal n ++ codes " odd sum\n"
deck_line (deck_faults.Names n) = codes "deck refused: line " ++ decimal n ++ codes " file name in use\n"
deck_line (deck_faults.Many n) = codes "deck refused: line " ++ decimal n ++ codes " over the limit\n"

-- a fault of a GDSII file at an offset
abbrev pub gds_fault : List ℕ → ℕ → List ℕ
gds_fault what at = codes "layout refused: gdsii " ++ what ++ codes " at " ++ decimal at ++ codes "\n"

-- a refused GDSII file
unfoldable pub gds_line : GdsBad → List ℕ
gds_line (gds_faults.Short at) = gds_fault (codes "short") at
gds_line (gds_faults.Length at) = gds_fault (codes "length") at
gds_line (gds_faults.Kind at) = gds_fault (codes "kind") at
gds_line (gds_faults.Size at) = gds_fault (codes "size") at
gds_line (gds_faults.Order at) = gds_fault (codes "order") at
gds_line (gds_faults.Value at rule) = codes "layout refused: gdsii value at " ++ decimal at ++ codes " rule " ++ decimal rule ++ codes "\n"
gds_line (gds_faults.Tail at) = gds_fault (codes "tail") at
gds_line (gds_faults.Unit bits) = codes "layout refused: gdsii unit " ++ hex_text bits ++ codes "\n"
gds_line (gds_faults.Twice first second) =
    codes "layout refused: gdsii name at " ++ decimal second ++ codes " repeats " ++ decimal first ++ codes "\n"

-- the name of a modal variable
abbrev pub variable_name : Variable → List ℕ
variable_name variables.Layer = codes "layer"
variable_name variables.Datatype = codes "datatype"
variable_name variables.GeometryW = codes "geometry-w"
variable_name variables.GeometryH = codes "geometry-h"
variable_name variables.PolygonPoints = codes "polygon-points"
variable_name variables.PathHalfWidth = codes "path-half-width"
variable_name variables.PathStart = codes "path-start"
variable_name variables.PathEnd = codes "path-end"
variable_name variables.PathPoints = codes "path-points"
variable_name variables.CtrapezoidType = codes "ctrapezoid-type"
variable_name variables.PlacementCell = codes "placement-cell"
variable_name variables.Repetition = codes "repetition"

-- why no record stands at an offset, in a word
abbrev pub cause_name : RecordBad → List ℕ
cause_name causes.Short = codes "short"
cause_name causes.Wide = codes "wide"
cause_name causes.Kind = codes "kind"
cause_name causes.Packed = codes "packed"
cause_name causes.Shape = codes "shape"

-- a fault of an OASIS file at an offset
abbrev pub oas_fault : List ℕ → ℕ → List ℕ
oas_fault what at = codes "layout refused: oasis " ++ what ++ codes " at " ++ decimal at ++ codes "\n"

-- a fault of an OASIS file at an offset, with a word
abbrev pub oas_word : List ℕ → ℕ → List ℕ → List ℕ
oas_word what at word = what ++ decimal at ++ codes " " ++ word ++ codes "\n"

-- a fault of an OASIS file at an offset, with a second number after a text
abbrev pub oas_number : List ℕ → ℕ → List ℕ → ℕ → List ℕ
oas_number what at between number = what ++ decimal at ++ between ++ decimal number ++ codes "\n"

-- a refused OASIS file
unfoldable pub oas_line : OasBad → List ℕ
oas_line oas_faults.Magic = codes "layout refused: oasis magic\n"
oas_line (oas_faults.Lexical at cause) = oas_word (codes "layout refused: oasis record at ") at (cause_name cause)
oas_line (oas_faults.Order at) = oas_fault (codes "order") at
oas_line (oas_faults.Undefined at variable) = oas_word (codes "layout refused: oasis undefined at ") at (variable_name variable)
oas_line (oas_faults.Value at rule) = oas_number (codes "layout refused: oasis value at ") at (codes " rule ") rule
oas_line (oas_faults.Names first second) = oas_number (codes "layout refused: oasis names at ") first (codes " and ") second
oas_line (oas_faults.Tail at) = oas_fault (codes "tail") at
oas_line (oas_faults.Unit at) = oas_fault (codes "unit") at

-- a layout that is refused below this top cell
unfoldable pub tree_line : List ℕ → TreeBad → List ℕ
tree_line top tree_faults.NoTop = codes "layout refused: no cell " ++ top ++ codes "\n"
tree_line top (tree_faults.Unknown cell name) = codes "layout refused: cell " ++ cell ++ codes " places unknown " ++ name ++ codes "\n"
tree_line top (tree_faults.Cycle names) = codes "layout refused: cycle" ++ names_text names ++ codes "\n"
tree_line top (tree_faults.Deep names) = codes "layout refused: deep" ++ names_text names ++ codes "\n"
tree_line top (tree_faults.Scale value names) =
    codes "layout refused: scale " ++ signed_decimal value ++ names_text names ++ codes "\n"
tree_line top (tree_faults.Fixed value cell) =
    codes "layout refused: fixed width " ++ cell ++ codes " scale " ++ signed_decimal value ++ codes "\n"
tree_line top (tree_faults.Extent value) = codes "layout refused: extent " ++ signed_decimal value ++ codes "\n"
tree_line top (tree_faults.Count cell value) = codes "layout refused: count " ++ cell ++ codes " " ++ decimal value ++ codes "\n"
