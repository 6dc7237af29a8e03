-- The runs of a row, read off its row list.
--
-- A run begins at a line where the windings right of it are taken and those left of it aren't, and ends at the first line
-- from there on right of which they aren't.
use Rattle.std.specs.Prelude.{ℤ, ◌≡◌, ◌↔◌, Bool, true, false, if◌then◌else◌, List, [], ◌∷◌}
use Rattle.half_grid.specs.Edges.{EdgeParts, edges_winding}
use Rattle.half_grid.specs.declared.plane.Line.{Line}
use Rattle.half_grid.specs.declared.plane.Tile.{Tile}
use Rattle.half_grid.specs.declared.border.Operand.TheVariants.{A, B}
use Rattle.scan_line.specs.Runs.{IsTaken, AreRuns}
use Rattle.scan_line.specs.declared.runs.Run.{Run}
use Rattle.active_lines.specs.declared.item.ActiveLine.{ActiveLine}
use Rattle.active_lines.specs.declared.item.Windings.{Windings}
use Rattle.row_lists.specs.RowLists.{IsRowList, no_windings}

-- the line at which a run ends that goes on before these lines
abbrev pub end_of : (Windings → Bool) → Line → List ActiveLine → Line
end_of takes line [] = line
end_of takes line (l ∷ lines) = if takes l.windings then end_of takes l.line lines else l.line

-- the run that begins at the line, before the others
abbrev pub run_from : (Windings → Bool) → ActiveLine → List ActiveLine → Run
run_from takes l lines = record { left = l.line; right = end_of takes l.line lines; a = l.windings.a; b = l.windings.b }

-- the runs that begin at the lines; before them the windings are taken, or aren't
abbrev pub runs_of : (Windings → Bool) → Bool → List ActiveLine → List Run
runs_of takes inside [] = []
runs_of takes true (l ∷ lines) = runs_of takes (takes l.windings) lines
runs_of takes false (l ∷ lines) = if takes l.windings then run_from takes l lines ∷ runs_of takes true lines else runs_of takes false lines

-- the windings right of all lines, where these are the ones left of them
abbrev pub last_windings : Windings → List ActiveLine → Windings
last_windings w [] = w
last_windings w (l ∷ lines) = last_windings l.windings lines

-- the windings of the edges at a tile
abbrev pub windings_of : List EdgeParts → Tile → Windings
windings_of edges t = record { a = edges_winding A edges t; b = edges_winding B edges t }

-- in the row the rule takes a tile exactly where the test takes its windings
abbrev pub IsTestIn : (ℤ → ℤ → Bool → Type 0) → List EdgeParts → ℤ → (Windings → Bool) → Type 0
IsTestIn post edges j takes = (t : Tile) → t.j ≡ j → IsTaken post edges t ↔ (takes (windings_of edges t) ≡ true)

-- the rule that the test is
abbrev pub taking : (Windings → Bool) → ℤ → ℤ → Bool → Type 0
taking takes a b answer = takes (let w : Windings = record { a = a; b = b } in w) ≡ answer

-- Where nothing is taken left of all lines and right of them, they are the runs of the row.
abbrev pub RunsByRowList : Type 0
RunsByRowList = (edges : List EdgeParts) (j : ℤ) (takes : Windings → Bool) (lines : List ActiveLine) → IsRowList edges j lines
    → takes no_windings ≡ false → takes (last_windings no_windings lines) ≡ false → AreRuns (taking takes) edges j (runs_of takes false lines)
