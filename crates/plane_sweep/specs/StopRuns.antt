-- The open trapezoids of a list of lines, and its runs.
use Rattle.std.specs.Prelude.{ℤ, ◌≡◌, Bool, true, false, if◌then◌else◌, List, [], ◌∷◌, Option, Some, None}
use Rattle.half_grid.specs.declared.plane.Line.{Line}
use Rattle.scan_line.specs.declared.runs.Run.{Run}
use Rattle.trap_join.specs.declared.front.Growing.{Growing}
use Rattle.trap_join.specs.Fronts.{bottom_of}
use Rattle.active_lines.specs.declared.item.ActiveLine.{ActiveLine}
use Rattle.active_lines.specs.declared.item.Opened.{Opened}
use Rattle.active_lines.specs.declared.item.Windings.{Windings}
use Rattle.row_lists.specs.RowRuns.{end_of, run_from, runs_of}

abbrev pub growing_by : Line → Option Opened → List Growing → List Growing
growing_by line None rest = rest
growing_by line (Some o) rest = (let g : Growing = record { y0 = o.since; left = line; right = o.right } in g) ∷ rest

-- the open trapezoids, from left to right
abbrev pub growing_of : List ActiveLine → List Growing
growing_of [] = []
growing_of (l ∷ lines) = growing_by l.line l.opened (growing_of lines)

-- a trapezoid is open at the line up to this right line
pub record IsOpenUpTo (right : Line) (l : ActiveLine) : Type 0 where
  pub since : ℤ
  pub opened : l.opened ≡ Some (record { right = right; since = since })

-- where a run begins at the line a trapezoid is open there up to the run's right line, and else none is
abbrev pub OpensAt : Bool → Line → ActiveLine → Type 0
OpensAt true right l = IsOpenUpTo right l
OpensAt false right l = l.opened ≡ None

-- so it is at each line; before the lines the windings are taken, or aren't
abbrev pub AreOpened : (Windings → Bool) → Bool → List ActiveLine → Type 0
AreOpened takes inside [] = Unit {0}
AreOpened takes true (l ∷ lines) = (l.opened ≡ None) × AreOpened takes (takes l.windings) lines
AreOpened takes false (l ∷ lines) = OpensAt (takes l.windings) (end_of takes l.line lines) l × AreOpened takes (takes l.windings) lines

-- where a run begins at the line, this is what is open there
abbrev pub OpensAs : Bool → Opened → ActiveLine → Type 0
OpensAs true o l = l.opened ≡ Some o
OpensAs false o l = l.opened ≡ None

-- the run's trapezoid: that of the front with the run's lines, or one that begins at y
abbrev pub opened_from : List Growing → ℤ → Run → Opened
opened_from front y r = record { right = r.right; since = bottom_of front y r }

-- so it is at each line
abbrev pub AreOpenedFrom : List Growing → ℤ → (Windings → Bool) → Bool → List ActiveLine → Type 0
AreOpenedFrom front y takes inside [] = Unit {0}
AreOpenedFrom front y takes true (l ∷ lines) = (l.opened ≡ None) × AreOpenedFrom front y takes (takes l.windings) lines
AreOpenedFrom front y takes false (l ∷ lines) =
    OpensAs (takes l.windings) (opened_from front y (run_from takes l lines)) l × AreOpenedFrom front y takes (takes l.windings) lines

-- the growing trapezoid and the run have the same two lines
pub record SameLines (g : Growing) (r : Run) : Type 0 where
  pub left : g.left ≡ r.left
  pub right : g.right ≡ r.right

-- the runs that have ended at one of the lines; `begun` is the line at which the run began that is open before them, if one is
abbrev pub ended_runs : (Windings → Bool) → Option ActiveLine → List ActiveLine → List Run
ended_runs takes begun [] = []
ended_runs takes None (l ∷ lines) = ended_runs takes (if takes l.windings then Some l else None) lines
ended_runs takes (Some o) (l ∷ lines) =
    if takes l.windings then ended_runs takes (Some o) lines
    else (let r : Run = record { left = o.line; right = l.line; a = o.windings.a; b = o.windings.b } in r) ∷ ended_runs takes None lines

-- the line at which the run began that is open after the lines, if one is
abbrev pub open_after : (Windings → Bool) → Option ActiveLine → List ActiveLine → Option ActiveLine
open_after takes begun [] = begun
open_after takes None (l ∷ lines) = open_after takes (if takes l.windings then Some l else None) lines
open_after takes (Some o) (l ∷ lines) = open_after takes (if takes l.windings then Some o else None) lines

-- the run that is open before lines, and those that begin at them
abbrev pub runs_from : (Windings → Bool) → Option ActiveLine → List ActiveLine → List Run
runs_from takes None lines = runs_of takes false lines
runs_from takes (Some o) lines = run_from takes o lines ∷ runs_of takes true lines

-- the runs that begin at one of the lines and have ended at another; before the lines the windings are taken, or aren't
abbrev pub inner_runs : (Windings → Bool) → Bool → List ActiveLine → List Run
inner_runs takes inside [] = []
inner_runs takes true (l ∷ lines) = inner_runs takes (takes l.windings) lines
inner_runs takes false (l ∷ lines) = ended_runs takes None (l ∷ lines)

-- whether a run that is open before the lines ends at one of them
abbrev pub ends_among : (Windings → Bool) → List ActiveLine → Bool
ends_among takes [] = false
ends_among takes (l ∷ lines) = if takes l.windings then ends_among takes lines else true

-- the line at which it ends, if one of them ends it
abbrev pub end_among : (Windings → Bool) → List ActiveLine → Option Line
end_among takes [] = None
end_among takes (l ∷ lines) = if takes l.windings then end_among takes lines else Some l.line

-- what is open at the line, or else what is open before it
abbrev pub leaving_at : ActiveLine → Option Opened → Option Growing → Option Growing
leaving_at l None found = found
leaving_at l (Some o) found = Some (let g : Growing = record { y0 = o.since; left = l.line; right = o.right } in g)

-- the trapezoid that is open after the lines, if it begins at one of them; `found` is the one before them
abbrev pub leaving_of : (Windings → Bool) → Option Growing → List ActiveLine → Option Growing
leaving_of takes found [] = found
leaving_of takes found (l ∷ lines) = leaving_of takes (if takes l.windings then leaving_at l l.opened found else None) lines

-- the line at which the run begins that is open after the lines, if it is one of them; `found` is the one before them
abbrev pub begins_at : (Windings → Bool) → Bool → Option ActiveLine → List ActiveLine → Option ActiveLine
begins_at takes inside found [] = found
begins_at takes inside found (l ∷ lines) =
    begins_at takes (takes l.windings) (if takes l.windings then (if inside then found else Some l) else None) lines

-- what is open at a line where a run begins, before these lines: `kept`, or else a trapezoid that begins at y, whose right line
-- isn't known yet where the run doesn't end among the lines
abbrev pub opened_at : ℤ → Option Opened → Line → Opened
opened_at y None line = record { right = line; since = y }
opened_at y (Some o) line = o

abbrev pub opened_among : (Windings → Bool) → ℤ → Option Opened → Line → List ActiveLine → Opened
opened_among takes y kept line lines =
    if ends_among takes lines then (let o : Opened = record { right = end_of takes line lines; since = y } in o) else opened_at y kept line

abbrev pub with_opened : Option Opened → ActiveLine → ActiveLine
with_opened o l = record { line = l.line; windings = l.windings; opened = o }

-- the new lines through a point, each with what is open there; before them the windings are taken, or aren't
abbrev pub opened_new : (Windings → Bool) → Bool → ℤ → Option Opened → List ActiveLine → List ActiveLine
opened_new takes inside y kept [] = []
opened_new takes true y kept (l ∷ lines) = with_opened None l ∷ opened_new takes (takes l.windings) y kept lines
opened_new takes false y kept (l ∷ lines) =
    with_opened (if takes l.windings then Some (opened_among takes y kept l.line lines) else None) l ∷ opened_new takes (takes l.windings) y kept lines
