-- The runs of a stop, between two of its points: what is settled left of there, and what is open.
--
-- `closed` are trapezoids that grew up to the stop and were settled, `runs` the runs of the row above that have ended left
-- of x, with `fresh` as their trapezoids, and `given` what has ended. `rest` are the lines of the row below from x on.
use Rattle.std.specs.Prelude.{ℤ, pos, ◌+ℤ◌, ◌≤ℤ◌, ◌<ℤ◌, ◌≡◌, ◌≢◌, Bool, List, [], ◌∷◌, ◌++◌, Option, Some, None, IfSome, All}
use Rattle.std.specs.Option.{option_to_list}
use Rattle.half_grid.specs.Lines.{x_on}
use Rattle.half_grid.specs.Trapezoids.{Trapezoid}
use Rattle.half_grid.specs.declared.plane.Line.{Line}
use Rattle.scan_line.specs.declared.runs.Run.{Run}
use Rattle.trap_join.specs.declared.front.Growing.{Growing}
use Rattle.active_lines.specs.declared.item.ActiveLine.{ActiveLine}
use Rattle.active_lines.specs.declared.item.Windings.{Windings}
use Rattle.row_lists.specs.RowRuns.{end_of}
use Rattle.plane_sweep.specs.StopRuns.{growing_of, ended_runs, open_after, inner_runs, begins_at}
use Rattle.plane_sweep.specs.Settled.{IsSettled}

-- the open trapezoid is at the line at which the open run began, or neither is there
abbrev pub IsOpenAt : Option Growing → Option ActiveLine → Type 0
IsOpenAt None None = Unit {0}
IsOpenAt None (Some l) = ⊥
IsOpenAt (Some g) None = ⊥
IsOpenAt (Some g) (Some l) = g.left ≡ l.line

-- no growing one and no run has this left line
pub record IsAlone (front : List Growing) (runs : List Run) (line : Line) : Type 0 where
  pub grow_elsewhere : All (λ g. g.left ≢ line) front
  pub run_elsewhere : All (λ r. r.left ≢ line) runs

-- the line is where a run ends among these lines
pub record EndsAmong (takes : Windings → Bool) (rest : List ActiveLine) (right : Line) : Type 0 where
  pub from : Line
  pub is : right ≡ end_of takes from rest

-- ---- the same run below and above

-- a growing trapezoid that isn't settled yet: its right line is where its run ends among the lines to come
pub record IsPending (takes : Windings → Bool) (y x : ℤ) (rest : List ActiveLine) (closed : List Growing) (runs : List Run) (g : Growing) : Type 0 where
  pub alone : IsAlone closed runs g.left
  pub left : x_on g.left y <ℤ x
  pub from : Line
  pub right : g.right ≡ end_of takes from rest

abbrev pub MayPend : (Windings → Bool) → ℤ → ℤ → List ActiveLine → List Growing → List Run → Option Growing → Type 0
MayPend takes y x rest closed runs None = Unit {0}
MayPend takes y x rest closed runs (Some g) = IsPending takes y x rest closed runs g

-- what stands left of x, where the runs below and above are the same, or there is none
pub record Stands (takes : Windings → Bool) (y x : ℤ) (rest : List ActiveLine) (closed : List Growing) (runs : List Run) (fresh : List Growing)
    (given : List Trapezoid)
    (p : Option Growing) (o : Option ActiveLine) : Type 0 where
  pub settled : IsSettled y closed runs fresh given
  pub at : IsOpenAt p o
  pub grow : All (λ g. x_on g.left y <ℤ x) closed
  pub run : All (λ r. x_on r.left y <ℤ x) runs
  pub pends : MayPend takes y x rest closed runs p

-- the same, of the lines below that were passed, and of the list's lines up to there
pub record AreAlikeAt (takes : Windings → Bool) (y x : ℤ) (gone before rest : List ActiveLine) (given : List Trapezoid) : Type 0 where
  pub closed : List Growing
  pub fresh : List Growing
  pub growing : Option Growing
  pub stands : Stands takes y x rest closed (ended_runs takes None before) fresh given growing (open_after takes None before)
  pub gone_is : growing_of gone ≡ closed ++ option_to_list growing
  pub before_is : growing_of before ≡ fresh ++ option_to_list growing

-- ---- other runs below and above

-- the run above began a trapezoid at the stop, and none that grew up to the stop from its left line reaches x
pub record IsFresh (y x : ℤ) (closed : List Growing) (runs : List Run) (g : Growing) : Type 0 where
  pub since : g.y0 ≡ y
  pub left : x_on g.left y <ℤ x
  pub new : All (λ c. c.left ≡ g.left → x_on c.right y <ℤ x) closed
  pub run_elsewhere : All (λ r. r.left ≢ g.left) runs

-- the run below ends among these lines, at x or right of it
pub record GoesOver (takes : Windings → Bool) (y x : ℤ) (rest : List ActiveLine) (line : Line) : Type 0 where
  pub reaches : x ≤ℤ x_on line y
  pub ends : EndsAmong takes rest line

-- what stands left of x where the runs below and above differ; the one below was given as ended
pub record StandsApart (takes : Windings → Bool) (y x : ℤ) (rest : List ActiveLine) (closed : List Growing) (runs : List Run) (fresh : List Growing)
    (given : List Trapezoid)
    (p : Option Growing) (o : Option ActiveLine) (right : Option Line) : Type 0 where
  pub settled : IsSettled y closed runs fresh given
  pub at : IsOpenAt p o
  pub grow : All (λ g. x_on g.left y <ℤ x) closed
  pub run : All (λ r. x_on r.left y <ℤ x) runs
  pub begun : IfSome p (IsFresh y x closed runs)
  pub over : IfSome right (GoesOver takes y x rest)

-- the same, of the lines below that were passed, and of the list's lines up to there; the right line of the trapezoid that
-- is open at the last of these isn't known yet
pub record AreApartAt (takes : Windings → Bool) (y x : ℤ) (gone before rest : List ActiveLine) (given : List Trapezoid) (right : Option Line) : Type 0 where
  pub fresh : List Growing
  pub growing : Option Growing
  pub stands : StandsApart takes y x rest (growing_of gone) (ended_runs takes None before) fresh given growing (open_after takes None before) right
  pub before_is : growing_of before ≡ fresh ++ option_to_list growing

-- the run below and the one above go on up to the same line, but the trapezoid of the one below was given already, and that of
-- the other one began at the stop
pub record AreJoinedAt (takes : Windings → Bool) (y x : ℤ) (gone before rest : List ActiveLine) (given : List Trapezoid) : Type 0 where
  pub fresh : List Growing
  pub growing : Growing
  pub stands : StandsApart takes y x rest (growing_of gone) (ended_runs takes None before) fresh given (Some growing) (open_after takes None before)
      (Some growing.right)
  pub before_is : growing_of before ≡ fresh ++ growing ∷ []

-- ---- inside a point

-- the run above that is open after the new lines: it passes the point, and none begins there; or it is the last that does
abbrev pub OpensLast : (Windings → Bool) → Bool → List ActiveLine → Option Growing → Option ActiveLine → Type 0
OpensLast takes inside new None o = o ≡ begins_at takes inside None new
OpensLast takes inside new (Some g) o = IsOpenAt (Some g) o × (inner_runs takes inside new ≡ []) × (begins_at takes inside None new ≡ None)

-- What entered the point (x, y) is settled. A run above that passes the point is `growing`; `right` is the right line of
-- one below that passes it. `new` are the point's lines above, and `runs` the runs that ended up to here, but for those that
-- begin and end in the point.
pub record HasEntered (takes : Windings → Bool) (y x : ℤ) (gone before new rest : List ActiveLine) (inside : Bool) (given : List Trapezoid)
    (growing : Option Growing) (right : Option Line) : Type 0 where
  pub fresh : List Growing
  pub runs : List Run
  pub settled : IsSettled y (growing_of gone) runs fresh given
  pub grow : All (λ g. x_on g.left y <ℤ x) (growing_of gone)
  pub run : All (λ r. x_on r.left y <ℤ x) runs
  pub before_is : growing_of before ≡ fresh ++ option_to_list growing
  pub runs_are : ended_runs takes None (before ++ new) ≡ runs ++ inner_runs takes inside new
  pub opening : OpensLast takes inside new growing (open_after takes None (before ++ new))
  pub begun : IfSome growing (IsFresh y (x +ℤ pos 1) (growing_of gone) runs)
  pub entered : IfSome growing (λ g. x_on g.left y <ℤ x)
  pub over : IfSome right (GoesOver takes y (x +ℤ pos 1) rest)
