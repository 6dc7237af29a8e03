-- The left lines of open trapezoids and of runs are lines of the list.
use Rattle.std.proofs.Common.{if◌then◌else◌, ◌≡◌, Bool, true, false, List, [], ◌∷◌, Option, Some, None, IfSome, All, refl, subst}
use Rattle.std.proofs.lemmas.List.Elements.{All-nil, All-cons, All-head, All-tail}
use Rattle.half_grid.specs.declared.plane.Line.{Line}
use Rattle.scan_line.specs.declared.runs.Run.{Run}
use Rattle.trap_join.specs.declared.front.Growing.{Growing}
use Rattle.active_lines.specs.declared.item.ActiveLine.{ActiveLine}
use Rattle.active_lines.specs.declared.item.Opened.{Opened}
use Rattle.active_lines.specs.declared.item.Windings.{Windings}
use Rattle.plane_sweep.specs.StopRuns.{growing_of, growing_by, ended_runs, open_after}

module _ (P : Line → Type 0) where
  growing_one : (line : Line) (o : Option Opened) (rest : List Growing) → P line → All (λ g. P g.left) rest → All (λ g. P g.left) (growing_by line o rest)
  growing_one line None rest here later = later
  growing_one line (Some o) rest here later =
      All-cons (λ g. P g.left) (let g : Growing = record { y0 = o.since; left = line; right = o.right } in g) rest here later

  pub growing_lefts : (lines : List ActiveLine) → All (λ l. P l.line) lines → All (λ g. P g.left) (growing_of lines)
  growing_lefts [] h = All-nil (λ g. P g.left)
  growing_lefts (l ∷ lines) h =
      growing_one l.line l.opened (growing_of lines) (All-head (λ m. P m.line) l lines h) (growing_lefts lines (All-tail (λ m. P m.line) l lines h))

  chosen : (b : Bool) (l : ActiveLine) → P l.line → IfSome (if b then Some l else None) (λ o. P o.line)
  chosen true l h = h
  chosen false l h = tt

  ends_by : (takes : Windings → Bool) (b : Bool) (o l : ActiveLine) (lines : List ActiveLine) → takes l.windings ≡ b → P o.line
      → All (λ r. P r.left) (ended_runs takes (Some o) lines) → All (λ r. P r.left) (ended_runs takes None lines)
      → All (λ r. P r.left) (ended_runs takes (Some o) (l ∷ lines))
  ends_by takes true o l lines e here on after = subst (All (λ r. P r.left)) (still o l lines e) on
    where
      still : (o l : ActiveLine) (lines : List ActiveLine) → takes l.windings ≡ true → ended_runs takes (Some o) lines ≡ ended_runs takes (Some o) (l ∷ lines)
      still o l lines e = rw e refl
  ends_by takes false o l lines e here on after =
      subst (All (λ r. P r.left)) (one o l lines e)
      (All-cons (λ r. P r.left)
      (let r : Run = record { left = o.line; right = l.line; a = o.windings.a; b = o.windings.b } in r)
      (ended_runs takes None lines) here after)
    where
      one : (o l : ActiveLine) (lines : List ActiveLine) → takes l.windings ≡ false
          → (let r : Run = record { left = o.line; right = l.line; a = o.windings.a; b = o.windings.b } in r)
          ∷ ended_runs takes None lines ≡ ended_runs takes (Some o) (l ∷ lines)
      one o l lines e = rw e refl

  pub run_lefts : (takes : Windings → Bool) (lines : List ActiveLine) (begun : Option ActiveLine) → IfSome begun (λ o. P o.line) → All (λ l. P l.line) lines
      → All (λ r. P r.left) (ended_runs takes begun lines)
  run_lefts takes [] begun h all = All-nil (λ r. P r.left)
  run_lefts takes (l ∷ lines) None h all =
      run_lefts takes lines (if takes l.windings then Some l else None)
      (chosen (takes l.windings) l (All-head (λ m. P m.line) l lines all)) (All-tail (λ m. P m.line) l lines all)
  run_lefts takes (l ∷ lines) (Some o) h all =
      let rest = All-tail (λ m. P m.line) l lines all in
      ends_by takes _ o l lines refl h (run_lefts takes lines (Some o) h rest) (run_lefts takes lines None tt rest)

  pub open_left : (takes : Windings → Bool) (lines : List ActiveLine) (begun : Option ActiveLine) → IfSome begun (λ o. P o.line) → All (λ l. P l.line) lines
      → IfSome (open_after takes begun lines) (λ o. P o.line)
  open_left takes [] begun h all = h
  open_left takes (l ∷ lines) None h all =
      open_left takes lines (if takes l.windings then Some l else None)
      (chosen (takes l.windings) l (All-head (λ m. P m.line) l lines all)) (All-tail (λ m. P m.line) l lines all)
  open_left takes (l ∷ lines) (Some o) h all =
      open_left takes lines (if takes l.windings then Some o else None) (chosen (takes l.windings) o h) (All-tail (λ m. P m.line) l lines all)
