-- The runs read off a sweep's list are those of the slab up to the next stop, and what is settled at a stop is joined there.
use Rattle.std.proofs.Common.{ℤ, pos, ◌≡◌, ◌+ℤ◌, ◌-ℤ◌, ◌≤ℤ◌, ◌<ℤ◌, inl, inr, Bool, true, false, List, [], ◌∷◌, ◌++◌, map, All, arith, refl, ap, sym, subst}
use Rattle.std.proofs.lemmas.Int.{ints, by_lt_z}
use Rattle.std.proofs.lemmas.List.Elements.{All-nil, All-cons, All-head, All-tail, All-weaker, All-contains}
use Rattle.half_grid.specs.Edges.{EdgeParts, IsEdge, spans}
use Rattle.half_grid.specs.Lines.{x_on}
use Rattle.half_grid.specs.Reach.{IsWithinReach}
use Rattle.half_grid.specs.Rows.{place}
use Rattle.half_grid.specs.Trapezoids.{Trapezoid, trapezoid, IsShot}
use Rattle.half_grid.specs.Windows.{RowRange, row_range}
use Rattle.half_grid.specs.declared.plane.Line.{Line}
use Rattle.half_grid.specs.declared.plane.Line.TheVariants.{Upright, Rising, Falling}
use Rattle.half_grid.proofs.ForCallers.{line_names}
use Rattle.scan_line.specs.Runs.{AreRuns, AreRunsOfSlab, StandApart}
use Rattle.scan_line.specs.declared.runs.Run.{Run}
use Rattle.scan_line.proofs.ForCallers.{x_within, y_within}
use Rattle.trap_join.specs.declared.front.Growing.{Growing}
use Rattle.trap_join.specs.Fronts.{ended_at, ended}
use Rattle.trap_join.specs.Joins.{IsJoinedSoFar}
use Rattle.trap_join.proofs.ForCallers.{joined_more}
use Rattle.active_lines.specs.declared.item.ActiveLine.{ActiveLine}
use Rattle.active_lines.specs.declared.item.Windings.{Windings}
use Rattle.row_lists.specs.Weights.{IsOutside, NoEnds}
use Rattle.row_lists.specs.RowLists.{IsRowList, NoMeetings, no_windings}
use Rattle.row_lists.specs.RowRuns.{run_from, runs_of, last_windings, IsTestIn}
use Rattle.row_lists.proofs.ForCallers.{stays_until_stop, runs_for_rule}
use Rattle.plane_sweep.specs.Settled.{IsSettled}
use Rattle.plane_sweep.proofs.OldLines.{some_end}
use Rattle.plane_sweep.proofs.Within.{StandsThere, row_list_edges, on_line}

-- ---- up to a row below the next stop

fewer_outside : (j k m y : ℤ) → m ≤ℤ k → IsOutside j k y → IsOutside j m y
fewer_outside j k m y h (inl a) = inl a
fewer_outside j k m y h (inr b) = inr (omega (arith, ints, h, b))

fewer_ends : (edges : List EdgeParts) (j k m : ℤ) → m ≤ℤ k → NoEnds edges j k → NoEnds edges j m
fewer_ends edges j k m h none =
    All-weaker (λ e. IsOutside j k e.y0 × IsOutside j k e.y1) (λ e. IsOutside j m e.y0 × IsOutside j m e.y1)
    (λ e p. (fewer_outside j k m e.y0 h p.0, fewer_outside j k m e.y1 h p.1)) edges none

fewer_meetings : (lines : List ActiveLine) (j k m : ℤ) → m ≤ℤ k → NoMeetings lines j k → NoMeetings lines j m
fewer_meetings lines j k m h none y a b s = none y a (omega (arith, ints, h, b)) s

-- ---- lines of the list are within reach

-- a line within reach at both ends of the slab
record FitsSlab (y top : ℤ) (line : Line) : Type 0 where
  low : IsWithinReach (x_on line y)
  high : IsWithinReach (x_on line top)
  bottom : IsWithinReach y
  top_reach : IsWithinReach top

pub from_by : (e : EdgeParts) (y : ℤ) → spans e y ≡ true → e.y0 ≤ℤ y
from_by e y h = grind (arith, ints)

pub below_by : (e : EdgeParts) (y : ℤ) → spans e y ≡ true → y <ℤ e.y1
below_by e y h = grind (arith, ints)

up_to_top : (y top end : ℤ) → y <ℤ end → IsOutside y (top -ℤ pos 1) end → top ≤ℤ end
up_to_top y top end below (inl a) = absurd (omega (arith, ints, below, a))
up_to_top y top end below (inr b) = omega (arith, ints, b)

line_fits : (edges : List EdgeParts) (y top : ℤ) (l : ActiveLine) → y <ℤ top → All IsEdge edges
    → NoEnds edges y (top -ℤ pos 1) → StandsThere edges y (place l.line y) → FitsSlab y top l.line
line_fits edges y top l rows known none h =
    let is : IsEdge h.edge = All-contains IsEdge edges h.edge known h.has in
    let outside = All-contains (λ e. IsOutside y (top -ℤ pos 1) e.y0 × IsOutside y (top -ℤ pos 1) e.y1) edges h.edge none h.has in
    let from = from_by h.edge y h.spanning in
    let below = below_by h.edge y h.spanning in
    let end = up_to_top y top h.edge.y1 below outside.1 in
    let up : h.edge.y0 ≤ℤ top = omega (arith, ints, from, rows) in
    let down : y ≤ℤ h.edge.y1 = omega (arith, ints, below) in
    subst (FitsSlab y top) (on_line edges y l h) (record {
      low = x_within h.edge y is from down;
      high = x_within h.edge top is up end;
      bottom = y_within h.edge y is from down;
      top_reach = y_within h.edge top is up end;
    })

-- ---- the lines of runs

module _ (P : Line → Type 0) (takes : Windings → Bool) where
  begun : (l : ActiveLine) (lines : List ActiveLine) → takes l.windings ≡ true
      → run_from takes l lines ∷ runs_of takes true lines ≡ runs_of takes false (l ∷ lines)
  begun l lines e = rw e refl

  not_begun : (l : ActiveLine) (lines : List ActiveLine) → takes l.windings ≡ false → runs_of takes false lines ≡ runs_of takes false (l ∷ lines)
  not_begun l lines e = rw e refl

  lines_by : (b : Bool) (l : ActiveLine) (lines : List ActiveLine) → takes l.windings ≡ b
      → All (λ m. P m.line) (l ∷ lines) → takes (last_windings l.windings lines) ≡ false
      → All (λ r. P r.left × P r.right) (runs_of takes true lines) → All (λ r. P r.left × P r.right) (runs_of takes false lines)
      → All (λ r. P r.left × P r.right) (runs_of takes false (l ∷ lines))
  lines_by true l lines e all shut inside outside =
      subst (All (λ r. P r.left × P r.right)) (begun l lines e)
      (All-cons (λ r. P r.left × P r.right) (run_from takes l lines) (runs_of takes true lines)
      (All-head (λ m. P m.line) l lines all, some_end takes P l.line l.windings lines (All-tail (λ m. P m.line) l lines all) e shut) inside)
  lines_by false l lines e all shut inside outside = subst (All (λ r. P r.left × P r.right)) (not_begun l lines e) outside

  run_lines : (inside : Bool) (w : Windings) (lines : List ActiveLine) → All (λ m. P m.line) lines → takes (last_windings w lines) ≡ false
      → All (λ r. P r.left × P r.right) (runs_of takes inside lines)
  run_lines inside w [] all shut = All-nil (λ r. P r.left × P r.right)
  run_lines true w (l ∷ lines) all shut = run_lines (takes l.windings) l.windings lines (All-tail (λ m. P m.line) l lines all) shut
  run_lines false w (l ∷ lines) all shut =
      let rest = All-tail (λ m. P m.line) l lines all in
      lines_by _ l lines refl all shut (run_lines true l.windings lines rest shut) (run_lines false l.windings lines rest shut)

-- ---- runs are shots

pub bottom_order : (l r : Line) (j : ℤ) → place l j <ℤ place r j → x_on l j ≤ℤ x_on r j
bottom_order (Upright c) (Upright d) j h = omega (arith, ints)
bottom_order (Upright c) (Rising d) j h = omega (arith, ints)
bottom_order (Upright c) (Falling d) j h = omega (arith, ints)
bottom_order (Rising c) (Upright d) j h = omega (arith, ints)
bottom_order (Rising c) (Rising d) j h = omega (arith, ints)
bottom_order (Rising c) (Falling d) j h = omega (arith, ints)
bottom_order (Falling c) (Upright d) j h = omega (arith, ints)
bottom_order (Falling c) (Rising d) j h = omega (arith, ints)
bottom_order (Falling c) (Falling d) j h = omega (arith, ints)

pub top_order : (l r : Line) (y : ℤ) → place l (y -ℤ pos 1) <ℤ place r (y -ℤ pos 1) → x_on l y ≤ℤ x_on r y
top_order (Upright c) (Upright d) y h = omega (arith, ints)
top_order (Upright c) (Rising d) y h = omega (arith, ints)
top_order (Upright c) (Falling d) y h = omega (arith, ints)
top_order (Rising c) (Upright d) y h = omega (arith, ints)
top_order (Rising c) (Rising d) y h = omega (arith, ints)
top_order (Rising c) (Falling d) y h = omega (arith, ints)
top_order (Falling c) (Upright d) y h = omega (arith, ints)
top_order (Falling c) (Rising d) y h = omega (arith, ints)
top_order (Falling c) (Falling d) y h = omega (arith, ints)

not_flat : (l r : Line) (low high : ℤ) → low <ℤ high → place l low <ℤ place r low → x_on l low ≤ℤ x_on r low → x_on l high ≤ℤ x_on r high
    → pos 0 <ℤ ((x_on r low -ℤ x_on l low) +ℤ (x_on r high -ℤ x_on l high))
not_flat l r low high rows lt bottom top =
    by_lt_z (pos 0) ((x_on r low -ℤ x_on l low) +ℤ (x_on r high -ℤ x_on l high)) (λ k. k)
    (λ flat. (let same = line_names l r low high rows (omega (arith, ints, flat, bottom, top)) (omega (arith, ints, flat, bottom, top)) in
    let at = ap (λ (x : Line). place x low) same in absurd (omega (arith, ints, lt, at))))

shot_of : (y top : ℤ) (l r : Line) → y <ℤ top → FitsSlab y top l → FitsSlab y top r → place l y <ℤ place r y
    → place l (top -ℤ pos 1) <ℤ place r (top -ℤ pos 1) → IsShot (trapezoid y top l r)
shot_of y top l r rows left right first last =
    let bottom = bottom_order l r y first in
    let over = top_order l r top last in
    record {
      legal = record {
        has_rows = rows;
        bottom = omega (arith, ints, bottom);
        top = omega
            (arith, ints, over);
        not_flat = not_flat l r y top rows first bottom over;
      };
      reach = record { y0 = left.bottom; y1 = left.top_reach; bottom_left = left.low; bottom_right = right.low; top_left = left.high; top_right = right.high };
    }

legal_in_row : (j : ℤ) (runs : List Run) → StandApart j runs → All (λ r. place r.left j <ℤ place r.right j) runs
legal_in_row j [] h = All-nil (λ r. place r.left j <ℤ place r.right j)
legal_in_row j (run ∷ runs) h = All-cons (λ r. place r.left j <ℤ place r.right j) run runs h.0 (legal_in_row j runs h.2)

-- ---- the slab

module _ (post : ℤ → ℤ → Bool → Type 0) (edges : List EdgeParts) (y top : ℤ) (takes : Windings → Bool)
    (lines : List ActiveLine) (known : All IsEdge edges) (list : IsRowList edges y lines)
    (rows : y <ℤ top) (none : NoEnds edges y (top -ℤ pos 1)) (apart : NoMeetings lines y (top -ℤ pos 1))
    (test : (j : ℤ) → y ≤ℤ j → j <ℤ top → IsTestIn post edges j takes)
    (nothing : takes no_windings ≡ false) (shut : takes (last_windings no_windings lines) ≡ false) where
  each_row : (j : ℤ) → y ≤ℤ j → j <ℤ top → AreRuns post edges j (runs_of takes false lines)
  each_row j from below =
      let up : j ≤ℤ (top -ℤ pos 1) = omega (arith, ints, below) in
      let here = stays_until_stop edges y j lines list from (fewer_ends edges y (top -ℤ pos 1) j up none) (fewer_meetings lines y (top -ℤ pos 1) j up apart) in
      runs_for_rule post edges j takes lines here (test j from below) nothing shut

  fit : All (λ l. FitsSlab y top l.line) lines
  fit = All-weaker (λ l. StandsThere edges y (place l.line y)) (λ l. FitsSlab y top l.line)
      (λ l h. line_fits edges y top l rows known none h) lines (row_list_edges edges y lines list)

  pub slab_runs : AreRunsOfSlab post edges (row_range y top) (runs_of takes false lines)
  slab_runs =
      let first = legal_in_row y (runs_of takes false lines) (each_row y (omega (arith, ints)) rows).apart in
      let last = legal_in_row (top -ℤ pos 1) (runs_of takes false lines) (each_row (top -ℤ pos 1) (omega (arith, ints, rows)) (omega (arith, ints))).apart in
      let both = run_lines (FitsSlab y top) takes false no_windings lines fit shut in
      record {
        rows = each_row;
        shots = λ k d lt. shot_of y top _ _ rows (both k d lt).0 (both k d lt).1 (first k d lt) (last k d lt);
      }

-- ---- what is settled at a stop, with the slab above it

pub stop_joined : (post : ℤ → ℤ → Bool → Type 0) (edges : List EdgeParts) (window : RowRange) (y top : ℤ)
    (given done : List Trapezoid) (front fresh : List Growing) (runs : List Run)
    → IsJoinedSoFar post edges window y given (map (ended_at y) front) → IsSettled y front runs fresh done → y <ℤ top → top ≤ℤ window.y1
    → AreRunsOfSlab post edges (row_range y top) runs → IsJoinedSoFar post edges window top (given ++ done) (map (ended_at top) fresh)
stop_joined post edges window y top given done front fresh runs so_far settled up within are =
    let more = joined_more post edges window y given front so_far top runs up within are in
    subst (λ (zs : List Trapezoid). IsJoinedSoFar post edges window top (given ++ zs) (map (ended_at top) fresh)) (sym settled.ends)
    (subst (λ (us : List Growing). IsJoinedSoFar post edges window top (given ++ ended runs y front) (map (ended_at top) us)) (sym settled.grows) more)
