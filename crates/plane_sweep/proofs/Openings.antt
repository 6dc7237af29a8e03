-- The open trapezoids of a list of lines against its runs.
use Rattle.std.proofs.Common.{ℤ, ◌≡◌, ◌<ℤ◌, Bool, true, false, List, [], ◌∷◌, ◌++◌, Option, Some, None, map, arith, refl, ap, sym, subst, ◌∙◌}
use Rattle.std.specs.Prelude.{if◌then◌else◌, All}
use Rattle.std.specs.List.{AllZip}
use Rattle.std.proofs.lemmas.Int.{ints}
use Rattle.std.proofs.lemmas.List.Elements.{All-nil, All-cons, All-head, All-tail}
use Rattle.half_grid.specs.Rows.{place}
use Rattle.half_grid.specs.declared.plane.Line.{Line}
use Rattle.scan_line.specs.Runs.{StandApart}
use Rattle.scan_line.specs.declared.runs.Run.{Run}
use Rattle.trap_join.specs.declared.front.Growing.{Growing}
use Rattle.trap_join.specs.Fronts.{bottom_of, grown_into, FrontStandsApart}
use Rattle.active_lines.specs.declared.item.ActiveLine.{ActiveLine}
use Rattle.active_lines.specs.declared.item.Opened.{Opened}
use Rattle.active_lines.specs.declared.item.Windings.{Windings}
use Rattle.row_lists.specs.RowRuns.{end_of, run_from, runs_of}
use Rattle.plane_sweep.specs.StopRuns.{growing_by, growing_of, OpensAt, OpensAs, opened_from, AreOpened, AreOpenedFrom, SameLines}

-- ---- each open trapezoid has the lines of its run

pair_shut : (l : ActiveLine) (gs : List Growing) (rs : List Run) → l.opened ≡ None → AllZip SameLines gs rs
    → AllZip SameLines (growing_by l.line l.opened gs) rs
pair_shut l gs rs e h = subst (λ (o : Option Opened). AllZip SameLines (growing_by l.line o gs) rs) (sym e) h

pair_open : (b : Bool) (takes : Windings → Bool) (l : ActiveLine) (lines : List ActiveLine)
    → OpensAt b (end_of takes l.line lines) l → AllZip SameLines (growing_of lines) (runs_of takes b lines)
    → AllZip SameLines (growing_by l.line l.opened (growing_of lines))
    (if b then run_from takes l lines ∷ runs_of takes true lines else runs_of takes false lines)
pair_open true takes l lines o h =
    subst (λ (w : Option Opened). AllZip SameLines (growing_by l.line w (growing_of lines)) (run_from takes l lines ∷ runs_of takes true lines))
    (sym o.opened) (record { left = refl; right = refl }, h)
pair_open false takes l lines e h = pair_shut l (growing_of lines) (runs_of takes false lines) e h

pub open_pairs : (takes : Windings → Bool) (inside : Bool) (lines : List ActiveLine) → AreOpened takes inside lines
    → AllZip SameLines (growing_of lines) (runs_of takes inside lines)
open_pairs takes inside [] h = tt
open_pairs takes true (l ∷ lines) h =
    pair_shut l (growing_of lines) (runs_of takes (takes l.windings) lines) h.0 (open_pairs takes (takes l.windings) lines h.1)
open_pairs takes false (l ∷ lines) h = pair_open (takes l.windings) takes l lines h.0 (open_pairs takes (takes l.windings) lines h.1)

-- ---- those that come from a front

grown_open : (front : List Growing) (y : ℤ) (b : Bool) (takes : Windings → Bool) (l : ActiveLine) (lines : List ActiveLine)
    → OpensAs b (opened_from front y (run_from takes l lines)) l
    → growing_of lines ≡ map (grown_into front y) (runs_of takes b lines)
    → growing_by l.line l.opened (growing_of lines)
    ≡ map (grown_into front y) (if b then run_from takes l lines ∷ runs_of takes true lines else runs_of takes false lines)
grown_open front y true takes l lines e h =
    ap (λ (o : Option Opened). growing_by l.line o (growing_of lines)) e
    ∙ ap (λ (gs : List Growing). grown_into front y (run_from takes l lines) ∷ gs) h
grown_open front y false takes l lines e h = ap (λ (o : Option Opened). growing_by l.line o (growing_of lines)) e ∙ h

pub grown_openings : (front : List Growing) (y : ℤ) (takes : Windings → Bool) (inside : Bool) (lines : List ActiveLine)
    → AreOpenedFrom front y takes inside lines → growing_of lines ≡ map (grown_into front y) (runs_of takes inside lines)
grown_openings front y takes inside [] h = refl
grown_openings front y takes true (l ∷ lines) h =
    ap (λ (o : Option Opened). growing_by l.line o (growing_of lines)) h.0 ∙ grown_openings front y takes (takes l.windings) lines h.1
grown_openings front y takes false (l ∷ lines) h =
    grown_open front y (takes l.windings) takes l lines h.0 (grown_openings front y takes (takes l.windings) lines h.1)

opened_by : (front : List Growing) (y : ℤ) (b : Bool) (takes : Windings → Bool) (l : ActiveLine) (lines : List ActiveLine)
    → OpensAs b (opened_from front y (run_from takes l lines)) l
    → OpensAt b (end_of takes l.line lines) l
opened_by front y true takes l lines e = record { since = bottom_of front y (run_from takes l lines); opened = e }
opened_by front y false takes l lines e = e

pub from_is_opened : (front : List Growing) (y : ℤ) (takes : Windings → Bool) (inside : Bool) (lines : List ActiveLine)
    → AreOpenedFrom front y takes inside lines → AreOpened takes inside lines
from_is_opened front y takes inside [] h = tt
from_is_opened front y takes true (l ∷ lines) h = (h.0, from_is_opened front y takes (takes l.windings) lines h.1)
from_is_opened front y takes false (l ∷ lines) h =
    (opened_by front y (takes l.windings) takes l lines h.0, from_is_opened front y takes (takes l.windings) lines h.1)

-- ---- lists that follow one another

grown_append : (line : Line) (o : Option Opened) (all gs hs : List Growing) → all ≡ gs ++ hs → growing_by line o all ≡ growing_by line o gs ++ hs
grown_append line None all gs hs e = e
grown_append line (Some o) all gs hs e =
    ap (λ (us : List Growing). (let g : Growing = record { y0 = o.since; left = line; right = o.right } in g) ∷ us) e

pub growing_append : (xs ys : List ActiveLine) → growing_of (xs ++ ys) ≡ growing_of xs ++ growing_of ys
growing_append [] ys = refl
growing_append (l ∷ xs) ys = grown_append l.line l.opened (growing_of (xs ++ ys)) (growing_of xs) (growing_of ys) (growing_append xs ys)

-- ---- they stand apart where the runs do

all_right : (x j : ℤ) (front : List Growing) (runs : List Run) → AllZip SameLines front runs → All (λ (r : Run). x <ℤ place r.left j) runs
    → All (λ (g : Growing). x <ℤ place g.left j) front
all_right x j [] [] h a = All-nil (λ (g : Growing). x <ℤ place g.left j)
all_right x j [] (r ∷ runs) h a = absurd h
all_right x j (g ∷ front) [] h a = absurd h
all_right x j (g ∷ front) (r ∷ runs) h a =
    let here = All-head (λ (s : Run). x <ℤ place s.left j) r runs a in
    let rest = all_right x j front runs h.1 (All-tail (λ (s : Run). x <ℤ place s.left j) r runs a) in
    All-cons (λ (k : Growing). x <ℤ place k.left j) g front (subst (λ (l : Line). x <ℤ place l j) (sym h.0.left) here) rest

pub front_apart : (j : ℤ) (front : List Growing) (runs : List Run) → AllZip SameLines front runs → StandApart j runs → FrontStandsApart j front
front_apart j [] [] h a = tt
front_apart j [] (r ∷ runs) h a = absurd h
front_apart j (g ∷ front) [] h a = absurd h
front_apart j (g ∷ front) (r ∷ runs) h a =
    let left : place g.left j ≡ place r.left j = ap (λ (l : Line). place l j) h.0.left in
    let right : place g.right j ≡ place r.right j = ap (λ (l : Line). place l j) h.0.right in
    let tile = a.0 in (
      omega (arith, ints, left, right, tile),
      subst (λ (x : ℤ). All (λ (k : Growing). x <ℤ place k.left j) front) (sym right) (all_right (place r.right j) j front runs h.1 a.1),
      front_apart j front runs h.1 a.2,
    )
