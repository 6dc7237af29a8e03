-- The lowest tile of what a rule takes, by the trapezoids that ended or are open.
use Rattle.std.proofs.Common.{ℕ, ℤ, pos, ◌≤◌, ◌≡◌, ◌+ℤ◌, ◌≤ℤ◌, ◌<ℤ◌, ◌⊎◌, inl, inr, Bool}
use Rattle.std.proofs.Common.{List, [], ◌∷◌, ◌++◌, Option, Some, None, IfSome, IfNone, All, map, length, drop}
use Rattle.std.proofs.Common.{arith, refl, ap, sym, subst, ◌∙◌, append_assoc, append-nil}
use Rattle.std.specs.List.{Contains}
use Rattle.std.proofs.lemmas.Int.{ints, by_lt_z}
use Rattle.std.proofs.lemmas.List.Elements.{All-head, All-weaker, All-contains, Contains-append_cases, Contains-append_left, Contains-append_right}
use Rattle.half_grid.specs.Edges.{EdgeParts}
use Rattle.half_grid.specs.Lines.{x_on}
use Rattle.half_grid.specs.Reach.{IsWithinReach}
use Rattle.half_grid.specs.Rows.{number_in_row, place}
use Rattle.half_grid.specs.Trapezoids.{Trapezoid, trapezoid, IsShot, IsInTrapezoid}
use Rattle.half_grid.specs.Windows.{RowRange, row_range}
use Rattle.half_grid.specs.declared.plane.Line.{Line}
use Rattle.half_grid.specs.declared.plane.Tile.{Tile}
use Rattle.half_grid.proofs.ForCallers.{number_between}
use Rattle.scan_line.specs.ClippedEdges.{parts_in}
use Rattle.scan_line.specs.Rules.{IsRule}
use Rattle.trap_join.specs.Fronts.{ended_at}
use Rattle.trap_join.specs.Joins.{IsTakenIn, IsJoinedSoFar, IsGrowingIn}
use Rattle.trap_join.specs.Maximal.{IsMaximal}
use Rattle.trap_join.proofs.ForCallers.{some_member, all_members}
use Rattle.active_lines.specs.ActiveLists.{first_of, BeginsOn}
use Rattle.active_lines.specs.declared.item.ActiveLine.{ActiveLine}
use Rattle.active_lines.specs.declared.item.Opened.{Opened}
use Rattle.row_lists.specs.declared.event.Event.{Event}
use Rattle.plane_sweep.specs.Lowest.{IsSpotOf, IsFirstOf, IsFirstOfAll, IsFirstIn, IsSpotIn, IsNoLater, first_spot, open_up_to}
use Rattle.plane_sweep.specs.PlaneSweeps.{still_to_come}
use Rattle.plane_sweep.specs.StopRuns.{growing_by, growing_of}
use Rattle.plane_sweep.specs.Sweeps.{IsSweptAbove}
use Rattle.plane_sweep.specs.declared.lowest_tile.Spot.{Spot}
use Rattle.plane_sweep.proofs.LowestLemmas.{later_by, further, left_reach, next_row_reach}
use Rattle.plane_sweep.proofs.RuleAsTest.{rule_test}
use Rattle.plane_sweep.proofs.SweepSteps.{ends_nowhere}
use Rattle.plane_sweep.proofs.SweptParts.{whole, parts}

-- ---- where the rows up to some Y are joined

-- a trapezoid that ends there or below, with the tiles of its lowest row in the area
record HasRow (area : Tile → Type 0) (top : ℤ) (z : Trapezoid) : Type 0 where
  rows : z.y0 <ℤ z.y1
  ends : z.y1 ≤ℤ top
  has_tile : place z.left z.y0 <ℤ place z.right z.y0
  inside : (t : Tile) → t.j ≡ z.y0 → place z.left z.y0 ≤ℤ number_in_row t → number_in_row t <ℤ place z.right z.y0 → area t

none_in : {P : Type 0} (zs : List Trapezoid) (z : Trapezoid) → zs ≡ [] → Contains zs z → P
none_in zs z e h = (let k = subst (λ (xs : List Trapezoid). Contains xs z) e h in absurd (omega (arith, k.1)))

module _ (post : ℤ → ℤ → Bool → Type 0) (edges : List EdgeParts) (window : RowRange) (top : ℤ) (done front : List Trapezoid)
    (high : top ≤ℤ window.y1) (so_far : IsJoinedSoFar post (parts_in window edges) window top done front) where
  abbrev Whole : Tile → Type 0
  Whole = IsTakenIn post edges window

  abbrev Below : Tile → Type 0
  Below = IsTakenIn post (parts_in window edges) (row_range window.y0 top)

  wide : (t : Tile) → Below t → Whole t
  wide t h =
      let below = h.below in
      whole post edges window t (record { from = h.from; below = omega (arith, ints, below, high); taken = h.taken })

  narrow : (t : Tile) → Whole t → t.j <ℤ top → Below t
  narrow t h lt = (let k = parts post edges window t h in record { from = k.from; below = lt; taken = k.taken })

  done_row : (z : Trapezoid) → Contains done z → HasRow Whole top z
  done_row z h =
      let area : Tile → Type 0 = IsTakenIn post (parts_in window edges) window in
      let m = All-contains (IsMaximal area window) done z so_far.finished h in
      let lt = m.legal.has_rows in
      let run = m.runs z.y0 (omega (arith, ints)) lt in
      record {
        rows = lt;
        ends = All-contains (λ (x : Trapezoid). x.y1 ≤ℤ top) done z so_far.end_below h;
        has_tile = run.has_tile;
        inside = λ t at a b. whole post edges window t (run.inside t at a b);
      }

  front_row : (z : Trapezoid) → Contains front z → HasRow Whole top z
  front_row z h =
      let g = All-contains (IsGrowingIn Below (row_range window.y0 top)) front z so_far.growing h in
      let m = g.maximal in
      let lt = m.legal.has_rows in
      let run = m.runs z.y0 (omega (arith, ints)) lt in
      record {
        rows = lt;
        ends = (let e = g.reaches_top in omega (arith, ints, e));
        has_tile = run.has_tile;
        inside = λ t at a b. wide t (run.inside t at a b);
      }

  row_of : (z : Trapezoid) → Contains (done ++ front) z → HasRow Whole top z
  row_of z h = elim (Contains-append_cases done front z h) [ inl e ↦ done_row z e | inr e ↦ front_row z e ]

  tile_there : (s : Spot) → IsFirstOf (done ++ front) s → (t : Tile) → IsSpotOf s t → Whole t
  tile_there s f t is =
      let r = row_of f.z f.has in
      let at : t.j ≡ f.z.y0 = is.row ∙ ap (λ (x : Spot). x.row) f.is in
      let number : number_in_row t ≡ place f.z.left f.z.y0 = is.number ∙ ap (λ (x : Spot). x.number) f.is in
      let some = r.has_tile in
      r.inside t at (omega (arith, ints, number)) (omega (arith, ints, number, some))

  member_of : (t : Tile) → Whole t → t.j <ℤ top → (z : Trapezoid) × Contains (done ++ front) z × IsInTrapezoid z t
  member_of t w lt = some_member (λ z. IsInTrapezoid z t) (done ++ front) (so_far.covered t (narrow t w lt))

  none_before : (s : Spot) → IsFirstOf (done ++ front) s → (t : Tile) → Whole t → (s.row <ℤ t.j) ⊎ ((s.row ≡ t.j) × (s.number ≤ℤ number_in_row t))
  none_before s f t w =
      by_lt_z t.j top
      (λ lt. (let k = member_of t w lt in
      let n = number_between k.0 t k.2 in
      later_by s k.0 t (All-contains (λ y. IsNoLater s (first_spot y)) (done ++ front) k.0 f.first k.1) n.above_bottom n.from_left))
      (λ ge. (let r = row_of f.z f.has in
      let at : s.row ≡ f.z.y0 = ap (λ (x : Spot). x.row) f.is in
      let lt = r.rows in
      let le = r.ends in
      inl (omega (arith, ints, at, lt, le, ge))))

  pub spot_found : (found : Option Spot) → IsFirstOfAll (done ++ front) found → IfSome found (IsFirstIn Whole)
  spot_found None h = tt
  spot_found (Some s) h = record { has = tile_there s h; first = none_before s h }

  pub spot_of_all : top ≡ window.y1 → (found : Option Spot) → IsFirstOfAll (done ++ front) found → IsSpotIn Whole found
  spot_of_all e None h = λ t w. (let below = w.below in let k = member_of t w (omega (arith, ints, below, e)) in none_in (done ++ front) k.0 h k.1)
  spot_of_all e (Some s) h = spot_found (Some s) h

-- ---- above a stop, as far as the next row

module _ (pre : ℤ → ℤ → Type 0) (post : ℤ → ℤ → Bool → Type 0) (rule : IsRule pre post) (edges : List EdgeParts) (window : RowRange) (y : ℤ)
    (lines : List ActiveLine) (left : List Event) (given : List Trapezoid) (swept : IsSweptAbove post edges window y lines left given) where
  pub joined_up : y <ℤ window.y1 → IsJoinedSoFar post edges window (y +ℤ pos 1) given (open_up_to (y +ℤ pos 1) lines)
  joined_up lt =
      let test = rule_test pre post rule in
      (swept.stands test.0 test.1).joined (y +ℤ pos 1) (omega (arith, ints)) (omega (arith, ints, lt)) (ends_nowhere y edges)
      (λ z over le s. absurd (omega (arith, ints, over, le)))

  pub open_shots : y <ℤ window.y1 → All IsShot (open_up_to (y +ℤ pos 1) lines)
  open_shots lt =
      All-weaker (IsGrowingIn (IsTakenIn post edges (row_range window.y0 (y +ℤ pos 1))) (row_range window.y0 (y +ℤ pos 1))) IsShot (λ z g. g.shot)
      (open_up_to (y +ℤ pos 1) lines) (joined_up lt).growing

  below_top : window.y1 ≤ℤ y → y ≡ window.y1
  below_top le = (let high = swept.high in omega (arith, ints, high, le))

  pub joined_all : window.y1 ≤ℤ y → IsJoinedSoFar post edges window y given []
  joined_all le = swept.top (below_top le)

no_more : (xs ys : List Trapezoid) → xs ++ ys ≡ [] → xs ≡ []
no_more [] ys e = refl
no_more (x ∷ xs) ys e = absurd (let clash : ⊥ = cc in clash)

-- where nothing ended and nothing is open a look changes nothing
pub stays : (post : ℤ → ℤ → Bool → Type 0) (edges : List EdgeParts) (window : RowRange) (y : ℤ) (lines lines1 : List ActiveLine) (left : List Event)
    (waiting waiting1 front : List Trapezoid) (found : Option Spot) → IsSweptAbove post edges window y lines left waiting
    → IsFirstOfAll (waiting ++ front) found → waiting1 ≡ [] → lines1 ≡ lines → IfNone found (IsSweptAbove post edges window y lines1 left waiting1)
stays post edges window y lines lines1 left waiting waiting1 front (Some s) swept first e f = tt
stays post edges window y lines lines1 left waiting waiting1 front None swept first e f =
    subst (λ (ls : List ActiveLine). IsSweptAbove post edges window y ls left waiting1) (sym f)
    (subst (λ (ws : List Trapezoid). IsSweptAbove post edges window y lines left ws) (no_more waiting front first ∙ sym e) swept)

pub none_more : (end y : ℤ) (waiting1 : List Trapezoid) (n : ℕ) → waiting1 ≡ [] → still_to_come end y (length waiting1) ≤ still_to_come end y n
unfolding still_to_come
none_more end y waiting1 n e = let none = ap length e in omega (arith, none)

pub moved_on : (done waiting rest : List Trapezoid) (z : Trapezoid) → waiting ≡ z ∷ rest → done ++ waiting ≡ (done ++ z ∷ []) ++ rest
moved_on done waiting rest z e = ap (λ (zs : List Trapezoid). done ++ zs) e ∙ sym (append_assoc done (z ∷ []) rest)

-- ---- the open trapezoids, line by line

open_by : (top : ℤ) (line : Line) (o : Option Opened) (rest : List ActiveLine)
    → map (ended_at top) (growing_by line o (growing_of rest)) ≡ map (ended_at top) (growing_by line o []) ++ open_up_to top rest
open_by top line None rest = refl
open_by top line (Some o) rest = refl

pub open_cons : (top : ℤ) (l : ActiveLine) (rest : List ActiveLine) → open_up_to top (l ∷ rest) ≡ open_up_to top (l ∷ []) ++ open_up_to top rest
open_cons top l rest = open_by top l.line l.opened rest

pub first_is : (lines : List ActiveLine) (l : ActiveLine) → first_of lines ≡ Some l → lines ≡ l ∷ drop 1 lines
first_is [] l e = absurd (let clash : ⊥ = cc in clash)
first_is (x ∷ lines) l e = (let same : x ≡ l = cc in ap (λ (y : ActiveLine). y ∷ lines) same)

pub none_first : (lines : List ActiveLine) → first_of lines ≡ None → lines ≡ []
none_first [] e = refl
none_first (x ∷ lines) e = absurd (let clash : ⊥ = cc in clash)

pub open_step : (top : ℤ) (done : List Trapezoid) (lines : List ActiveLine) (l : ActiveLine) → first_of lines ≡ Some l
    → done ++ open_up_to top lines ≡ (done ++ open_up_to top (l ∷ [])) ++ open_up_to top (drop 1 lines)
open_step top done lines l e =
    ap (λ (zs : List Trapezoid). done ++ zs) (ap (open_up_to top) (first_is lines l e) ∙ open_cons top l (drop 1 lines))
    ∙ sym (append_assoc done (open_up_to top (l ∷ [])) (open_up_to top (drop 1 lines)))

pub passed_on : (before after : List ActiveLine) (l : ActiveLine) → first_of after ≡ Some l → (before ++ l ∷ []) ++ drop 1 after ≡ before ++ after
passed_on before after l e =
    append_assoc before (l ∷ []) (drop 1 after) ∙ ap (λ (ls : List ActiveLine). before ++ ls) (sym (first_is after l e))

pub begins_on : (lines : List ActiveLine) (l : ActiveLine) → first_of lines ≡ Some l → BeginsOn l.line lines
begins_on lines l e = subst (λ (ls : List ActiveLine). BeginsOn l.line ls) (sym (first_is lines l e)) refl

first_part : (xs ys : List Trapezoid) → All IsShot (xs ++ ys) → All IsShot xs
first_part xs ys h = all_members IsShot xs (λ x c. All-contains IsShot (xs ++ ys) x h (Contains-append_left xs ys x c))

second_part : (xs ys : List Trapezoid) → All IsShot (xs ++ ys) → All IsShot ys
second_part xs ys h = all_members IsShot ys (λ x c. All-contains IsShot (xs ++ ys) x h (Contains-append_right xs ys x c))

pub shots_here : (top : ℤ) (lines : List ActiveLine) (l : ActiveLine) → first_of lines ≡ Some l → All IsShot (open_up_to top lines)
    → All IsShot (open_up_to top (l ∷ []))
shots_here top lines l e h =
    first_part (open_up_to top (l ∷ [])) (open_up_to top (drop 1 lines))
    (subst (λ (zs : List Trapezoid). All IsShot zs) (open_step top [] lines l e) h)

pub shots_after : (top : ℤ) (lines : List ActiveLine) (l : ActiveLine) → first_of lines ≡ Some l → All IsShot (open_up_to top lines)
    → All IsShot (open_up_to top (drop 1 lines))
shots_after top lines l e h =
    second_part (open_up_to top (l ∷ [])) (open_up_to top (drop 1 lines))
    (subst (λ (zs : List Trapezoid). All IsShot zs) (open_step top [] lines l e) h)

pub open_end : (top : ℤ) (done : List Trapezoid) (lines : List ActiveLine) → first_of lines ≡ None → done ++ open_up_to top lines ≡ done
open_end top done lines e = ap (λ (ls : List ActiveLine). done ++ open_up_to top ls) (none_first lines e) ∙ append-nil done

-- ---- the trapezoid that is open at one line

pub record LeftWithin (line : Line) (j : ℤ) : Type 0 where
  pub bottom : IsWithinReach (x_on line j)
  pub top : IsWithinReach (x_on line (j +ℤ pos 1))
  pub row : IsWithinReach j
  pub next_row : IsWithinReach (j +ℤ pos 1)

shot_within : (z : Trapezoid) → IsShot z → LeftWithin z.left z.y0
shot_within z s = record { bottom = s.reach.bottom_left; top = left_reach z s; row = s.reach.y0; next_row = next_row_reach z s }

open_one : (top : ℤ) (l : ActiveLine) (o : Opened) → l.opened ≡ Some o → open_up_to top (l ∷ []) ≡ trapezoid o.since top l.line o.right ∷ []
open_one top l o e = ap (λ (q : Option Opened). map (ended_at top) (growing_by l.line q [])) e

pub opened_within : (top : ℤ) (l : ActiveLine) (o : Opened) → l.opened ≡ Some o → All IsShot (open_up_to top (l ∷ [])) → LeftWithin l.line o.since
opened_within top l o e h =
    shot_within (trapezoid o.since top l.line o.right)
    (All-head IsShot (trapezoid o.since top l.line o.right) [] (subst (λ (zs : List Trapezoid). All IsShot zs) (open_one top l o e) h))

pub lower_than : (traps : List Trapezoid) (top : ℤ) (l : ActiveLine) (o : Opened) → l.opened ≡ Some o → (found : Option Spot) (r : Spot)
    → (r ≡ record { row = o.since; number = place l.line o.since }) ⊎ (found ≡ Some r)
    → IsNoLater r (record { row = o.since; number = place l.line o.since }) → IfSome found (IsNoLater r)
    → IsFirstOfAll traps found → IsFirstOf (traps ++ open_up_to top (l ∷ [])) r
lower_than traps top l o e found r either new old h =
    subst (λ (zs : List Trapezoid). IsFirstOf (traps ++ zs) r) (sym (open_one top l o e))
    (further traps (trapezoid o.since top l.line o.right) found r either new old h)
