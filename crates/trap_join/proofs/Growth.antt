-- One slab more: what was joined below a stop, with the runs of the slab above it, is joined below the next stop.
use Rattle.std.proofs.Common.{◌≡◌, ℕ, ◌+◌, ◌*◌, ◌<◌, ◌≤◌, ℤ, pos, negsuc, ◌+ℤ◌, ◌-ℤ◌, ◌≤ℤ◌, ◌<ℤ◌, Bool, true, false}
use Rattle.std.proofs.Common.{not, arith, refl, ap, subst, ◌∙◌, sym, List, [], ◌∷◌, ◌++◌, map, filter, append-nil}
use Rattle.std.proofs.Common.{append_assoc, ◌^◌, length}
use Rattle.std.proofs.lemmas.Int.{ints, by_lt_z}
use Rattle.std.proofs.lemmas.List.Elements.{All-contains, All-nil, All-append, All-weaker, Contains-append_left, Contains-append_right, Contains-append_cases}
use Rattle.std.proofs.Math.Nat.{mul-le-mul_right}
use Rattle.std.proofs.lemmas.List.{length-map}
use Rattle.std.proofs.lemmas.List.Sums.{length-filter, count_by-le-length}
use Rattle.half_grid.specs.Sides.{IsSide}
use Rattle.scan_line.specs.Stops.{IsSlab}
use Rattle.std.proofs.lemmas.List.Folds.{Any-from_list_any, list_any-from_Any}
use Rattle.std.specs.List.{All, Any, Contains, list_any}
use mathlib.Core.Logic.{◌⊎◌, inl, inr}
use Rattle.half_grid.specs.Edges.{EdgeParts}
use Rattle.half_grid.specs.Lines.{x_on}
use Rattle.half_grid.specs.Rows.{place, number_in_row}
use Rattle.half_grid.specs.Trapezoids.{Trapezoid, IsShot, IsInTrapezoid, CoversExactly, trapezoid}
use Rattle.half_grid.specs.Windows.{RowRange, row_range}
use Rattle.half_grid.specs.JoinedLists.{IsJoined, StandsBefore, StandInOrder}
use Rattle.half_grid.specs.declared.plane.Tile.{Tile}
use Rattle.half_grid.specs.declared.plane.Line.{Line}
use Rattle.half_grid.specs.declared.plane.Line.TheVariants.{Upright, Rising, Falling}
use Rattle.half_grid.proofs.ForCallers.{tile_with, tile_with_number, in_by_number, number_between, in_has, same_trapezoid}
use Rattle.scan_line.specs.Runs.{AreRunsOfSlab}
use Rattle.scan_line.specs.declared.runs.Run.{Run}
use Rattle.trap_join.specs.declared.front.Growing.{Growing}
use Rattle.trap_join.specs.Maximal.{IsRunAt, IsMaximal, AreMaximal}
use Rattle.trap_join.specs.Fronts.{goes_on, bottom_of, grown_into, ended_at, ends_below, ended, FrontStandsApart}
use Rattle.trap_join.specs.Joins.{IsTakenIn, IsGrowingIn, IsJoinedSoFar, rows_up, still_left}
use Rattle.trap_join.proofs.Members.{none_in_empty, is_first, among_rest, first_or_later, all_members, mapped, origin}
use Rattle.trap_join.proofs.Members.{passed, passing, some_member, any_by, Found}
use Rattle.trap_join.proofs.Rows.{inside_at, runs_apart}
use Rattle.trap_join.proofs.MaximalLemmas.{run_left, run_right, same_rows, maximal_joined, maximal_cover, all_found}
use Rattle.trap_join.proofs.XOrder.{goes_on_left, goes_on_right, goes_on_by}
use Rattle.trap_join.proofs.Orders.{order_append, order_first, order_second, order_between, order_filter, order_grown}
use Rattle.trap_join.proofs.Slabs.{run_in_rows, has_taken, scan_run, found_run}

not_flat : (a b c : ℤ) (l r : Line) → a <ℤ b → b <ℤ c → pos 0 ≤ℤ (x_on r a -ℤ x_on l a)
    → pos 0 ≤ℤ (x_on r c -ℤ x_on l c) → pos 0 <ℤ ((x_on r a -ℤ x_on l a) +ℤ (x_on r b -ℤ x_on l b))
    → pos 0 <ℤ ((x_on r b -ℤ x_on l b) +ℤ (x_on r c -ℤ x_on l c))
    → pos 0 <ℤ ((x_on r a -ℤ x_on l a) +ℤ (x_on r c -ℤ x_on l c))
not_flat a b c (Upright k) (Upright m) p q u v s t = omega (arith, ints)
not_flat a b c (Upright k) (Rising m) p q u v s t = omega (arith, ints)
not_flat a b c (Upright k) (Falling m) p q u v s t = omega (arith, ints)
not_flat a b c (Rising k) (Upright m) p q u v s t = omega (arith, ints)
not_flat a b c (Rising k) (Rising m) p q u v s t = omega (arith, ints)
not_flat a b c (Rising k) (Falling m) p q u v s t = omega (arith, ints)
not_flat a b c (Falling k) (Upright m) p q u v s t = omega (arith, ints)
not_flat a b c (Falling k) (Rising m) p q u v s t = omega (arith, ints)
not_flat a b c (Falling k) (Falling m) p q u v s t = omega (arith, ints)

-- two shots between the same lines, one upon the other, are one shot
pub taller_shot : (a b c : ℤ) (l r : Line) → IsShot (trapezoid a b l r) → IsShot (trapezoid b c l r) → IsShot (trapezoid a c l r)
taller_shot a b c l r first second = record {
  legal = record {
    has_rows = (let p = first.legal.has_rows in let q = second.legal.has_rows in omega (arith, ints, p, q));
    bottom = first.legal.bottom;
    top = second.legal.top;
    not_flat = not_flat a b c l r first.legal.has_rows second.legal.has_rows first.legal.bottom second.legal.top first.legal.not_flat second.legal.not_flat;
  };
  reach = record {
    y0 = first.reach.y0;
    y1 = second.reach.y1;
    bottom_left = first.reach.bottom_left;
    bottom_right = first.reach.bottom_right;
    top_left = second.reach.top_left;
    top_right = second.reach.top_right;
  };
}

-- ---- from where a run's trapezoid grows

-- the growing one that goes on in the run
record Former (front : List Growing) (y : ℤ) (n : Run) : Type 0 where
  o : Growing
  member : Contains front o
  goes : goes_on o n ≡ true
  bottom : bottom_of front y n ≡ o.y0

record IsNew (front : List Growing) (y : ℤ) (n : Run) : Type 0 where
  none : (o : Growing) → Contains front o → goes_on o n ≡ false
  bottom : bottom_of front y n ≡ y

later_former : (p : Growing) (front : List Growing) (y : ℤ) (n : Run) → goes_on p n ≡ false → Former front y n
    ⊎ IsNew front y n → Former (p ∷ front) y n ⊎ IsNew (p ∷ front) y n
later_former p front y n e (inl f) = inl (record { o = f.o; member = among_rest p f.o front f.member; goes = f.goes; bottom = rw e f.bottom })
later_former p front y n e (inr f) = inr
    (record {
      none = λ o h. elim
          (first_or_later p o front h) [
            | inl s ↦ subst (λ (u : Growing). goes_on u n ≡ false) s e
            | inr later ↦
                f.none o later
          ];
      bottom = rw e f.bottom;
    })

former_by : (b : Bool) (p : Growing) (front : List Growing) (y : ℤ) (n : Run) → goes_on p n ≡ b → Former front y n
    ⊎ IsNew front y n → Former (p ∷ front) y n ⊎ IsNew (p ∷ front) y n
former_by true p front y n e later = inl (record { o = p; member = is_first p front; goes = e; bottom = rw e refl })
former_by false p front y n e later = later_former p front y n e later

former : (front : List Growing) (y : ℤ) (n : Run) → Former front y n ⊎ IsNew front y n
former [] y n = inr (record { none = λ o h. none_in_empty o h; bottom = refl })
former (p ∷ front) y n = former_by (goes_on p n) p front y n refl (former front y n)

not_false : {P : Type 0} (b : Bool) → b ≡ true → not b ≡ true → P
not_false b e f = absurd (let clash : ⊥ = cc in clash)

not_true : {P : Type 0} (b : Bool) → b ≡ false → b ≡ true → P
not_true b e f = absurd (let clash : ⊥ = cc in clash)

-- ---- the step

module _ (post : ℤ → ℤ → Bool → Type 0) (edges : List EdgeParts) (window : RowRange) (y : ℤ) (done : List Trapezoid)
    (front : List Growing) (so_far : IsJoinedSoFar post edges window y done (map (ended_at y) front)) where
  abbrev Below : ℤ → Tile → Type 0
  Below top = IsTakenIn post edges (row_range window.y0 top)

  abbrev Whole : Tile → Type 0
  Whole = IsTakenIn post edges window

  growing_one : (o : Growing) → Contains front o → IsGrowingIn (Below y) (row_range window.y0 y) (ended_at y o)
  growing_one o h = All-contains (IsGrowingIn (Below y) (row_range window.y0 y)) (map (ended_at y) front)
      (ended_at y o) so_far.growing (mapped (ended_at y) o front h)

  finished_one : (z : Trapezoid) → Contains done z → IsMaximal Whole window z
  finished_one z h = All-contains (IsMaximal Whole window) done z so_far.finished h

  module _ (top : ℤ) (runs : List Run) (up : y <ℤ top) (within : top ≤ℤ window.y1) (are : AreRunsOfSlab post edges (row_range y top) runs) where
    low_row : window.y0 ≤ℤ y
    low_row = so_far.low

    -- one that goes on in no run is finished
    finish : (o : Growing) → Contains front o → ends_below runs o ≡ true → IsMaximal Whole window (ended_at y o)
    finish o h ends =
        let g = growing_one o h in
        let m = g.maximal in
        let low = m.in_window.low in
        record {
          legal = m.legal;
          in_window = record { low = low; high = omega (arith, ints, up, within) };
          runs = λ j a b. run_in_rows post edges (row_range window.y0 y) window o.left o.right j
              (omega (arith, ints, low, a)) b (omega (arith, ints, low, a)) (omega (arith, ints, b, up, within))
              (m.runs j a b);
          top = λ _ run. (let f = found_run post edges y runs
              (are.rows y (omega (arith, ints)) up) window o.left o.right low_row
              (omega (arith, ints, up, within)) run in
              not_false (list_any (goes_on o) runs)
              (list_any-from_Any (goes_on o) runs
              (any_by (λ (u : Run). goes_on o u ≡ true) f.0 runs f.1 (goes_on_by o f.0 (sym f.2) (sym f.3)))) ends);
          bottom = λ lt run. (let rows = m.legal.has_rows in m.bottom lt
              (run_in_rows post edges window (row_range window.y0 y) o.left o.right (o.y0 -ℤ pos 1)
              (omega (arith, ints, lt)) (omega (arith, ints, rows, up, within)) (omega (arith, ints, lt))
              (omega (arith, ints, rows)) run));
        }

    slab_shot : (n : Run) → Contains runs n → IsShot (trapezoid y top n.left n.right)
    slab_shot n h = All-contains (λ (u : Run). IsShot (trapezoid y top u.left u.right)) runs n are.shots h

    slab_run : (rows : RowRange) (n : Run) (j : ℤ) → Contains runs n → y ≤ℤ j → j <ℤ top → rows.y0 ≤ℤ j → j <ℤ rows.y1
        → IsRunAt (IsTakenIn post edges rows) n.left n.right j
    slab_run rows n j h a b low high = scan_run post edges j runs (are.rows j a b) rows n low high h

    -- one that goes on in a run
    grown_rows : (n : Run) (o : Growing) (j : ℤ) → Contains runs n → Contains front o → goes_on o n ≡ true → o.y0 ≤ℤ j
        → j <ℤ top → IsRunAt (Below top) o.left o.right j
    grown_rows n o j h ho goes a b =
        let m = (growing_one o ho).maximal in
        let low = m.in_window.low in
        by_lt_z j y
        (λ lt. run_in_rows post edges (row_range window.y0 y) (row_range window.y0 top) o.left o.right j
        (omega (arith, ints, low, a)) lt (omega (arith, ints, low, a)) b (m.runs j a lt))
        (λ ge. (let run = slab_run (row_range window.y0 top) n j h ge b (omega (arith, ints, low, a)) b in
        subst (λ (l : Line). IsRunAt (Below top) l o.right j) (sym (goes_on_left o n goes))
        (subst (λ (r : Line). IsRunAt (Below top) n.left r j) (sym (goes_on_right o n goes)) run)))

    grown_shot : (n : Run) (o : Growing) → Contains runs n → Contains front o → goes_on o n ≡ true → IsShot (ended_at top o)
    grown_shot n o h ho goes =
        let above = subst (λ (l : Line). IsShot (trapezoid y top l o.right)) (sym (goes_on_left o n goes))
        (subst (λ (r : Line). IsShot (trapezoid y top n.left r)) (sym (goes_on_right o n goes))
        (slab_shot n h)) in
        taller_shot o.y0 y top o.left o.right (growing_one o ho).shot above

    grown_on : (n : Run) (o : Growing) → Contains runs n → Contains front o → goes_on o n ≡ true
        → IsGrowingIn (Below top) (row_range window.y0 top) (ended_at top o)
    grown_on n o h ho goes =
        let m = (growing_one o ho).maximal in
        let rows = m.legal.has_rows in
        let low = m.in_window.low in
        let shot = grown_shot n o h ho goes in
        record {
          maximal = record {
            legal = shot.legal;
            in_window = record { low = low; high = omega (arith, ints) };
            runs = λ j a b. grown_rows n o j h ho goes a b;
            top = λ lt run. omega (arith, ints, lt);
            bottom = λ lt run. m.bottom lt
                (run_in_rows post edges (row_range window.y0 top) (row_range window.y0 y) o.left o.right
                (o.y0 -ℤ pos 1) (omega (arith, ints, lt)) (omega (arith, ints, rows, up)) (omega (arith, ints, lt))
                (omega (arith, ints, rows)) run);
          };
          reaches_top = refl;
          shot = shot;
        }

    moved_lines : (z : Trapezoid) (n : Run) → z.left ≡ n.left → z.right ≡ n.right → z.y1 ≡ y
        → IsRunAt Whole n.left n.right y → IsRunAt Whole z.left z.right z.y1
    moved_lines z n el er ey run =
        subst (λ (x : ℤ). IsRunAt Whole z.left z.right x) (sym ey)
        (subst (λ (l : Line). IsRunAt Whole l z.right y) (sym el)
        (subst (λ (r : Line). IsRunAt Whole n.left r y) (sym er) run))

    -- a run that no growing one goes on in stands in no trapezoid of the row below
    not_done : (n : Run) (z : Trapezoid) → Contains runs n → Contains done z → window.y0 <ℤ y
        → IsRunAt Whole n.left n.right (y -ℤ pos 1)
        → IsInTrapezoid z (tile_with (place n.left (y -ℤ pos 1)) (y -ℤ pos 1)) → ⊥
    not_done n z h hz lt run i =
        let x = place n.left (y -ℤ pos 1) in
        let m = finished_one z hz in
        let e = tile_with_number x (y -ℤ pos 1) in
        let from : x ≤ℤ number_in_row (tile_with x (y -ℤ pos 1)) = rw e (omega (arith, ints)) in
        let to : number_in_row (tile_with x (y -ℤ pos 1)) <ℤ place n.right (y -ℤ pos 1) = rw e run.has_tile in
        let el = run_left Whole window z n.left n.right (tile_with x (y -ℤ pos 1)) m i run from to in
        let er = run_right Whole window z n.left n.right (tile_with x (y -ℤ pos 1)) m i run from to in
        let at_most = All-contains (λ (u : Trapezoid). u.y1 ≤ℤ y) done z so_far.end_below hz in
        let above = i.below_top in
        let ey : z.y1 ≡ y = omega (arith, ints, at_most, above) in
        let run_here = slab_run window n y h (omega (arith, ints)) up low_row (omega (arith, ints, up, within)) in
        m.top (omega (arith, ints, ey, up, within)) (moved_lines z n el er ey run_here)

    not_growing : (n : Run) (o : Growing) → Contains front o → goes_on o n ≡ false
        → IsRunAt (Below y) n.left n.right (y -ℤ pos 1)
        → IsInTrapezoid (ended_at y o) (tile_with (place n.left (y -ℤ pos 1)) (y -ℤ pos 1)) → ⊥
    not_growing n o ho none run i =
        let x = place n.left (y -ℤ pos 1) in
        let m = (growing_one o ho).maximal in
        let e = tile_with_number x (y -ℤ pos 1) in
        let from : x ≤ℤ number_in_row (tile_with x (y -ℤ pos 1)) = rw e (omega (arith, ints)) in
        let to : number_in_row (tile_with x (y -ℤ pos 1)) <ℤ place n.right (y -ℤ pos 1) = rw e run.has_tile in
        let el = run_left (Below y) (row_range window.y0 y) (ended_at y o) n.left n.right (tile_with x (y -ℤ pos 1)) m i run from to in
        let er = run_right (Below y) (row_range window.y0 y) (ended_at y o) n.left n.right (tile_with x (y -ℤ pos 1)) m i run from to in
        not_true (goes_on o n) none (goes_on_by o n el er)

    new_bottom : (n : Run) → Contains runs n → IsNew front y n → window.y0 <ℤ y → IsRunAt (Below top) n.left n.right (y -ℤ pos 1) → ⊥
    new_bottom n h new lt run =
        let x = place n.left (y -ℤ pos 1) in
        let below = run_in_rows post edges (row_range window.y0 top) (row_range window.y0 y) n.left n.right
        (y -ℤ pos 1) (omega (arith, ints, lt)) (omega (arith, ints, up)) (omega (arith, ints, lt))
        (omega (arith, ints)) run in
        let whole = run_in_rows post edges (row_range window.y0 top) window n.left n.right (y -ℤ pos 1)
        (omega (arith, ints, lt)) (omega (arith, ints, up)) (omega (arith, ints, lt))
        (omega (arith, ints, up, within)) run in
        let s = some_member (λ (z : Trapezoid). IsInTrapezoid z (tile_with x (y -ℤ pos 1)))
        (done ++ map (ended_at y) front)
        (so_far.covered (tile_with x (y -ℤ pos 1))
        (inside_at n.left n.right (y -ℤ pos 1) x below (omega (arith, ints)) below.has_tile)) in
        elim (Contains-append_cases done (map (ended_at y) front) s.0 s.1) [
          | inl hd ↦ not_done n s.0 h hd lt whole s.2
          | inr hf ↦ (let o = origin (ended_at y) s.0 front hf in
              not_growing n o.0 o.1 (new.none o.0 o.1) below (subst (λ (u : Trapezoid). IsInTrapezoid u (tile_with x (y -ℤ pos 1))) (sym o.2) s.2))
        ]

    grown_new : (n : Run) → Contains runs n → IsNew front y n → IsGrowingIn (Below top) (row_range window.y0 top) (trapezoid y top n.left n.right)
    grown_new n h new =
        let shot = slab_shot n h in
        record {
          maximal = record {
            legal = shot.legal;
            in_window = record { low = low_row; high = omega (arith, ints) };
            runs = λ j a b. slab_run (row_range window.y0 top) n j h a b (let l = low_row in omega (arith, ints, l, a)) b;
            top = λ lt run. omega (arith, ints, lt);
            bottom = λ lt run. new_bottom n h new lt run;
          };
          reaches_top = refl;
          shot = shot;
        }

    grown : (n : Run) → Contains runs n → IsGrowingIn (Below top) (row_range window.y0 top) (ended_at top (grown_into front y n))
    grown n h = elim (former front y n) [
      | inl f ↦ subst (λ (z : Trapezoid). IsGrowingIn (Below top) (row_range window.y0 top) z)
          (same_trapezoid f.o.y0 (bottom_of front y n) top top f.o.left n.left f.o.right n.right (sym f.bottom) refl
          (goes_on_left f.o n f.goes) (goes_on_right f.o n f.goes)) (grown_on n f.o h f.member f.goes)
      | inr new ↦ subst (λ (x : ℤ). IsGrowingIn (Below top) (row_range window.y0 top) (trapezoid x top n.left n.right)) (sym new.bottom) (grown_new n h new)
    ]

    -- ---- each tile is covered

    abbrev After : List Trapezoid
    After = (done ++ ended runs y front) ++ map (ended_at top) (map (grown_into front y) runs)

    abbrev Covers : Tile → Type 0
    Covers t = Any (λ (z : Trapezoid). IsInTrapezoid z t) After

    cover_done : (t : Tile) (z : Trapezoid) → Contains (done ++ ended runs y front) z → IsInTrapezoid z t → Covers t
    cover_done t z h i = any_by (λ (u : Trapezoid). IsInTrapezoid u t) z After
        (Contains-append_left (done ++ ended runs y front) (map (ended_at top) (map (grown_into front y) runs)) z h) i

    cover_grown : (t : Tile) (n : Run) → Contains runs n → bottom_of front y n ≤ℤ t.j → t.j <ℤ top
        → place n.left t.j ≤ℤ number_in_row t → number_in_row t <ℤ place n.right t.j → Covers t
    cover_grown t n h a b l r =
        let z = ended_at top (grown_into front y n) in
        any_by (λ (u : Trapezoid). IsInTrapezoid u t) z After
        (Contains-append_right (done ++ ended runs y front) (map (ended_at top) (map (grown_into front y) runs)) z
        (mapped (ended_at top) (grown_into front y n) (map (grown_into front y) runs)
        (mapped (grown_into front y) n runs h)))
        (in_by_number z t (record { above_bottom = a; below_top = b; from_left = l; below_right = r }))

    -- the one that goes on in a run began where the run's trapezoid begins
    same_bottom : (n : Run) (o : Growing) → Contains front o → goes_on o n ≡ true → bottom_of front y n ≡ o.y0
    same_bottom n o ho goes = elim (former front y n) [
      | inl f ↦ (let m = (growing_one f.o f.member).maximal in
          let k = (growing_one o ho).maximal in
          let a = m.legal.has_rows in
          let b = k.legal.has_rows in
          let e = same_rows (Below y) (row_range window.y0 y) (ended_at y f.o) (ended_at y o) (y -ℤ pos 1) m k
          (goes_on_left f.o n f.goes ∙ sym (goes_on_left o n goes))
          (goes_on_right f.o n f.goes ∙ sym (goes_on_right o n goes))
          (omega (arith, ints, a)) (omega (arith, ints)) (omega (arith, ints, b)) (omega (arith, ints)) in
          f.bottom ∙ ap (λ (u : Trapezoid). u.y0) e)
      | inr new ↦ not_true (goes_on o n) (new.none o ho) goes
    ]

    cover_front : (t : Tile) (o : Growing) (b : Bool) → Contains front o → t.j <ℤ y → IsInTrapezoid (ended_at y o) t → list_any (goes_on o) runs ≡ b → Covers t
    cover_front t o false ho lt i e =
        let ends : ends_below runs o ≡ true = rw e refl in
        cover_done t (ended_at y o)
        (Contains-append_right done (ended runs y front) (ended_at y o)
        (mapped (ended_at y) o (filter (ends_below runs) front) (passed (ends_below runs) o front ho ends))) i
    cover_front t o true ho lt i e =
        let s = some_member (λ (u : Run). goes_on o u ≡ true) runs (Any-from_list_any (goes_on o) runs e) in
        let number = number_between (ended_at y o) t i in
        let bottom = same_bottom s.0 o ho s.2 in
        let from = number.above_bottom in
        cover_grown t s.0 s.1 (omega (arith, ints, bottom, from)) (omega (arith, ints, lt, up))
        (subst (λ (l : Line). place l t.j ≤ℤ number_in_row t) (goes_on_left o s.0 s.2) number.from_left)
        (subst (λ (r : Line). number_in_row t <ℤ place r t.j) (goes_on_right o s.0 s.2) number.below_right)

    cover_below : (t : Tile) → t.j <ℤ y → Below top t → Covers t
    cover_below t lt h =
        let s = some_member (λ (z : Trapezoid). IsInTrapezoid z t) (done ++ map (ended_at y) front)
        (so_far.covered t (record { from = h.from; below = lt; taken = h.taken })) in
        elim (Contains-append_cases done (map (ended_at y) front) s.0 s.1) [
          | inl hd ↦ cover_done t s.0 (Contains-append_left done (ended runs y front) s.0 hd) s.2
          | inr hf ↦ (let o = origin (ended_at y) s.0 front hf in
              cover_front t o.0 (list_any (goes_on o.0) runs) o.1 lt (subst (λ (u : Trapezoid). IsInTrapezoid u t) (sym o.2) s.2) refl)
        ]

    bottom_low : (n : Run) → bottom_of front y n ≤ℤ y
    bottom_low n = elim (former front y n) [
      | inl f ↦ (let rows = (growing_one f.o f.member).maximal.legal.has_rows in let e = f.bottom in omega (arith, ints, rows, e))
      | inr new ↦ (let e = new.bottom in omega (arith, ints, e))
    ]

    cover_above : (t : Tile) → y ≤ℤ t.j → Below top t → Covers t
    cover_above t ge h =
        let has = has_taken post edges t.j runs (are.rows t.j ge h.below) t refl h.taken in
        let low = bottom_low has.m in
        cover_grown t has.m has.member (omega (arith, ints, low, ge)) h.below has.from has.to

    -- ---- the whole

    done_below : (z : Trapezoid) → Contains (done ++ ended runs y front) z → z.y1 ≤ℤ y
    done_below z h = elim (Contains-append_cases done (ended runs y front) z h) [
      | inl hd ↦ All-contains (λ (u : Trapezoid). u.y1 ≤ℤ y) done z so_far.end_below hd
      | inr he ↦ (let o = origin (ended_at y) z (filter (ends_below runs) front) he in let e : y ≡ z.y1 = ap
          (λ (u : Trapezoid). u.y1) o.2 in omega (arith, ints, e))
    ]

    grown_top : (z : Trapezoid) → Contains (map (ended_at top) (map (grown_into front y) runs)) z → top ≡ z.y1
    grown_top z h = let o = origin (ended_at top) z (map (grown_into front y) runs) h in ap (λ (u : Trapezoid). u.y1) o.2

    done_order : StandInOrder (done ++ ended runs y front)
    done_order =
        order_append done (ended runs y front) (order_first done (map (ended_at y) front) so_far.in_order)
        (order_filter (ended_at y) (ends_below runs) front (order_second done (map (ended_at y) front) so_far.in_order))
        (λ x z hx hz. (let o = origin (ended_at y) z (filter (ends_below runs) front) hz in
        let member = passing (ends_below runs) o.0 front o.1 in
        order_between done (map (ended_at y) front) so_far.in_order x z hx
        (subst (λ (u : Trapezoid). Contains (map (ended_at y) front) u) o.2
        (mapped (ended_at y) o.0 front member.0))))

    all_order : StandInOrder After
    all_order =
        order_append (done ++ ended runs y front) (map (ended_at top) (map (grown_into front y) runs)) done_order
        (order_grown front y top runs (are.rows (top -ℤ pos 1) (omega (arith, ints, up)) (omega (arith, ints))).apart)
        (λ x z hx hz. (let a = done_below x hx in let b = grown_top z hz in inl (omega (arith, ints, a, b, up))))

    all_finished : (z : Trapezoid) → Contains (done ++ ended runs y front) z → IsMaximal Whole window z
    all_finished z h = elim (Contains-append_cases done (ended runs y front) z h) [
      | inl hd ↦ finished_one z hd
      | inr he ↦ (let o = origin (ended_at y) z (filter (ends_below runs) front) he in
          let member = passing (ends_below runs) o.0 front o.1 in
          subst (λ (u : Trapezoid). IsMaximal Whole window u) o.2 (finish o.0 member.0 member.1))
    ]

    all_grown : (z : Trapezoid) → Contains (map (ended_at top) (map (grown_into front y) runs)) z → IsGrowingIn (Below top) (row_range window.y0 top) z
    all_grown z h =
        let o = origin (ended_at top) z (map (grown_into front y) runs) h in
        let n = origin (grown_into front y) o.0 runs o.1 in
        subst (λ (u : Trapezoid). IsGrowingIn (Below top) (row_range window.y0 top) u) o.2
        (subst (λ (u : Growing). IsGrowingIn (Below top) (row_range window.y0 top) (ended_at top u)) n.2
        (grown n.0 n.1))

    pub joined_more : IsJoinedSoFar post edges window top (done ++ ended runs y front) (map (ended_at top) (map (grown_into front y) runs))
    joined_more = record {
      low = (let l = low_row in omega (arith, ints, l, up));
      in_order = all_order;
      finished = all_members (IsMaximal Whole window) (done ++ ended runs y front) all_finished;
      end_below = all_members (λ (z : Trapezoid). z.y1 ≤ℤ top) (done ++ ended runs y front) (λ z h. (let b = done_below z h in omega (arith, ints, b, up)));
      growing = all_members (IsGrowingIn (Below top) (row_range window.y0 top)) (map (ended_at top) (map (grown_into front y) runs)) all_grown;
      covered = λ t h. by_lt_z t.j y (λ lt. cover_below t lt h) (λ ge. cover_above t ge h);
    }

-- ---- what a join holds at a stop

left_of : (y : ℤ) (o p : Growing) → StandsBefore (ended_at y o) (ended_at y p) → place o.left (y -ℤ pos 1) <ℤ place p.left (y -ℤ pos 1)
left_of y o p (inl a) = absurd (omega (arith, ints, a))
left_of y o p (inr a) = a.1

module _ (post : ℤ → ℤ → Bool → Type 0) (edges : List EdgeParts) (window : RowRange) (y : ℤ) (done : List Trapezoid)
    (front : List Growing) (so_far : IsJoinedSoFar post edges window y done (map (ended_at y) front)) where
  pub front_shots : All (λ (o : Growing). IsShot (ended_at y o)) front
  front_shots = all_members (λ (o : Growing). IsShot (ended_at y o)) front (λ o h. (growing_one post edges window y done front so_far o h).shot)

  stands_by : (rest : List Growing) → ((o : Growing) → Contains rest o → Contains front o)
      → StandInOrder (map (ended_at y) rest) → FrontStandsApart (y -ℤ pos 1) rest
  stands_by [] f order = tt
  stands_by (o ∷ rest) f order =
      let m = (growing_one post edges window y done front so_far o (f o (is_first o rest))).maximal in
      let rows = m.legal.has_rows in
      let run = m.runs (y -ℤ pos 1) (omega (arith, ints, rows)) (omega (arith, ints)) in (
        run.has_tile,
        all_members (λ (p : Growing). place o.right (y -ℤ pos 1) <ℤ place p.left (y -ℤ pos 1)) rest
            (λ p h. (let k = (growing_one post edges window y done front so_far p
            (f p (among_rest o p rest h))).maximal in
            let its_rows = k.legal.has_rows in
            let its_run = k.runs (y -ℤ pos 1) (omega (arith, ints, its_rows)) (omega (arith, ints)) in
            runs_apart o.left o.right p.left p.right (y -ℤ pos 1) run its_run
            (left_of y o p (All-contains (StandsBefore (ended_at y o)) (map (ended_at y) rest)
            (ended_at y p) order.0 (mapped (ended_at y) p rest h))))),
        stands_by rest (λ p h. f p (among_rest o p rest h)) order.1,
      )

  pub front_stands : FrontStandsApart (y -ℤ pos 1) front
  front_stands = stands_by front (λ o h. h) (order_second done (map (ended_at y) front) so_far.in_order)

  module _ (at_end : y ≡ window.y1) where
    at_window : row_range window.y0 y ≡ window
    at_window = ap (λ (x : ℤ). row_range window.y0 x) at_end

    end_one : (o : Growing) → Contains front o → IsMaximal (IsTakenIn post edges window) window (ended_at y o)
    end_one o h = subst (λ (rows : RowRange). IsMaximal (IsTakenIn post edges rows) rows (ended_at y o)) at_window
        (growing_one post edges window y done front so_far o h).maximal

    end_each : (z : Trapezoid) → Contains (map (ended_at y) front) z → IsMaximal (IsTakenIn post edges window) window z
    end_each z h = let o = origin (ended_at y) z front h in subst (λ (u : Trapezoid). IsMaximal (IsTakenIn post edges window) window u) o.2 (end_one o.0 o.1)

    end_low : (z : Trapezoid) → Contains (map (ended_at y) front) z → z.y1 ≤ℤ y
    end_low z h = let o = origin (ended_at y) z front h in let e : y ≡ z.y1 = ap (λ (u : Trapezoid). u.y1) o.2 in omega (arith, ints, e)

    -- after the last slab all that grows ends
    pub joined_end : IsJoinedSoFar post edges window y (done ++ map (ended_at y) front) []
    joined_end = record {
      low = so_far.low;
      in_order = rw append-nil so_far.in_order;
      finished = All-append (IsMaximal (IsTakenIn post edges window) window) done
          (map (ended_at y) front) so_far.finished
          (all_members (IsMaximal (IsTakenIn post edges window) window) (map (ended_at y) front) end_each);
      end_below = All-append (λ (z : Trapezoid). z.y1 ≤ℤ y) done (map (ended_at y) front) so_far.end_below
          (all_members (λ (z : Trapezoid). z.y1 ≤ℤ y) (map (ended_at y) front) end_low);
      growing = All-nil (IsGrowingIn (IsTakenIn post edges (row_range window.y0 y)) (row_range window.y0 y));
      covered = rw append-nil so_far.covered;
    }

-- ---- the whole list

module _ (post : ℤ → ℤ → Bool → Type 0) (edges : List EdgeParts) (window : RowRange) where
  pub joined_none : (y : ℤ) → y ≡ window.y0 → IsJoinedSoFar post edges window y [] []
  joined_none y e = record {
    low = omega (arith, ints, e);
    in_order = tt;
    finished = All-nil (IsMaximal (IsTakenIn post edges window) window);
    end_below = All-nil (λ (z : Trapezoid). z.y1 ≤ℤ y);
    growing = All-nil (IsGrowingIn (IsTakenIn post edges (row_range window.y0 y)) (row_range window.y0 y));
    covered = λ t h. absurd (let a = h.from in let b = h.below in omega (arith, ints, a, b, e));
  }

  module _ (y : ℤ) (given : List Trapezoid) (so_far : IsJoinedSoFar post edges window y given []) (at_end : y ≡ window.y1) where
    found_all : (t : Tile) → IsTakenIn post edges window t → Found t given
    found_all t h =
        let low = h.from in
        let high = h.below in
        let s = some_member (λ (z : Trapezoid). IsInTrapezoid z t) (given ++ [])
        (so_far.covered t (record { from = low; below = omega (arith, ints, high, at_end); taken = h.taken }))
        in
        (s.0, subst (λ (zs : List Trapezoid). Contains zs s.0) (append-nil given) s.1, in_has t s.0 s.2)

    order_all : StandInOrder given
    order_all = order_first given [] so_far.in_order

    pub joined_whole : IsJoined window given
    joined_whole = maximal_joined (IsTakenIn post edges window) window given order_all so_far.finished found_all

    pub maximal_whole : AreMaximal (IsTakenIn post edges window) window given
    maximal_whole = record {
      each = so_far.finished;
      all = all_found (IsTakenIn post edges window) window given
          (λ z h. All-contains (IsMaximal (IsTakenIn post edges window) window) given z so_far.finished h) found_all;
    }

    pub covered_whole : CoversExactly given (IsTakenIn post edges window)
    covered_whole = maximal_cover (IsTakenIn post edges window) window given order_all so_far.finished found_all

  -- the trapezoid that is given next
  pub given_one : (y : ℤ) (given : List Trapezoid) (z : Trapezoid) (waiting front : List Trapezoid)
      → IsJoinedSoFar post edges window y (given ++ z ∷ waiting) front
      → IsJoinedSoFar post edges window y ((given ++ z ∷ []) ++ waiting) front
  given_one y given z waiting front h = subst (λ (zs : List Trapezoid). IsJoinedSoFar post edges window y zs front)
      (sym (append_assoc given (z ∷ []) waiting)) h

  pub given_maximal : (y : ℤ) (given : List Trapezoid) (z : Trapezoid) (waiting front : List Trapezoid)
      → IsJoinedSoFar post edges window y (given ++ z ∷ waiting) front
      → IsMaximal (IsTakenIn post edges window) window z
  given_maximal y given z waiting front h = All-contains (IsMaximal (IsTakenIn post edges window) window)
      (given ++ z ∷ waiting) z h.finished (Contains-append_right given (z ∷ waiting) z (is_first z waiting))

  pub given_after : (y : ℤ) (given : List Trapezoid) (z : Trapezoid) (waiting front : List Trapezoid)
      → IsJoinedSoFar post edges window y (given ++ z ∷ waiting) front → All (λ x. StandsBefore x z) given
  given_after y given z waiting front h =
      let order = order_first (given ++ z ∷ waiting) front h.in_order in
      all_members (λ (x : Trapezoid). StandsBefore x z) given (λ x hx. order_between given (z ∷ waiting) order x z hx (is_first z waiting))

-- ---- the measure

rows_are : (z : ℤ) → pos 0 ≤ℤ z → pos (rows_up z) ≡ z
rows_are (pos n) h = refl
rows_are (negsuc n) h = absurd (omega (arith, ints, h))

fewer_rows : (end y top : ℤ) → y <ℤ top → top ≤ℤ end → rows_up (end -ℤ top) + 1 ≤ rows_up (end -ℤ y)
fewer_rows end y top a b =
    let p = rows_are (end -ℤ top) (omega (arith, ints, b)) in
    let q = rows_are (end -ℤ y) (omega (arith, ints, a, b)) in
    omega (arith, ints, p, q, a)

less_left : (r s n g h w v : ℕ) → r + 1 ≤ s → 2 * g < n → v ≤ w + h → (r * n + 2 * g) + v < (s * n + 2 * h) + w
less_left r s n g h w v a b c = let m : (r + 1) * n ≤ s * n = mul-le-mul_right n a in omega arith

-- a slab more
pub slab_falls : (end y top : ℤ) (g h w v : ℕ) → y <ℤ top → top ≤ℤ end → g < 2 ^ 64 → v ≤ w + h → still_left end top g v < still_left end y h w
unfolding still_left
slab_falls end y top g h w v a b c d = less_left (rows_up (end -ℤ top)) (rows_up (end -ℤ y)) (2 ^ 65) g h w v (fewer_rows end y top a b) (omega arith) d

-- all that grows ends
pub end_falls : (end y : ℤ) (h w v : ℕ) → 0 < h → v ≡ w + h → still_left end y 0 v < still_left end y h w
unfolding still_left
end_falls end y h w v a e = omega arith

-- one is given
pub giving_falls : (end y : ℤ) (h w : ℕ) → still_left end y h w + 1 ≡ still_left end y h (w + 1)
unfolding still_left
giving_falls end y h w = omega arith

pub ended_length : (runs : List Run) (y : ℤ) (front : List Growing) → length (ended runs y front) ≤ length front
ended_length runs y front = omega (
  arith,
  length-map (filter (ends_below runs) front) (ended_at y),
  length-filter
      (ends_below runs) front,
  count_by-le-length (ends_below runs) front,
)

-- ---- the slab of a scan

-- a stop above the window's bottom is at most its top
pub stop_within : (edges : List EdgeParts) (window slab : RowRange) → window.y0 ≤ℤ slab.y0 → IsSlab edges window slab → slab.y1 ≤ℤ window.y1
stop_within edges window slab low is =
    let rows = is.has_rows in
    elim is.top [
      | inl e ↦ omega (arith, ints, e, rows, low)
      | inr (inl e) ↦ omega (arith, ints, e)
      | inr (inr inner) ↦ (let b = inner.0.below_top in omega (arith, ints, b))
    ]

pub run_sides : (y top : ℤ) (runs : List Run) → All (λ (u : Run). IsShot (trapezoid y top u.left u.right)) runs
    → All (λ (u : Run). IsSide u.left u.right y) runs
run_sides y top runs shots = All-weaker (λ (u : Run). IsShot (trapezoid y top u.left u.right))
    (λ (u : Run). IsSide u.left u.right y)
    (λ u shot. record {
      left_end = shot.reach.bottom_left;
      right_end = shot.reach.bottom_right;
      not_negative =
          shot.legal.bottom;
    }) runs shots
