-- The lowest tile that a rule takes, by the slabs of a scan.
use Rattle.std.proofs.Common.{Option, Some, None, IfNone, ◌≡◌, ℤ, pos, ◌+ℤ◌, ◌≤ℤ◌, ◌<ℤ◌, ◌<◌, IsPermutation, Bool}
use Rattle.std.proofs.Common.{arith, refl, sym, ◌∙◌, List, [], ◌∷◌, length, get_or, All}
use Rattle.std.proofs.lemmas.Int.{ints, by_lt_z}
use Rattle.std.proofs.lemmas.List.Elements.{All-head, All-cons, All-weaker, All-contains}
use mathlib.Core.Logic.{inl, inr}
use Rattle.half_grid.specs.Edges.{EdgeParts}
use Rattle.half_grid.specs.Lines.{x_on}
use Rattle.half_grid.specs.Reach.{IsWithinReach}
use Rattle.half_grid.specs.Rows.{place, number_in_row}
use Rattle.half_grid.specs.Trapezoids.{IsShot, trapezoid}
use Rattle.half_grid.specs.Windows.{RowRange, row_range}
use Rattle.half_grid.specs.declared.border.Operand.TheVariants.{A, B}
use Rattle.half_grid.specs.declared.plane.Line.{Line}
use Rattle.half_grid.specs.declared.plane.Line.TheVariants.{Upright, Rising, Falling}
use Rattle.half_grid.specs.declared.plane.Tile.{Tile}
use Rattle.scan_line.specs.Runs.{IsTaken, RunHas, StandApart, AreRuns, AreRunsOfSlab, HoldsWindings}
use Rattle.scan_line.specs.Stops.{IsWithin}
use Rattle.scan_line.specs.declared.runs.Run.{Run}
use Rattle.scan_line.proofs.ForCallers.{taken_permuted, winding_permuted}
use Rattle.trap_join.specs.Joins.{IsTakenIn}
use Rattle.trap_join.proofs.ForCallers.{some_member}
use Rattle.plane_sweep.specs.Lowest.{ComesNoLater, IsLowest, TakesNone}
use Rattle.plane_sweep.specs.declared.lowest_tile.LowestTile.{LowestTile}

-- ---- what lies between two Y at which it is within reach

reach_between : (a b y : ℤ) → IsWithinReach a → IsWithinReach b → a ≤ℤ y → y ≤ℤ b → IsWithinReach y
reach_between a b y ha hb l h = record { low = omega (arith, ints, ha.low, l); high = omega (arith, ints, hb.high, h) }

line_reach_between : (l : Line) (y0 y1 y : ℤ) → IsWithinReach (x_on l y0) → IsWithinReach (x_on l y1) → y0 ≤ℤ y → y ≤ℤ y1 → IsWithinReach (x_on l y)
line_reach_between (Upright c) y0 y1 y a b l h = a
line_reach_between (Rising c) y0 y1 y a b l h = record { low = omega (arith, ints, a.low, l); high = omega (arith, ints, b.high, h) }
line_reach_between (Falling c) y0 y1 y a b l h = record { low = omega (arith, ints, b.low, h); high = omega (arith, ints, a.high, l) }

-- the Y above the lowest row of a shot is within reach, and its left line there
pub next_row_reach : (y0 y1 : ℤ) (l r : Line) → IsShot (trapezoid y0 y1 l r) → IsWithinReach (y0 +ℤ pos 1)
next_row_reach y0 y1 l r s = let rows = s.legal.has_rows in reach_between y0 y1 (y0 +ℤ pos 1) s.reach.y0 s.reach.y1
    (omega (arith, ints)) (omega (arith, ints, rows))

pub left_reach : (y0 y1 : ℤ) (l r : Line) → IsShot (trapezoid y0 y1 l r) → IsWithinReach (x_on l (y0 +ℤ pos 1))
left_reach y0 y1 l r s =
    let rows = s.legal.has_rows in
    line_reach_between l y0 y1 (y0 +ℤ pos 1) s.reach.bottom_left s.reach.top_left (omega (arith, ints)) (omega (arith, ints, rows))

-- ---- the first run of a row

begin_no_further_left : (j : ℤ) (run : Run) (runs : List Run) → StandApart j (run ∷ runs) → All (λ (n : Run). place run.left j ≤ℤ place n.left j) (run ∷ runs)
begin_no_further_left j run runs apart =
    let own = apart.0 in
    All-cons (λ (n : Run). place run.left j ≤ℤ place n.left j) run runs (omega (arith, ints))
    (All-weaker (λ (n : Run). place run.right j <ℤ place n.left j) (λ (n : Run). place run.left j ≤ℤ place n.left j)
    (λ n h. omega (arith, ints, own, h)) runs apart.1)

-- the first of the runs is the one at index 0
pub first_is : (run : Run) (runs : List Run) → 0 < length runs → run ≡ get_or runs 0 run → (later : List Run) × (runs ≡ run ∷ later)
first_is run [] lt e = absurd (omega (arith, lt))
first_is run (m ∷ later) lt e = (later, rw e refl)

module _ (post : ℤ → ℤ → Bool → Type 0) (edges : List EdgeParts) (window : RowRange) where
  -- the rule takes no tile of the window's rows below the Y
  abbrev pub TakesNoneBelow : ℤ → Type 0
  TakesNoneBelow y = TakesNone post edges (row_range window.y0 y)

  -- a tile that is taken stands no further left in its row than the first run
  not_left_of_first : (j : ℤ) (run : Run) (later : List Run) (t : Tile) → AreRuns post edges j (run ∷ later) → t.j ≡ j
      → IsTaken post edges t → place run.left j ≤ℤ number_in_row t
  not_left_of_first j run later t are e taken =
      let some = some_member (RunHas t) (run ∷ later) ((are.taken t e).0 taken) in
      let left = All-contains (λ (n : Run). place run.left j ≤ℤ place n.left j) (run ∷ later) some.0 (begin_no_further_left j run later are.apart) some.1 in
      let from : place some.0.left j ≤ℤ number_in_row t = rw (← e) some.2.from_left in
      omega (arith, ints, left, from)

  module _ (slab : RowRange) (run : Run) (later : List Run) (tile : Tile) (y : ℤ) (from : slab.y0 ≡ y)
      (has_rows : slab.y0 <ℤ slab.y1) (within : IsWithin window slab)
      (are : AreRunsOfSlab post edges slab (run ∷ later)) (none : TakesNoneBelow y) (row : tile.j ≡ slab.y0)
      (number : number_in_row tile ≡ place run.left slab.y0) where
    first_row : AreRuns post edges slab.y0 (run ∷ later)
    first_row = are.rows slab.y0 (omega (arith, ints)) has_rows

    first_has : RunHas tile run
    first_has =
        let own = first_row.apart.0 in
        record { from_left = rw row (omega (arith, ints, number)); below_right = rw row (omega (arith, ints, number, own)) }

    is_taken : IsTaken post edges tile
    is_taken = (first_row.taken tile row).1 (0, run, omega arith, refl, first_has)

    comes_first : (t : Tile) → IsTakenIn post edges window t → ComesNoLater tile t
    comes_first t taken =
        by_lt_z t.j slab.y0
        (λ lt. absurd (none t (record { from = taken.from; below = rw (← from) lt; taken = taken.taken })))
        (λ ge. by_lt_z slab.y0 t.j
        (λ lt. inl (rw row lt))
        (λ le. (let same : t.j ≡ slab.y0 = omega (arith, ints, ge, le) in
        let left = not_left_of_first slab.y0 run later t first_row same taken.taken in
        inr (row ∙ sym same, rw number left))))

    pub first_is_lowest : (found : LowestTile) → found.tile ≡ tile → found.a ≡ run.a → found.b ≡ run.b → IsLowest post edges window found
    first_is_lowest found is a b =
        let winds = All-head (HoldsWindings edges slab.y0) run later first_row.windings tile row number in
        let bottom = within.bottom in
        let top = within.top in
        record {
          taken = rw is (record { from = rw row bottom; below = rw row (omega (arith, ints, has_rows, top)); taken = is_taken });
          a = rw is (a ∙ winds.0);
          b = rw is (b ∙ winds.1);
          first = rw is comes_first;
        }

-- ---- at an equal rule, at permuted edges

module _ {F : Type 0} (post : F → ℤ → ℤ → Bool → Type 0) where
  pub none_of_given : (rule own : F) (edges others : List EdgeParts) (window range : RowRange) → own ≡ rule → IsPermutation edges others → range ≡ window
      → TakesNone (post own) edges range → TakesNone (post rule) others window
  none_of_given rule own edges others window range r same w h =
      let none : TakesNone (post rule) edges window = rw (r, w) at h in
      λ t taken. none t (record { from = taken.from; below = taken.below; taken = (taken_permuted (post rule) edges others t same).1 taken.taken })

  pub lowest_of_given : (rule own : F) (edges others : List EdgeParts) (window range : RowRange) → own ≡ rule → IsPermutation edges others → range ≡ window
      → (found : LowestTile) → IsLowest (post own) edges range found → IsLowest (post rule) others window found
  lowest_of_given rule own edges others window range r same w found h =
      let here : IsLowest (post rule) edges window found = rw (r, w) at h in
      let to : (t : Tile) → IsTakenIn (post rule) others window t → IsTakenIn (post rule) edges window t = λ t taken.
      record {
        from = taken.from;
        below = taken.below;
        taken =
            (taken_permuted (post rule) edges others t same).1 taken.taken;
      } in
      record {
        taken = record {
          from = here.taken.from;
          below = here.taken.below;
          taken =
              (taken_permuted (post rule) edges others found.tile same).0 here.taken.taken;
        };
        a = here.a ∙ sym (winding_permuted A edges others found.tile same);
        b = here.b ∙ sym (winding_permuted B edges others found.tile same);
        first = λ t taken. here.first t (to t taken);
      }

  -- the first run of a slab, above rows of which the rule takes no tile
  pub lowest_in_slab : (rule own : F) (edges others : List EdgeParts) (window range : RowRange) → own ≡ rule → others ≡ edges → range ≡ window
      → (y y0 y1 : ℤ) → y0 ≡ y → y0 <ℤ y1 → IsWithin range (row_range y0 y1) → (runs given : List Run)
      → AreRunsOfSlab (post own) others (row_range y0 y1) runs → given ≡ runs
      → (run : Run) → 0 < length given → run ≡ get_or given 0 run → TakesNoneBelow (post rule) edges window y
      → (found : LowestTile) → found.tile.j ≡ y0 → number_in_row found.tile ≡ place run.left y0 → found.a ≡ run.a
      → found.b ≡ run.b → IsLowest (post rule) edges window found
  lowest_in_slab rule own edges others window range r e w y y0 y1 from has_rows within runs given are same run some is none found row number a b =
      let first = first_is run given some is in
      let slab_runs : AreRunsOfSlab (post rule) edges (row_range y0 y1) (run ∷ first.0) = rw (r, e, ← same, first.1) at are in
      let inside : IsWithin window (row_range y0 y1) = rw w at within in
      first_is_lowest (post rule) edges window (row_range y0 y1) run first.0 found.tile y from has_rows inside slab_runs none row number found refl a b

pub none_weaker : {X : Type 0} {P Q : Type 0} (r : Option X) → (P → Q) → IfNone r P → IfNone r Q
none_weaker (Some x) f h = h
none_weaker None f h = f h
