-- The windows of an output, from below: the first one, its bands, and the last one.
use Rattle.std.proofs.Common.{◌≡◌, ℕ, ℤ, pos, negsuc, neg_ℤ, ◌^◌, ◌<◌, ◌+ℤ◌, ◌≤ℤ◌, ◌<ℤ◌, refl, List, [], All, arith}
use Rattle.std.proofs.lemmas.Int.{ints}
use Rattle.half_grid.specs.Trapezoids.{Trapezoid, IsShot, CoversExactly, count_in}
use Rattle.half_grid.specs.Windows.{RowRange, row_range}
use Rattle.half_grid.specs.declared.plane.Tile.{Tile}
use Rattle.trap_join.specs.Joins.{rows_up}
use Rattle.bool_ops.specs.Operations as ops
use Rattle.shot_checker.specs.Verdicts.{IsInRows, CoversAlike}
use Rattle.shot_checker.specs.Verdicts as checked
use Rattle.deck_plan.specs.Areas.{IsInBand}
use Rattle.deck_plan.specs.Needs.{IsAskedBand}
use Rattle.deck_plan.specs.Plans.{Planned, planned_area}
use Rattle.file_check.specs.Certificates.{AgreesBelow, IsFirstWrongTile}
use Rattle.file_check.specs.Fronts.{BottomsAscend, IsFrontAt}
use Rattle.file_check.proofs.FaultLemmas.{IsPartOf, no_fault, a_fault, nothing_below, nothing_above, agrees_at_first, covers_all}

-- before the first window all shots come later
pub first_front : (shots sorted meeting later : List Trapezoid) (y : ℤ) → meeting ≡ [] → later ≡ sorted
    → ((t : Tile) → count_in sorted t ≡ count_in shots t) → BottomsAscend sorted → IsFrontAt shots y meeting later
first_front shots sorted meeting later y none is counts ascend =
    record { ascend = rw is ascend; counts = λ t le. (let n = counts t in rw (none, is) (omega (arith, n))) }

-- a band of a deck may be asked for
pub is_band : (window : RowRange) (rows : ℤ) → neg_ℤ (pos 4294967296) ≤ℤ window.y0 → window.y0 ≤ℤ pos 4294967296
    → window.y1 ≡ window.y0 +ℤ rows → pos 1024 ≤ℤ rows → rows ≤ℤ pos 16777216 → IsAskedBand window
is_band window rows low high height some few = record {
  is_band = record {
    low = record { low = omega (arith, ints, low); high = omega (arith, ints, high) };
    high = record { low = omega (arith, ints, low, height, some); high = omega (arith, ints, high, height, few) };
    has_rows = omega (arith, ints, height, some);
  };
  few = omega (arith, ints, height, few);
}

-- and so may what is left of it
pub is_rest : (band rest : RowRange) → IsAskedBand band → band.y0 ≤ℤ rest.y0 → rest.y0 <ℤ rest.y1 → rest.y1 ≡ band.y1 → IsAskedBand rest
is_rest band rest asked from some top =
    let low = asked.is_band.low in
    let high = asked.is_band.high in
    let few = asked.few in
    record {
      is_band = record {
        low = record { low = omega (arith, ints, low.low, from); high = omega (arith, ints, high.high, some, top) };
        high = record { low = omega (arith, ints, high.low, top); high = omega (arith, ints, high.high, top) };
        has_rows = some;
      };
      few = omega (arith, ints, few, from, top);
    }

pub fewer_rows : (a b : ℤ) → a <ℤ b → pos 0 <ℤ b → rows_up a < rows_up b
fewer_rows (pos m) (pos n) lt some = omega (arith, ints, lt)
fewer_rows (negsuc m) (pos n) lt some = omega (arith, ints, some)
fewer_rows (pos m) (negsuc n) lt some = absurd (omega (arith, ints, some))
fewer_rows (negsuc m) (negsuc n) lt some = absurd (omega (arith, ints, some))

module _ (p : Planned) (k : ℕ) (shots : List Trapezoid) where
  -- the trapezoids of a band
  pub part_of_band : (window : RowRange) (traps : List Trapezoid)
      → CoversExactly traps (IsInBand p.cells p.top p.deck k window) → IsPartOf (planned_area p k) shots window traps
  part_of_band window traps covers t at = record {
    once = λ has. covers.once t (record { rows = record { from = at.from; below = at.below }; area = has });
    never = λ none. covers.never t (λ inside. none inside.area);
  }

  module _ (rows : RowRange) (inside : (t : Tile) → planned_area p k t → ops.IsInRows rows t) where
    inside_rows : (t : Tile) → planned_area p k t → IsInRows rows t
    inside_rows t has = let at = inside t has in record { from = at.from; below = at.below }

    module _ (window : RowRange) (bottom : ℤ) (is : window ≡ row_range (neg_ℤ (pos (2 ^ 44))) bottom)
        (under : bottom ≤ℤ rows.y0) (low : neg_ℤ (pos 2147483648) ≤ℤ rows.y0) (are : All IsShot shots) where
      first_agrees : AgreesBelow (planned_area p k) shots window.y0
      first_agrees = rw is (agrees_at_first (planned_area p k) shots rows inside_rows are low)

      first_part : IsPartOf (planned_area p k) shots window []
      first_part = nothing_below (planned_area p k) shots rows inside_rows window (rw is under)

      pub first_fault : (t : Tile) (count wanted : ℕ) → checked.IsFirstWrongTileInRows shots [] window t count wanted → IsFirstWrongTile (planned_area p k) shots t count wanted
      first_fault t count wanted h = a_fault (planned_area p k) shots window.y0 window [] first_agrees refl first_part t count wanted h

      pub first_none : CoversAlike shots [] window → AgreesBelow (planned_area p k) shots window.y1
      first_none alike = no_fault (planned_area p k) shots window.y0 window [] first_agrees refl first_part alike

    module _ (window : RowRange) (bottom : ℤ) (is : window ≡ row_range bottom (pos (2 ^ 44)))
        (over : rows.y1 ≤ℤ bottom) (high : rows.y1 ≤ℤ pos 2147483648) (are : All IsShot shots)
        (below : AgreesBelow (planned_area p k) shots bottom) where
      last_agrees : AgreesBelow (planned_area p k) shots window.y0
      last_agrees = rw is below

      last_part : IsPartOf (planned_area p k) shots window []
      last_part = nothing_above (planned_area p k) shots rows inside_rows window (rw is over)

      pub last_fault : (t : Tile) (count wanted : ℕ) → checked.IsFirstWrongTileInRows shots [] window t count wanted → IsFirstWrongTile (planned_area p k) shots t count wanted
      last_fault t count wanted h = a_fault (planned_area p k) shots window.y0 window [] last_agrees refl last_part t count wanted h

      pub last_none : CoversAlike shots [] window → CoversExactly shots (planned_area p k)
      last_none alike =
          let all : AgreesBelow (planned_area p k) shots window.y1 = no_fault (planned_area p k) shots window.y0 window [] last_agrees refl last_part alike in
          covers_all (planned_area p k) shots rows inside_rows are high (rw is at all)

  pub band_fault : (window : RowRange) (traps : List Trapezoid) → AgreesBelow (planned_area p k) shots window.y0
      → CoversExactly traps (IsInBand p.cells p.top p.deck k window)
      → (t : Tile) (count wanted : ℕ) → checked.IsFirstWrongTileInRows shots traps window t count wanted → IsFirstWrongTile (planned_area p k) shots t count wanted
  band_fault window traps below covers t count wanted h = a_fault (planned_area p k) shots window.y0 window traps below refl
      (part_of_band window traps covers) t count wanted h

  pub band_none : (window : RowRange) (traps : List Trapezoid) → AgreesBelow (planned_area p k) shots window.y0
      → CoversExactly traps (IsInBand p.cells p.top p.deck k window)
      → CoversAlike shots traps window → AgreesBelow (planned_area p k) shots window.y1
  band_none window traps below covers alike = no_fault (planned_area p k) shots window.y0 window traps below refl (part_of_band window traps covers) alike
