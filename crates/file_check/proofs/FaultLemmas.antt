-- Faults window by window, from below.
use Rattle.std.proofs.Common.{Option, Some, None, IfNone, Result, Ok, Err, OnOk, ◌≡◌, ◌≢◌, ℕ, ℤ, pos, neg_ℤ, ◌^◌, ◌≤ℤ◌}
use Rattle.std.proofs.Common.{◌<ℤ◌, refl, sym, ◌∙◌, List, [], All, arith}
use Rattle.std.proofs.lemmas.Int.{ints, by_lt_z}
use Rattle.std.proofs.lemmas.List.Elements.{All-weaker}
use mathlib.Core.Logic.{inl}
use Rattle.half_grid.specs.Trapezoids.{Trapezoid, IsShot, CoversExactly, count_in}
use Rattle.half_grid.specs.Windows.{RowRange}
use Rattle.half_grid.specs.declared.plane.Tile.{Tile}
use Rattle.shot_checker.specs.Verdicts.{IsInRows, CoversAlike}
use Rattle.shot_checker.specs.Verdicts as checked
use Rattle.file_check.proofs.Passing.{none_before, none_beyond}
use Rattle.file_check.specs.Certificates.{IsWantedCount, AgreesBelow, IsFirstWrongTile}

-- a fault of those that meet the window is one of all shots
pub fault_of_all : (shots now area : List Trapezoid) (window : RowRange) → ((t : Tile) → IsInRows window t → count_in now t ≡ count_in shots t)
    → (t : Tile) (count wanted : ℕ) → checked.IsFirstWrongTileInRows now area window t count wanted → checked.IsFirstWrongTileInRows shots area window t count wanted
fault_of_all shots now area window same t count wanted h =
    let rows = h.tile.miscovered.rows in
    record {
      tile = record {
        miscovered = record { rows = rows; differ = λ e. h.tile.miscovered.differ (same t rows ∙ e) };
        first = λ u mis. h.tile.first u (record { rows = mis.rows; differ = λ e. mis.differ (sym (same u mis.rows) ∙ e) });
      };
      count_is = h.count_is ∙ same t rows;
      wanted_is = h.wanted_is;
    }

pub alike_for_all : (shots now area : List Trapezoid) (window : RowRange) → ((t : Tile) → IsInRows window t → count_in now t ≡ count_in shots t)
    → CoversAlike now area window → CoversAlike shots area window
alike_for_all shots now area window same h t rows = sym (same t rows) ∙ h t rows

-- ---- below a Y all tiles are in as many shots as they should be

pub two_wanted : (area : Tile → Type 0) (t : Tile) (m n : ℕ) → IsWantedCount area t m → IsWantedCount area t n → m ≢ n → ⊥
two_wanted area t m n a b differ =
    let none : area t → ⊥ = λ at. differ (a.once at ∙ sym (b.once at)) in
    differ (a.never none ∙ sym (b.never none))

module _ (area : Tile → Type 0) (shots : List Trapezoid) where
  -- each tile of the window is in as many of the trapezoids as it should be
  abbrev pub IsPartOf : RowRange → List Trapezoid → Type 0
  IsPartOf window traps = (t : Tile) → IsInRows window t → IsWantedCount area t (count_in traps t)

  pub no_fault : (y : ℤ) (window : RowRange) (traps : List Trapezoid) → AgreesBelow area shots y → window.y0 ≡ y
      → IsPartOf window traps → CoversAlike shots traps window → AgreesBelow area shots window.y1
  no_fault y window traps below at part alike t lt =
      by_lt_z t.j window.y0
      (λ under. below t (rw (← at) under))
      (λ over. (let rows : IsInRows window t = record { from = over; below = lt } in rw (alike t rows) (part t rows)))

  pub a_fault : (y : ℤ) (window : RowRange) (traps : List Trapezoid) → AgreesBelow area shots y → window.y0 ≡ y → IsPartOf window traps
      → (t : Tile) (count wanted : ℕ) → checked.IsFirstWrongTileInRows shots traps window t count wanted → IsFirstWrongTile area shots t count wanted
  a_fault y window traps below at part t count wanted h =
      let rows = h.tile.miscovered.rows in
      let top = rows.below in
      record {
        miscovered = λ as_wanted. two_wanted area t (count_in shots t) (count_in traps t) as_wanted (part t rows) h.tile.miscovered.differ;
        first = λ u mis.
            by_lt_z u.j window.y0
            (λ under. absurd (mis (below u (rw (← at) under))))
            (λ over. by_lt_z u.j window.y1
            (λ lt. (let inside : IsInRows window u = record { from = over; below = lt } in
            h.tile.first u (record { rows = inside; differ = λ e. mis (rw e (part u inside)) })))
            (λ ge. inl (omega (arith, ints, top, ge))));
        count_is = h.count_is;
        wanted_is = rw h.wanted_is (part t rows);
      }

  module _ (rows : RowRange) (inside : (t : Tile) → area t → IsInRows rows t) where
    pub nothing_below : (window : RowRange) → window.y1 ≤ℤ rows.y0 → IsPartOf window []
    nothing_below window le t at = record {
      once = λ has. (let from = (inside t has).from in let below = at.below in absurd (omega (arith, ints, from, below, le)));
      never = λ none. refl;
    }

    pub nothing_above : (window : RowRange) → rows.y1 ≤ℤ window.y0 → IsPartOf window []
    nothing_above window le t at = record {
      once = λ has. (let below = (inside t has).below in let from = at.from in absurd (omega (arith, ints, from, below, le)));
      never = λ none. refl;
    }

    none_under : (t : Tile) (zs : List Trapezoid) → All IsShot zs → t.j <ℤ neg_ℤ (pos (2 ^ 44)) → count_in zs t ≡ 0
    none_under t zs h lt = none_before (neg_ℤ (pos (2 ^ 44))) zs t (All-weaker IsShot (λ z. neg_ℤ (pos (2 ^ 44)) ≤ℤ z.y0) (λ z s. s.reach.y0.low) zs h) lt

    none_over : (t : Tile) (zs : List Trapezoid) → All IsShot zs → pos (2 ^ 44) ≤ℤ t.j → count_in zs t ≡ 0
    none_over t zs h le = none_beyond (pos (2 ^ 44)) zs t (All-weaker IsShot (λ z. z.y1 ≤ℤ pos (2 ^ 44)) (λ z s. s.reach.y1.high) zs h) le

    pub agrees_at_first : All IsShot shots → neg_ℤ (pos 2147483648) ≤ℤ rows.y0 → AgreesBelow area shots (neg_ℤ (pos (2 ^ 44)))
    agrees_at_first h low t lt = record {
      once = λ has. (let from = (inside t has).from in absurd (omega (arith, ints, from, low, lt)));
      never = λ none. none_under t shots h lt;
    }

    pub covers_all : All IsShot shots → rows.y1 ≤ℤ pos 2147483648 → AgreesBelow area shots (pos (2 ^ 44)) → CoversExactly shots area
    covers_all h high below =
        let wanted : (t : Tile) → IsWantedCount area t (count_in shots t) = λ t.
        by_lt_z t.j (pos (2 ^ 44)) (below t)
        (λ ge. record {
          once = λ has. (let under = (inside t has).below in absurd (omega (arith, ints, under, high, ge)));
          never = λ none. none_over t shots h ge;
        }) in
        record { once = λ t has. (wanted t).once has; never = λ t none. (wanted t).never none }

pub none_weaker : {X : Type 0} {P Q : Type 0} (r : Option X) → (P → Q) → IfNone r P → IfNone r Q
none_weaker (Some x) f h = h
none_weaker None f h = f h

pub always_ok : {X E P : Type 0} (r : Result X E) → P → OnOk r P
always_ok (Ok x) h = h
always_ok (Err e) h = tt
