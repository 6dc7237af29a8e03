-- The rows of the definitions, from the first one up.
use Rattle.std.proofs.Common.{◌≡◌, ◌⊎◌, inl, inr, ℕ, zero, suc, ◌+◌, ◌^◌, ◌<◌, ◌≤◌, ℤ, pos, ◌≤ℤ◌, Bool, true, false}
use Rattle.std.proofs.Common.{int_le, if◌then◌else◌, List, Option, Some, None, IfSome, IsSomeAnd, SomeIff, length, set}
use Rattle.std.proofs.Common.{replicate, get_or, slice_get, refl, sym, ap, subst, ◌∙◌, arith}
use Rattle.std.proofs.lemmas.Int.{ints, clamps, by_lt_z}
use Rattle.std.specs.Int.{int_min, int_max}
use Rattle.half_grid.specs.Nearness.{IsNear}
use Rattle.half_grid.specs.Windows.{RowRange, row_range, IsWindow}
use Rattle.half_grid.specs.declared.plane.Tile.{Tile}
use Rattle.half_grid.specs.declared.extent.Frame.{Frame}
use Rattle.half_grid.proofs.ForCallers.{le_yes, le_no}
use Rattle.tone_mirror.specs.Frames.{IsInFrame}
use Rattle.tone_mirror.specs.Mirrors.{mirrored_tile}
use Rattle.layout_model.specs.declared.pair.Pair.{Pair}
use Rattle.layout_model.specs.declared.cells.Cell.{Cell}
use Rattle.bool_ops.specs.Operations.{IsInRows}
use Rattle.deck_text.specs.declared.deck.Step.{Step}
use Rattle.deck_text.specs.declared.deck.Step.TheVariants.{Layer, Or, And, Sub, Xor, Grow, Shrink, Invert, Mirror}
use Rattle.deck_text.specs.declared.deck.Deck.{Deck}
use Rattle.deck_text.specs.Sound.{IsSoundStep, IsFrame}
use Rattle.deck_plan.specs.Areas.{IsInStep, IsInArea}
use Rattle.deck_plan.specs.Extents.{IsInRowsOf, IsRowsUpTo, rows_bound, either_rows, shared_rows, both_rows, wider_rows, option_rows, AreRowsOf, AreExtents}
use Rattle.deck_plan.proofs.Slots.{get_cases, get_alike, set_length, alike_length}
use Rattle.deck_plan.proofs.Sizes.{near_itself}
use Rattle.deck_plan.proofs.StepLemmas.{area_step}

-- ---- rows that a tile is in

left_in : (a b : Option RowRange) (t : Tile) → IsInRowsOf a t → IsInRowsOf (either_rows a b) t
left_in None b t h = absurd h
left_in (Some a) None t h = h
left_in (Some a) (Some b) t h = record { from = omega (arith, ints, clamps, h.from); below = omega (arith, ints, clamps, h.below) }

right_in : (a b : Option RowRange) (t : Tile) → IsInRowsOf b t → IsInRowsOf (either_rows a b) t
right_in None b t h = h
right_in (Some a) None t h = absurd h
right_in (Some a) (Some b) t h = record { from = omega (arith, ints, clamps, h.from); below = omega (arith, ints, clamps, h.below) }

rows_if : (low high : ℤ) (rows : Option RowRange) → SomeIff rows (IsWindow (row_range low high)) (row_range low high)
    → rows ≡ (if int_le low high then Some (row_range low high) else None)
rows_if low high None h = by_lt_z high low (λ less. rw (le_no low high less) refl) (λ up. absurd (h up))
rows_if low high (Some w) h = rw (le_yes low high h.0) (ap Some h.1)

pub shared_is : (a b : RowRange) (low high : ℤ) (rows : Option RowRange) → low ≡ int_max a.y0 b.y0
    → high ≡ int_min a.y1 b.y1 → SomeIff rows (IsWindow (row_range low high)) (row_range low high)
    → rows ≡ shared_rows a b
shared_is a b low high rows start end h = rows_if low high rows h ∙ rw (start, end) refl

shared_in : (a b : RowRange) (t : Tile) → IsInRows a t → IsInRows b t → IsInRowsOf (shared_rows a b) t
shared_in a b t h k = rw (le_yes (int_max a.y0 b.y0) (int_min a.y1 b.y1) (omega (arith, ints, clamps, h.from, h.below, k.from, k.below)))
    (record { from = omega (arith, ints, clamps, h.from, k.from); below = omega (arith, ints, clamps, h.below, k.below) })

both_in : (a b : Option RowRange) (t : Tile) → IsInRowsOf a t → IsInRowsOf b t → IsInRowsOf (both_rows a b) t
both_in None b t h k = absurd h
both_in (Some a) None t h k = absurd k
both_in (Some a) (Some b) t h k = shared_in a b t h k

frame_in : (frame : Option Frame) (t : Tile) → IsSomeAnd frame (λ frame. IsInFrame frame t) → IsInRowsOf (option_rows frame) t
frame_in None t h = absurd h
frame_in (Some frame) t h = rw (le_yes frame.y0 frame.y1 (omega (arith, ints, h.above_bottom, h.below_top)))
    (record { from = h.above_bottom; below = h.below_top })

abbrev is_layer : Step → Bool
is_layer (Layer pair) = true
is_layer (Or a b) = false
is_layer (And a b) = false
is_layer (Sub a b) = false
is_layer (Xor a b) = false
is_layer (Grow a dx dy) = false
is_layer (Shrink a dx dy) = false
is_layer (Invert a) = false
is_layer (Mirror a m) = false

no_layer : (step : Step) → is_layer step ≡ false → (pair : Pair) → step ≡ Layer pair → ⊥
no_layer step no_one pair e = let same : true ≡ false = sym (ap is_layer e) ∙ no_one in grind (arith, same)

abbrev Near : ℕ → Option RowRange → Type 0
Near n rows = IfSome rows (IsRowsUpTo (rows_bound n))

near_more : (a n : ℕ) (rows : Option RowRange) → a < n → Near a rows → Near n rows
near_more a n None earlier h = tt
near_more a n (Some w) earlier h = record {
  low = record { low = omega (arith, ints, earlier, h.low.low); high = omega (arith, ints, earlier, h.low.high) };
  high = record { low = omega (arith, ints, earlier, h.high.low); high = omega (arith, ints, earlier, h.high.high) };
}

near_either : (n : ℕ) (a b : Option RowRange) → Near n a → Near n b → Near n (either_rows a b)
near_either n None b h k = k
near_either n (Some a) None h k = h
near_either n (Some a) (Some b) h k = record {
  low = record { low = omega (arith, ints, clamps, h.low.low, k.low.low); high = omega (arith, ints, clamps, h.low.high, k.low.high) };
  high = record { low = omega (arith, ints, clamps, h.high.low, k.high.low); high = omega (arith, ints, clamps, h.high.high, k.high.high) };
}

near_wider : (a n : ℕ) (by : ℤ) (rows : Option RowRange) → a < n → pos 0 ≤ℤ by → by ≤ℤ pos 65536 → Near a rows → Near n (wider_rows by rows)
near_wider a n by None earlier low high h = tt
near_wider a n by (Some w) earlier low high h = record {
  low = record { low = omega (arith, ints, earlier, high, h.low.low); high = omega (arith, ints, earlier, low, h.low.high) };
  high = record { low = omega (arith, ints, earlier, low, h.high.low); high = omega (arith, ints, earlier, high, h.high.high) };
}

near_if : (n : ℕ) (b : Bool) (window : RowRange) → IsRowsUpTo (rows_bound n) window → Near n (if b then Some window else None)
near_if n true window h = h
near_if n false window h = tt

near_shared : (n : ℕ) (a b : RowRange) → IsRowsUpTo (rows_bound n) a → IsRowsUpTo (rows_bound n) b → Near n (shared_rows a b)
near_shared n a b h k = near_if n (int_le (int_max a.y0 b.y0) (int_min a.y1 b.y1)) (row_range (int_max a.y0 b.y0) (int_min a.y1 b.y1)) (record {
  low = record { low = omega (arith, ints, clamps, h.low.low, k.low.low); high = omega (arith, ints, clamps, h.low.high, k.low.high) };
  high = record { low = omega (arith, ints, clamps, h.high.low, k.high.low); high = omega (arith, ints, clamps, h.high.high, k.high.high) };
})

near_both : (n : ℕ) (a b : Option RowRange) → Near n a → Near n b → Near n (both_rows a b)
near_both n None b h k = tt
near_both n (Some a) None h k = tt
near_both n (Some a) (Some b) h k = near_shared n a b h k

near_frame : (n : ℕ) (frame : Option Frame) → IfSome frame IsFrame → Near n (option_rows frame)
near_frame n None h = tt
near_frame n (Some frame) h = near_if n (int_le frame.y0 frame.y1) (row_range frame.y0 frame.y1) (record {
  low = record { low = omega (arith, ints, h.y0.low); high = omega (arith, ints, h.y0.high) };
  high = record { low = omega (arith, ints, h.y1.low); high = omega (arith, ints, h.y1.high) };
})

near_layer : (n : ℕ) (rows : Option RowRange) → IfSome rows (IsRowsUpTo (2 ^ 30)) → Near n rows
near_layer n None h = tt
near_layer n (Some w) h = record {
  low = record { low = omega (arith, ints, h.low.low); high = omega (arith, ints, h.low.high) };
  high = record { low = omega (arith, ints, h.high.low); high = omega (arith, ints, h.high.high) };
}

-- ---- one step

module _ (cells : List Cell) (top : ℕ) (frame : Option Frame) (area : ℕ → Tile → Type 0)
    (rows : List (Option RowRange)) (n : ℕ)
    (known : (a : ℕ) → a < n → (t : Tile) → area a t → IsInRowsOf (get_or rows a None) t) where
  widen_in : (window : Option RowRange) (dx dy : ℤ) (t u : Tile) → IsNear dx dy t u → IsInRowsOf window u → IsInRowsOf (wider_rows dy window) t
  widen_in None dx dy t u near h = absurd h
  widen_in (Some w) dx dy t u near h =
      record {
        from = omega (arith, ints, h.from, near.rows.above, near.rows.below);
        below = omega
            (arith, ints, h.below, near.rows.above, near.rows.below);
      }

  mirror_in : (window : Option RowRange) (t u : Tile) → t.j ≡ u.j → IsInRowsOf window u → IsInRowsOf window t
  mirror_in None t u e h = absurd h
  mirror_in (Some w) t u e h = record { from = omega (arith, ints, h.from, e); below = omega (arith, ints, h.below, e) }

  derived_in : (step : Step) (result : Option RowRange) → IsSoundStep frame n step
      → AreRowsOf cells top frame rows step result → (t : Tile) → IsInStep cells top frame area step t
      → IsInRowsOf result t
  derived_in (Layer pair) result s r t h = (r.layer pair refl).outside t h
  derived_in (Or a b) result s r t (inl h) = rw (r.derived (no_layer (Or a b) refl)) (left_in (get_or rows a None) (get_or rows b None) t (known a s.0 t h))
  derived_in (Or a b) result s r t (inr h) = rw (r.derived (no_layer (Or a b) refl)) (right_in (get_or rows a None) (get_or rows b None) t (known b s.1 t h))
  derived_in (And a b) result s r t h = rw (r.derived (no_layer (And a b) refl))
      (both_in (get_or rows a None) (get_or rows b None) t (known a s.0 t h.0) (known b s.1 t h.1))
  derived_in (Sub a b) result s r t h = rw (r.derived (no_layer (Sub a b) refl)) (known a s.0 t h.0)
  derived_in (Xor a b) result s r t (inl h) = rw (r.derived (no_layer (Xor a b) refl)) (left_in (get_or rows a None) (get_or rows b None) t (known a s.0 t h.0))
  derived_in (Xor a b) result s r t (inr h) = rw (r.derived (no_layer (Xor a b) refl))
      (right_in (get_or rows a None) (get_or rows b None) t (known b s.1 t h.1))
  derived_in (Grow a dx dy) result s r t h = rw (r.derived (no_layer (Grow a dx dy) refl)) (widen_in (get_or rows a None) dx dy t h.0 h.2 (known a s.0 h.0 h.1))
  derived_in (Shrink a dx dy) result s r t h = rw (r.derived (no_layer (Shrink a dx dy) refl))
      (known a s.0 t (h t (near_itself dx dy (record { columns = s.1.dx_low; rows = s.1.dy_low; even = s.1.even }) t)))
  derived_in (Invert a) result s r t h = rw (r.derived (no_layer (Invert a) refl)) (frame_in frame t h.0)
  derived_in (Mirror a m) result s r t h = rw (r.derived (no_layer (Mirror a m) refl))
      (mirror_in (get_or rows a None) t (mirrored_tile m t) refl (known a s.0 (mirrored_tile m t) h))

derived_near : (cells : List Cell) (top : ℕ) (frame : Option Frame) → IfSome frame IsFrame
    → (rows : List (Option RowRange)) (n : ℕ) → ((a : ℕ) → Near a (get_or rows a None))
    → (step : Step) (result : Option RowRange) → IsSoundStep frame n step
    → AreRowsOf cells top frame rows step result → Near n result
derived_near cells top frame f rows n near (Layer pair) result s r = near_layer n result (r.layer pair refl).near
derived_near cells top frame f rows n near (Or a b) result s r = rw (r.derived (no_layer (Or a b) refl))
    (near_either n (get_or rows a None) (get_or rows b None) (near_more a n _ s.0 (near a))
    (near_more b n _ s.1 (near b)))
derived_near cells top frame f rows n near (And a b) result s r = rw (r.derived (no_layer (And a b) refl))
    (near_both n (get_or rows a None) (get_or rows b None) (near_more a n _ s.0 (near a))
    (near_more b n _ s.1 (near b)))
derived_near cells top frame f rows n near (Sub a b) result s r = rw (r.derived (no_layer (Sub a b) refl)) (near_more a n _ s.0 (near a))
derived_near cells top frame f rows n near (Xor a b) result s r = rw (r.derived (no_layer (Xor a b) refl))
    (near_either n (get_or rows a None) (get_or rows b None) (near_more a n _ s.0 (near a))
    (near_more b n _ s.1 (near b)))
derived_near cells top frame f rows n near (Grow a dx dy) result s r = rw (r.derived (no_layer (Grow a dx dy) refl))
    (near_wider a n dy (get_or rows a None) s.0 s.1.dy_low s.1.dy_high (near a))
derived_near cells top frame f rows n near (Shrink a dx dy) result s r = rw (r.derived (no_layer (Shrink a dx dy) refl)) (near_more a n _ s.0 (near a))
derived_near cells top frame f rows n near (Invert a) result s r = rw (r.derived (no_layer (Invert a) refl)) (near_frame n frame f)
derived_near cells top frame f rows n near (Mirror a m) result s r = rw (r.derived (no_layer (Mirror a m) refl)) (near_more a n _ s.0 (near a))

-- ---- all

less : (m n : ℕ) → m < n + 1 → (m ≡ n → ⊥) → m < n
less zero zero early apart = absurd (apart refl)
less zero (suc n) early apart = omega arith
less (suc m) zero early apart = absurd (omega (arith, early))
less (suc m) (suc n) early apart = let h = less m n (omega (arith, early)) (λ e. apart (ap suc e)) in omega (arith, h)

module _ (cells : List Cell) (top : ℕ) (deck : Deck)
    (sound : (k : ℕ) (step : Step) → slice_get deck.steps k ≡ Some step → IsSoundStep deck.frame k step)
    (frames : IfSome deck.frame IsFrame) where
  pub extents_begin : AreExtents cells top deck 0 (replicate 256 None)
  extents_begin = record {
    long = alike_length {A = Option RowRange} 256 None;
    outside = λ n early. absurd (omega (arith, early));
    near = λ n. subst (λ rows. IfSome rows (IsRowsUpTo (rows_bound n))) (sym (get_alike {A = Option RowRange} 256 None n)) tt;
    unknown = λ n late. get_alike {A = Option RowRange} 256 None n;
  }

  pub extents_more : (n : ℕ) (rows : List (Option RowRange)) (step : Step) (result : Option RowRange)
      → AreExtents cells top deck n rows → n < 256 → slice_get deck.steps n ≡ Some step
      → AreRowsOf cells top deck.frame rows step result
      → AreExtents cells top deck (n + 1) (set rows n result)
  extents_more n rows step result h few here r =
      let within : n < length rows = omega (arith, few, h.long) in
      let s = sound n step here in
      record {
        long = set_length rows n result ∙ h.long;
        outside = λ m early t a. elim (get_cases rows n result None m within) [
          | inl e ↦ subst (λ w. IsInRowsOf w t) (sym e.1)
              (derived_in cells top deck.frame (IsInArea cells top deck) rows n h.outside step result s r t
              ((area_step cells top deck sound n step here t).0 (subst (λ k. IsInArea cells top deck k t) e.0 a)))
          | inr e ↦ subst (λ w. IsInRowsOf w t) (sym e.1) (h.outside m (less m n early e.0) t a)
        ];
        near = λ m. elim (get_cases rows n result None m within) [
          | inl e ↦ subst (λ w. IfSome w (IsRowsUpTo (rows_bound m))) (sym e.1)
              (subst (λ k. IfSome result (IsRowsUpTo (rows_bound k))) (sym e.0)
              (derived_near cells top deck.frame frames rows n h.near step result s r))
          | inr e ↦ subst (λ w. IfSome w (IsRowsUpTo (rows_bound m))) (sym e.1) (h.near m)
        ];
        unknown = λ m late. elim
            (get_cases rows n result None m within) [
              | inl e ↦ absurd (omega (arith, late, e.0))
              | inr e ↦
                  e.1 ∙ h.unknown m (omega (arith, late))
            ];
      }

below : (n count : ℕ) → (n < count) ⊎ (count ≤ n)
below zero zero = inr (omega arith)
below zero (suc count) = inl (omega arith)
below (suc n) zero = inr (omega arith)
below (suc n) (suc count) = elim (below n count) [ inl h ↦ inl (omega (arith, h)) | inr h ↦ inr (omega (arith, h)) ]

near_known : (rows : Option RowRange) (n : ℕ) → n < 256 → Near n rows → IfSome rows (IsRowsUpTo (2 ^ 31))
near_known None n few h = tt
near_known (Some w) n few h = record {
  low = record { low = omega (arith, ints, few, h.low.low); high = omega (arith, ints, few, h.low.high) };
  high = record { low = omega (arith, ints, few, h.high.low); high = omega (arith, ints, few, h.high.high) };
}

-- the rows of all definitions
pub near_any : (cells : List Cell) (top : ℕ) (deck : Deck) (count : ℕ) (rows : List (Option RowRange))
    → AreExtents cells top deck count rows → count ≤ 256 → (n : ℕ) → IfSome (get_or rows n None) (IsRowsUpTo (2 ^ 31))
near_any cells top deck count rows h few n =
    elim (below n count) [
      | inl early ↦ near_known (get_or rows n None) n (omega (arith, early, few)) (h.near n)
      | inr late ↦ subst (λ w. IfSome w (IsRowsUpTo (2 ^ 31))) (sym (h.unknown n late)) tt
    ]
