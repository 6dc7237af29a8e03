-- The area of a step depends on the areas of its operands alone, in the rows that it takes of them; and the area of a
-- definition is that of its step.
use Rattle.std.proofs.Common.{◌≡◌, ◌⊎◌, inl, inr, ℕ, zero, suc, ◌^◌, ◌<◌, ℤ, pos, ◌+ℤ◌}
use Rattle.std.proofs.Common.{List, [], ◌∷◌, length, slice_get, Option, Some, None, IsSomeAnd, Contains}
use Rattle.std.proofs.Common.{IfSome, refl, sym, subst, arith}
use Rattle.std.proofs.lemmas.Int.{ints}
use Rattle.std.proofs.lemmas.Option.{slice_get_within}
use Rattle.half_grid.specs.Nearness.{IsNear}
use Rattle.half_grid.specs.Trapezoids.{Trapezoid}
use Rattle.half_grid.specs.Windows.{RowRange, row_range}
use Rattle.half_grid.specs.declared.plane.Tile.{Tile}
use Rattle.half_grid.specs.declared.extent.Frame.{Frame}
use Rattle.square_size.specs.Ranges.{IsRectangle}
use Rattle.tone_mirror.specs.Frames.{IsInFrame}
use Rattle.tone_mirror.specs.Mirrors.{mirrored_tile}
use Rattle.layout_model.specs.declared.pair.Pair.{Pair}
use Rattle.layout_model.specs.declared.cells.Cell.{Cell}
use Rattle.cell_tree.specs.Flattening.{IsInLayer}
use Rattle.bool_ops.specs.Operations.{IsInRows}
use Rattle.deck_text.specs.declared.deck.Step.{Step}
use Rattle.deck_text.specs.declared.deck.Step.TheVariants.{Layer, Or, And, Sub, Xor, Grow, Shrink, Invert, Mirror}
use Rattle.deck_text.specs.declared.deck.Deck.{Deck}
use Rattle.deck_text.specs.Sound.{IsSoundStep, AreSides, IsFrame, IsDeckCoordinate as IsNearLine}
use Rattle.deck_plan.specs.Areas.{IsInStep, area_over, IsInArea}
use Rattle.deck_plan.specs.declared.needs.Taken.{Taken}
use Rattle.deck_plan.specs.Needs.{taken, operands_of, widened}
use Rattle.deck_plan.specs.Halos.{IsSoundOperand}
use Rattle.deck_plan.specs.Lists.{HasArea, IsListed}
use Rattle.deck_plan.specs.Bounds.{IsTileUpTo, bound_of}
use Rattle.deck_plan.proofs.AreaLists.{same_area}
use Rattle.deck_plan.proofs.Sizes.{near_rows, near_itself}

-- ---- the operands of a step

one_of : {X : Type 0} (x y : X) → Contains (x ∷ []) y → y ≡ x
one_of x y (zero, inside, is) = sym is
one_of x y (suc k, inside, is) = absurd (omega (arith, inside))

two_of : {X : Type 0} (x y z : X) → Contains (x ∷ y ∷ []) z → (z ≡ x) ⊎ (z ≡ y)
two_of x y z (zero, inside, is) = inl (sym is)
two_of x y z (suc zero, inside, is) = inr (sym is)
two_of x y z (suc (suc k), inside, is) = absurd (omega (arith, inside))

pub only_of : (x : Taken) → Contains (x ∷ []) x
only_of x = (0, omega arith, refl)

pub first_of : (x y : Taken) → Contains (x ∷ y ∷ []) x
first_of x y = (0, omega arith, refl)

pub second_of : (x y : Taken) → Contains (x ∷ y ∷ []) y
second_of x y = (1, omega arith, refl)

none_of : {X : Type 0} (x : X) → Contains [] x → ⊥
none_of x (k, inside, is) = omega (arith, inside)

level_operand : (n a : ℕ) (operand : Taken) → a < n → operand ≡ taken a (pos 0) → IsSoundOperand n operand
level_operand n a operand h is = rw is (record { earlier = h; low = omega (arith, ints); high = omega (arith, ints) })

either_operand : (n a b : ℕ) (operand : Taken) → a < n → b < n → (operand ≡ taken a (pos 0)) ⊎ (operand ≡ taken b (pos 0)) → IsSoundOperand n operand
either_operand n a b operand h k (inl is) = level_operand n a operand h is
either_operand n a b operand h k (inr is) = level_operand n b operand k is

sized_operand : (n a : ℕ) (dx dy : ℤ) (operand : Taken) → a < n → AreSides dx dy → operand ≡ taken a dy → IsSoundOperand n operand
sized_operand n a dx dy operand h s is = rw is (record { earlier = h; low = s.dy_low; high = s.dy_high })

pub sound_operand : (frame : Option Frame) (n : ℕ) (step : Step) (operand : Taken) → IsSoundStep frame n step
    → Contains (operands_of step) operand → IsSoundOperand n operand
sound_operand frame n (Layer pair) operand sound among = absurd (none_of operand among)
sound_operand frame n (Or a b) operand sound among = either_operand n a b operand sound.0 sound.1 (two_of (taken a (pos 0)) (taken b (pos 0)) operand among)
sound_operand frame n (And a b) operand sound among = either_operand n a b operand sound.0 sound.1 (two_of (taken a (pos 0)) (taken b (pos 0)) operand among)
sound_operand frame n (Sub a b) operand sound among = either_operand n a b operand sound.0 sound.1 (two_of (taken a (pos 0)) (taken b (pos 0)) operand among)
sound_operand frame n (Xor a b) operand sound among = either_operand n a b operand sound.0 sound.1 (two_of (taken a (pos 0)) (taken b (pos 0)) operand among)
sound_operand frame n (Grow a dx dy) operand sound among = sized_operand n a dx dy operand sound.0 sound.1 (one_of (taken a dy) operand among)
sound_operand frame n (Shrink a dx dy) operand sound among = sized_operand n a dx dy operand sound.0 sound.1 (one_of (taken a dy) operand among)
sound_operand frame n (Invert a) operand sound among = level_operand n a operand sound.0 (one_of (taken a (pos 0)) operand among)
sound_operand frame n (Mirror a m) operand sound among = level_operand n a operand sound.0 (one_of (taken a (pos 0)) operand among)

-- ---- what a step takes

level_rows : (window : RowRange) (t : Tile) → IsInRows window t → IsInRows (widened (pos 0) window) t
level_rows window t rows = record { from = omega (arith, ints, rows.from); below = omega (arith, ints, rows.below) }

abbrev pub SameIn : (ℕ → Tile → Type 0) → (ℕ → Tile → Type 0) → RowRange → Taken → Type 0
SameIn area other window operand = (u : Tile) → IsInRows (widened operand.halo window) u
    → (area operand.name u → other operand.name u) × (other operand.name u → area operand.name u)

-- two families of areas that agree on the operands, in the rows that the step takes of them
pub step_to : (cells : List Cell) (top : ℕ) (frame : Option Frame) (area other : ℕ → Tile → Type 0) (step : Step)
    (window : RowRange) (t : Tile) → IsInRows window t
    → ((operand : Taken) → Contains (operands_of step) operand → SameIn area other window operand)
    → IsInStep cells top frame area step t → IsInStep cells top frame other step t
step_to cells top frame area other (Layer pair) window t rows same h = h
step_to cells top frame area other (Or a b) window t rows same (inl h) = inl
    ((same (taken a (pos 0)) (first_of (taken a (pos 0)) (taken b (pos 0))) t (level_rows window t rows)).0 h)
step_to cells top frame area other (Or a b) window t rows same (inr h) = inr
    ((same (taken b (pos 0)) (second_of (taken a (pos 0)) (taken b (pos 0))) t (level_rows window t rows)).0 h)
step_to cells top frame area other (And a b) window t rows same (h, k) = (
  (same (taken a (pos 0)) (first_of (taken a (pos 0)) (taken b (pos 0))) t (level_rows window t rows)).0 h,
  (same (taken b (pos 0)) (second_of (taken a (pos 0)) (taken b (pos 0))) t (level_rows window t rows)).0 k,
)
step_to cells top frame area other (Sub a b) window t rows same (h, k) = (
  (same (taken a (pos 0)) (first_of (taken a (pos 0)) (taken b (pos 0))) t (level_rows window t rows)).0 h,
  λ o. k ((same (taken b (pos 0)) (second_of (taken a (pos 0)) (taken b (pos 0))) t (level_rows window t rows)).1 o),
)
step_to cells top frame area other (Xor a b) window t rows same (inl (h, k)) = inl (
  (same (taken a (pos 0)) (first_of (taken a (pos 0)) (taken b (pos 0))) t (level_rows window t rows)).0 h,
  λ o. k ((same (taken b (pos 0)) (second_of (taken a (pos 0)) (taken b (pos 0))) t (level_rows window t rows)).1 o),
)
step_to cells top frame area other (Xor a b) window t rows same (inr (h, k)) = inr (
  λ o. h ((same (taken a (pos 0)) (first_of (taken a (pos 0)) (taken b (pos 0))) t (level_rows window t rows)).1 o),
  (same (taken b (pos 0)) (second_of (taken a (pos 0)) (taken b (pos 0))) t (level_rows window t rows)).0 k,
)
step_to cells top frame area other (Grow a dx dy) window t rows same (u, h, near) =
    (u, (same (taken a dy) (only_of (taken a dy)) u (near_rows dx dy window t u rows near)).0 h, near)
step_to cells top frame area other (Shrink a dx dy) window t rows same h = λ u near.
    (same (taken a dy) (only_of (taken a dy)) u (near_rows dx dy window t u rows near)).0 (h u near)
step_to cells top frame area other (Invert a) window t rows same (h, k) =
    (h, λ o. k ((same (taken a (pos 0)) (only_of (taken a (pos 0))) t (level_rows window t rows)).1 o))
step_to cells top frame area other (Mirror a m) window t rows same h =
    (same (taken a (pos 0)) (only_of (taken a (pos 0))) (mirrored_tile m t)
    (record { from = omega (arith, ints, rows.from); below = omega (arith, ints, rows.below) })).0 h

-- ---- the area of a definition is that of its step

own_row : (t : Tile) → IsInRows (row_range t.j (t.j +ℤ pos 1)) t
own_row t = record { from = omega (arith, ints); below = omega (arith, ints) }

module _ (cells : List Cell) (top : ℕ) (deck : Deck) (sound : (k : ℕ) (step : Step) → slice_get deck.steps k ≡ Some step → IsSoundStep deck.frame k step) where
  abbrev Step_of : (ℕ → Tile → Type 0) → Tile → Step → Type 0
  Step_of area t step = IsInStep cells top deck.frame area step t

  abbrev Over : ℕ → ℕ → Tile → Type 0
  Over steps n t = area_over cells top deck steps n t

  AlikeBefore : (area other : ℕ → Tile → Type 0) → ℕ → Type 0
  AlikeBefore area other n = (m : ℕ) → m < n → (u : Tile) → (area m u → other m u) × (other m u → area m u)

  alike_at : (area other : ℕ → Tile → Type 0) (n : ℕ) (t : Tile) → AlikeBefore area other n → (found : Option Step)
      → slice_get deck.steps n ≡ found → IsSomeAnd found (Step_of area t) → IsSomeAnd found (Step_of other t)
  unfolding AlikeBefore
  alike_at area other n t alike None e h = h
  alike_at area other n t alike (Some step) e h =
      step_to cells top deck.frame area other step (row_range t.j (t.j +ℤ pos 1)) t (own_row t)
      (λ operand among u rows. alike operand.name (sound_operand deck.frame n step operand (sound n step e) among).earlier u) h

  over_same : (most steps others n : ℕ) → n < most → n < steps → n < others → (t : Tile) → Over steps n t → Over others n t
  unfolding AlikeBefore
  over_same zero steps others n few a b t h = absurd (omega arith)
  over_same (suc most) zero others n few a b t h = absurd (omega arith)
  over_same (suc most) (suc steps) zero n few a b t h = absurd (omega arith)
  over_same (suc most) (suc steps) (suc others) n few a b t h =
      alike_at (Over steps) (Over others) n t
      (λ m before u. (
        over_same most steps others m (omega (arith, few, before)) (omega (arith, a, before)) (omega (arith, b, before)) u,
        over_same most others steps m (omega (arith, few, before)) (omega (arith, b, before)) (omega (arith, a, before)) u,
      ))
      (slice_get deck.steps n) refl h

  abbrev Area : ℕ → Tile → Type 0
  Area n t = IsInArea cells top deck n t

  -- over enough steps
  enough : (n : ℕ) → n < length deck.steps → (t : Tile) → (Over (suc n) n t → Area n t) × (Area n t → Over (suc n) n t)
  unfolding IsInArea
  enough n inside t = (
    over_same (suc n) (suc n) (length deck.steps) n (omega arith) (omega arith) inside t,
    over_same (suc n) (length deck.steps) (suc n) n (omega arith) inside (omega arith) t,
  )

  before_enough : (n : ℕ) → n < length deck.steps → AlikeBefore (Over n) Area n
  unfolding AlikeBefore IsInArea
  before_enough n inside = λ m before u. (
    over_same (suc m) n (length deck.steps) m (omega arith) before (omega (arith, before, inside)) u,
    over_same (suc m) (length deck.steps) n m (omega arith) (omega (arith, before, inside)) before u,
  )

  backwards : (area other : ℕ → Tile → Type 0) (n : ℕ) → AlikeBefore area other n → AlikeBefore other area n
  unfolding AlikeBefore
  backwards area other n alike = λ m before u. (let both = alike m before u in (both.1, both.0))

  -- the area of definition n is that of its step
  pub area_step : (n : ℕ) (step : Step) → slice_get deck.steps n ≡ Some step → (t : Tile) → (Area n t → Step_of Area t step) × (Step_of Area t step → Area n t)
  area_step n step e t =
      let inside = slice_get_within deck.steps n step e in (
        λ h. subst (λ found. IsSomeAnd found (Step_of Area t)) e
            (alike_at (Over n) Area n t (before_enough n inside) (slice_get deck.steps n) refl
            ((enough n inside t).1 h)),
        λ h. (enough n inside t).0
            (alike_at Area (Over n) n t (backwards (Over n) Area n (before_enough n inside))
            (slice_get deck.steps n) refl (subst (λ found. IsSomeAnd found (Step_of Area t)) (sym e) h)),
      )

  -- lists of the operands in the rows that the step takes of them give the area in the window
  pub step_area : (lists : List (List Trapezoid)) (n : ℕ) (step : Step) (window : RowRange) (traps : List Trapezoid) → slice_get deck.steps n ≡ Some step
      → ((operand : Taken) → Contains (operands_of step) operand → SameIn (IsListed lists) Area window operand)
      → HasArea window (λ t. Step_of (IsListed lists) t step) traps → HasArea window (Area n) traps
  step_area lists n step window traps e same h =
      same_area window (λ t. Step_of (IsListed lists) t step) (Area n) traps
      (λ t rows l. (area_step n step e t).1 (step_to cells top deck.frame (IsListed lists) Area step window t rows same l))
      (λ t rows a. step_to cells top deck.frame Area (IsListed lists) step window t rows
      (λ operand among u inner. (let both = same operand among u inner in (both.1, both.0)))
      ((area_step n step e t).0 a))
      h

  -- ---- how far from 0 an area is

  module _ (layers : (pair : Pair) (t : Tile) → IsInLayer cells top pair t → IsTileUpTo (2 ^ 30) t) (frames : IfSome deck.frame IsFrame) where
    abbrev Near : ℕ → Tile → Type 0
    Near n t = IsTileUpTo (bound_of n) t

    far : (n a : ℕ) (t : Tile) → a < n → Near a t → Near n t
    far n a t earlier h = record {
      column = record { low = omega (arith, ints, earlier, h.column.low); high = omega (arith, ints, earlier, h.column.high) };
      row = record { low = omega (arith, ints, earlier, h.row.low); high = omega (arith, ints, earlier, h.row.high) };
    }

    grown_near : (n a : ℕ) (dx dy : ℤ) (t u : Tile) → a < n → AreSides dx dy → IsNear dx dy t u → Near a u → Near n t
    grown_near n a dx dy t u earlier s near h = record {
      column = record {
        low = omega (arith, ints, earlier, h.column.low, near.columns.below, s.dx_high);
        high = omega
            (arith, ints, earlier, h.column.high, near.columns.above, s.dx_high);
      };
      row = record {
        low = omega (arith, ints, earlier, h.row.low, near.rows.below, s.dy_high);
        high = omega
            (arith, ints, earlier, h.row.high, near.rows.above, s.dy_high);
      };
    }

    frame_near : (n : ℕ) (frame : Option Frame) (t : Tile) → IfSome frame IsFrame → IsSomeAnd frame (λ frame. IsInFrame frame t) → Near n t
    frame_near n None t f h = absurd h
    frame_near n (Some frame) t f h = record {
      column = record { low = omega (arith, ints, f.x0.low, h.from_left); high = omega (arith, ints, f.x1.high, h.below_right) };
      row = record { low = omega (arith, ints, f.y0.low, h.above_bottom); high = omega (arith, ints, f.y1.high, h.below_top) };
    }

    mirror_near : (n a : ℕ) (m : ℤ) (t : Tile) → a < n → IsNearLine m → Near a (mirrored_tile m t) → Near n t
    mirror_near n a m t earlier at h = record {
      column = record { low = omega (arith, ints, earlier, at.low, h.column.high); high = omega (arith, ints, earlier, at.high, h.column.low) };
      row = record { low = omega (arith, ints, earlier, h.row.low); high = omega (arith, ints, earlier, h.row.high) };
    }

    layer_near : (n : ℕ) (t : Tile) → IsTileUpTo (2 ^ 30) t → Near n t
    layer_near n t h = record {
      column = record { low = omega (arith, ints, h.column.low); high = omega (arith, ints, h.column.high) };
      row = record { low = omega (arith, ints, h.row.low); high = omega (arith, ints, h.row.high) };
    }

    rectangle : (dx dy : ℤ) → AreSides dx dy → IsRectangle dx dy
    rectangle dx dy s = record { columns = s.dx_low; rows = s.dy_low; even = s.even }

    step_near : (area : ℕ → Tile → Type 0) (n : ℕ) → ((a : ℕ) → a < n → (u : Tile) → area a u → Near a u)
        → (step : Step) → IsSoundStep deck.frame n step → (t : Tile) → Step_of area t step → Near n t
    step_near area n before (Layer pair) s t h = layer_near n t (layers pair t h)
    step_near area n before (Or a b) s t (inl h) = far n a t s.0 (before a s.0 t h)
    step_near area n before (Or a b) s t (inr h) = far n b t s.1 (before b s.1 t h)
    step_near area n before (And a b) s t (h, k) = far n a t s.0 (before a s.0 t h)
    step_near area n before (Sub a b) s t (h, k) = far n a t s.0 (before a s.0 t h)
    step_near area n before (Xor a b) s t (inl (h, k)) = far n a t s.0 (before a s.0 t h)
    step_near area n before (Xor a b) s t (inr (h, k)) = far n b t s.1 (before b s.1 t k)
    step_near area n before (Grow a dx dy) s t (u, h, near) = grown_near n a dx dy t u s.0 s.1 near (before a s.0 u h)
    step_near area n before (Shrink a dx dy) s t h = far n a t s.0 (before a s.0 t (h t (near_itself dx dy (rectangle dx dy s.1) t)))
    step_near area n before (Invert a) s t (h, k) = frame_near n deck.frame t frames h
    step_near area n before (Mirror a m) s t h = mirror_near n a m t s.0 s.1 (before a s.0 (mirrored_tile m t) h)

    found_near : (area : ℕ → Tile → Type 0) (n : ℕ) → ((a : ℕ) → a < n → (u : Tile) → area a u → Near a u) → (t : Tile)
        → (found : Option Step) → slice_get deck.steps n ≡ found → IsSomeAnd found (Step_of area t) → Near n t
    found_near area n before t None e h = absurd h
    found_near area n before t (Some step) e h = step_near area n before step (sound n step e) t h

    over_near : (steps n : ℕ) (t : Tile) → Over steps n t → Near n t
    over_near zero n t h = absurd h
    over_near (suc steps) n t h = found_near (Over steps) n (λ a earlier u. over_near steps a u) t (slice_get deck.steps n) refl h

    pub area_near : (n : ℕ) (t : Tile) → Area n t → IsTileUpTo (bound_of n) t
    unfolding IsInArea
    area_near n t h = over_near (length deck.steps) n t h
