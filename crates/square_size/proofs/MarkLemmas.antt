-- Marks of those that touch.
use Rattle.std.proofs.Common.{◌≡◌, ℕ, ◌<◌, ◌+◌, ◌≤◌, Bool, true, false, Some, List, length, map, get_or, slice_get, set}
use Rattle.std.proofs.Common.{arith, ◌∙◌, refl, sym, ap, subst, ◌⊎◌, inl, inr}
use Rattle.std.proofs.lemmas.Bool.{cases_lt}
use Rattle.std.proofs.lemmas.List.{get_or-set_same, get_or-set_other, get_or-map, length-map}
use Rattle.std.proofs.lemmas.Option.{slice_get_read, slice_get_within, get_or_from_slice_get}
use Rattle.half_grid.specs.Trapezoids.{Trapezoid}
use Rattle.square_size.specs.Levels.{bottom_level, top_level, AreOverlapping, AreMarkedTo, AreMarksOf}

-- one number is another, or isn't
apart : (j i : ℕ) → (j ≡ i) ⊎ (j ≡ i → ⊥)
apart j i = elim (cases_lt j i) [
  | inl lt ↦ inr (λ e. omega (arith, lt, e))
  | inr ge ↦ elim (cases_lt i j) [ inl lt ↦ inr (λ e. omega (arith, lt, e)) | inr le ↦ inl (omega (arith, ge, le)) ]
]

-- What is marked stays marked.
pub set_keeps : (marks : List Bool) (i j : ℕ) → i < length marks → get_or marks j false ≡ true → get_or (set marks i true) j false ≡ true
set_keeps marks i j inside h = elim (apart j i) [
  | inl e ↦ rw e (get_or-set_same marks i true false inside)
  | inr other ↦ get_or-set_other marks i j true false other ∙ h
]

-- The top side of a trapezoid has its number.
pub top_at : (traps : List Trapezoid) (j : ℕ) (y : Trapezoid) → slice_get traps j ≡ Some y → slice_get (map top_level traps) j ≡ Some (top_level y)
top_at traps j y at =
    let many = length-map traps top_level in
    let inside = slice_get_within traps j y at in
    let is = get_or-map top_level traps j y (top_level y) inside ∙ ap top_level (get_or_from_slice_get traps j y y at) in
    slice_get_read (map top_level traps) (length traps) j (top_level y) (sym many) inside (sym is)

module _ (traps : List Trapezoid) (old new : List Bool) (k : ℕ) (z : Trapezoid) (is : z ≡ get_or traps k z)
    (kept : (j : ℕ) → get_or old j false ≡ true → get_or new j false ≡ true)
    (met : (j : ℕ) (y : Trapezoid) → slice_get traps j ≡ Some y → AreOverlapping (top_level y) (bottom_level z)
    → (get_or new j false ≡ true) × (get_or new k false ≡ true)) where
  marked_by : (j n : ℕ) (y w : Trapezoid) → AreMarkedTo traps old k → (n < k) ⊎ (k ≤ n) → n < k + 1 → slice_get traps j ≡ Some y → slice_get traps n ≡ Some w
      → AreOverlapping (top_level y) (bottom_level w) → (get_or new j false ≡ true) × (get_or new n false ≡ true)
  marked_by j n y w before (inl lt) up ey ew lap = let both = before j n y w lt ey ew lap in (kept j both.0, kept n both.1)
  marked_by j n y w before (inr ge) up ey ew lap =
      let e : n ≡ k = omega (arith, ge, up) in
      let same : z ≡ w = is ∙ get_or_from_slice_get traps k w z (rw (← e) ew) in
      let both = met j y ey (subst (λ (x : Trapezoid). AreOverlapping (top_level y) (bottom_level x)) (sym same) lap) in
      (both.0, rw e both.1)

  -- One more of the list was asked.
  pub marked_next : AreMarkedTo traps old k → AreMarkedTo traps new (k + 1)
  marked_next before = λ j n y w up ey ew lap. marked_by j n y w before (cases_lt n k) up ey ew lap

-- All were asked.
pub all_marked : (traps : List Trapezoid) (marks : List Bool) (n : ℕ) → length marks ≡ length traps → length traps ≤ n → AreMarkedTo traps marks n
    → AreMarksOf traps marks
all_marked traps marks n many le to = record {
  many = many;
  apart = λ j k y z ey ez lap. (let within = slice_get_within traps k z ez in to j k y z (omega (arith, within, le)) ey ez lap);
}

-- What is read of the marks.
pub unmarked_at : (marks : List Bool) (k : ℕ) (b : Bool) → k < length marks → b ≡ get_or marks k b → b ≡ false → get_or marks k false ≡ false
unmarked_at marks k b inside is not = get_or_from_slice_get marks k b false (slice_get_read marks (length marks) k b refl inside is) ∙ not
