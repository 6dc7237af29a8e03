-- The stripes of a shot's first and last row, counted from the first stripe of all.
use Rattle.std.proofs.Common.{◌≡◌, ℕ, ℤ, pos, negsuc, neg_ℤ, ◌+ℤ◌, ◌-ℤ◌, ◌*ℤ◌, ◌≤ℤ◌, ◌<ℤ◌}
use Rattle.std.proofs.Common.{◌≤◌, ◌<◌, ◌^◌, unsigned_abs, get_or, All, List, ap, arith, FitsSigned, w64}
use Rattle.std.proofs.lemmas.Int.{ints}
use Rattle.std.specs.Int.{int_div_euclid}
use Rattle.half_grid.specs.Trapezoids.{Trapezoid, IsShot}
use Rattle.field_split.proofs.ForCallers.{fewer, stretch_of}
use Rattle.field_output.specs.Meeting.{IsPlaced, begin_at, end_at, begins, comes_in, meets}
use Rattle.field_output.proofs.NumberLemmas.{IsEither, either_way}

pub fits_by : (z : ℤ) → neg_ℤ (pos (2 ^ 60)) ≤ℤ z → z ≤ℤ pos (2 ^ 60) → FitsSigned w64 z
fits_by (pos n) a b = record { sfits = omega (arith, ints, b) }
fits_by (negsuc n) a b = record { sfits = omega (arith, ints, a) }

pub as_count : (a b : ℤ) → a ≡ b → unsigned_abs a ≡ unsigned_abs b
as_count a b e = ap unsigned_abs e

pub count_below : (a : ℤ) (n : ℕ) → pos 0 ≤ℤ a → a <ℤ pos n → unsigned_abs a < n
count_below a n low high = omega (arith, ints, low, high)

module _ (size first y : ℤ) where
  pub above : (count : ℕ) → pos 0 <ℤ size → (first *ℤ size) ≤ℤ y → first ≤ℤ int_div_euclid y size
  above count some low =
      let s = stretch_of size y some in
      let up = fewer first (int_div_euclid y size +ℤ pos 1) size some (omega (arith, ints, low, s.below)) in
      omega (arith, ints, up)

  pub below : (count : ℕ) → pos 0 <ℤ size → y <ℤ ((first +ℤ pos count) *ℤ size) → int_div_euclid y size <ℤ (first +ℤ pos count)
  below count some high =
      let s = stretch_of size y some in
      fewer (int_div_euclid y size) (first +ℤ pos count) size some (omega (arith, ints, high, s.from))

  pub place_low : pos 0 <ℤ size → (first *ℤ size) ≤ℤ y → pos 0 ≤ℤ (int_div_euclid y size -ℤ first)
  place_low some low = let h = above 0 some low in omega (arith, ints, h)

  pub place_high : (count : ℕ) → pos 0 <ℤ size → y <ℤ ((first +ℤ pos count) *ℤ size) → (int_div_euclid y size -ℤ first) <ℤ pos count
  place_high count some high = let h = below count some high in omega (arith, ints, h)

  pub gap_fits : (count : ℕ) → pos 0 <ℤ size → count ≤ 4096 → (first *ℤ size) ≤ℤ y → y <ℤ ((first +ℤ pos count) *ℤ size) → FitsSigned w64
      (int_div_euclid y size -ℤ first)
  gap_fits count some few low high =
      let a = place_low some low in
      let b = place_high count some high in
      fits_by (int_div_euclid y size -ℤ first) (omega (arith, ints, a)) (omega (arith, ints, b, few))

module _ (size first : ℤ) (count : ℕ) (some : pos 0 <ℤ size) where
  -- the first stripe isn't above the last
  pub begin_first : (z : Trapezoid) → IsShot z → IsPlaced size first count z → begin_at size first z ≤ end_at size first z
  begin_first z shot placed =
      let rows = shot.legal.has_rows in
      let low = above size first z.y0 count some placed.low in
      let s = stretch_of size z.y0 some in
      let t = stretch_of size (z.y1 -ℤ pos 1) some in
      let up = fewer (int_div_euclid z.y0 size) (int_div_euclid (z.y1 -ℤ pos 1) size +ℤ pos 1) size some (omega (arith, ints, s.from, t.below, rows)) in
      omega (arith, ints, low, up)

  pub all_either : (shots : List Trapezoid) (stripe : ℕ) → All IsShot shots → All (IsPlaced size first count) shots
      → All (λ z. IsEither (comes_in size first stripe z) (begins size first stripe z) (meets size first stripe z)) shots
  all_either shots stripe legal placed = λ i d lt. (let z = get_or shots i d in either_way (begin_at size first z) (end_at size first z) stripe
      (begin_first z (legal i d lt) (placed i d lt)))
