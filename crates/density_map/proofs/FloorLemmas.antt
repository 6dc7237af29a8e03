-- Windows side by side: where a number lies among multiples of a size.
use Rattle.std.proofs.Common.{ℕ, suc, ◌+◌, ◌*◌, ◌/◌, ◌^◌, ◌<◌, ◌≤◌, ◌≡◌, ℤ, pos, negsuc, neg_ℤ, ◌+ℤ◌, ◌-ℤ◌, ◌*ℤ◌, ◌≤ℤ◌}
use Rattle.std.proofs.Common.{◌<ℤ◌, FitsSigned, w64, mul-le-mul_left, arith, refl, ap, subst, ◌∙◌, sym}
use Rattle.std.proofs.lemmas.Int.{ints, by_lt_z}
use Rattle.std.proofs.Math.IntN.{+ℤ_one, suc_ℤ-*ℤ}
use Rattle.std.proofs.Math.Nat.{mod-lt, div-le_self}
use Rattle.std.proofs.lemmas.Nat.{div-add-mod'}
use Rattle.std.specs.Int.{int_gap, int_div_euclid}
use Rattle.half_grid.specs.declared.extent.Frame.{Frame}
use Rattle.density_map.specs.Frames.{IsNearSide, IsNearFrame}
use Rattle.density_map.specs.Windows.{IsWindowSize, IsRowWithinReach, window}
use borrow.Author.Differences.{up, down}

pub next_side : (k size : ℤ) → (k +ℤ pos 1) *ℤ size ≡ (k *ℤ size) +ℤ size
next_side k size = ap (λ (m : ℤ). m *ℤ size) (+ℤ_one k) ∙ suc_ℤ-*ℤ k size

mono : (k m : ℤ) (r : ℕ) → k ≤ℤ m → (k *ℤ pos r) ≤ℤ (m *ℤ pos r)
mono k m r h =
    let less : up k + down m ≤ up m + down k = omega (arith, ints) in
    let products : r * (up k + down m) ≤ r * (up m + down k) = mul-le-mul_left r less in
    omega (arith, ints, products)

pub multiples : (k m size : ℤ) → pos 0 <ℤ size → k ≤ℤ m → (k *ℤ size) ≤ℤ (m *ℤ size)
multiples k m (pos r) some h = mono k m r h
multiples k m (negsuc r) some h = absurd (omega (arith, ints, some))

-- a multiple that is less is of a number that is less
pub less_by_multiples : (k m size : ℤ) → pos 0 <ℤ size → (k *ℤ size) <ℤ (m *ℤ size) → k <ℤ m
less_by_multiples k m size some h =
    by_lt_z k m (λ less. less) (λ more. absurd (let up = multiples m k size some more in omega (arith, ints, up, h)))

-- ---- rounding down

floor_low : (a : ℤ) (n : ℕ) → 0 < n → (int_div_euclid a (pos n) *ℤ pos n) ≤ℤ a
floor_low (pos a) n some = let e = div-add-mod' a n in omega (arith, ints, e)
floor_low (negsuc a) n some =
    let e = div-add-mod' a n in
    let less = mod-lt a some in
    let product : suc (a / n) * n ≡ n + a / n * n = omega arith in
    omega (arith, ints, e, less, product)

floor_high : (a : ℤ) (n : ℕ) → 0 < n → a <ℤ ((int_div_euclid a (pos n) *ℤ pos n) +ℤ pos n)
floor_high (pos a) n some = let e = div-add-mod' a n in let less = mod-lt a some in omega (arith, ints, e, less)
floor_high (negsuc a) n some =
    let e = div-add-mod' a n in
    let product : suc (a / n) * n ≡ n + a / n * n = omega arith in
    omega (arith, ints, e, product)

floor_near : (a : ℤ) (n : ℕ) → IsNearSide a → IsNearSide (int_div_euclid a (pos n))
floor_near (pos a) n h = let q = div-le_self a n in record { low = omega (arith, ints); high = omega (arith, ints, q, h.high) }
floor_near (negsuc a) n h = let q = div-le_self a n in record { low = omega (arith, ints, q, h.low); high = omega (arith, ints) }

pub record IsFloor (size x q : ℤ) : Type 0 where
  pub from : (q *ℤ size) ≤ℤ x
  pub below : x <ℤ ((q +ℤ pos 1) *ℤ size)
  pub near : IsNearSide q

floor_by : (size x : ℤ) → pos 0 <ℤ size → IsNearSide x → IsFloor size x (int_div_euclid x size)
floor_by (pos n) x some near = record {
  from = floor_low x n (omega (arith, ints, some));
  below = subst (λ (z : ℤ). x <ℤ z) (sym (next_side (int_div_euclid x (pos n)) (pos n))) (floor_high x n (omega (arith, ints, some)));
  near = floor_near x n near;
}
floor_by (negsuc n) x some near = absurd (omega (arith, ints, some))

pub floor_is : (size x q : ℤ) → IsWindowSize size → IsNearSide x → q ≡ int_div_euclid x size → IsFloor size x q
floor_is size x q h near e = subst (λ (z : ℤ). IsFloor size x z) (sym e) (floor_by size x (omega (arith, ints, h.low)) near)

-- each number lies in some window
pub floor_of : (size x : ℤ) → pos 0 <ℤ size → (q : ℤ) × ((q *ℤ size) ≤ℤ x) × (x <ℤ ((q +ℤ pos 1) *ℤ size))
floor_of (pos n) x some = (
  int_div_euclid x (pos n),
  floor_low x n (omega (arith, ints, some)),
  subst (λ (z : ℤ). x <ℤ z) (sym (next_side (int_div_euclid x (pos n)) (pos n))) (floor_high x n (omega (arith, ints, some))),
)
floor_of (negsuc n) x some = absurd (omega (arith, ints, some))

-- ---- gaps

pub gap_is : (a b : ℤ) → a ≤ℤ b → a +ℤ pos (int_gap a b) ≡ b
gap_is (pos m) (pos n) h = omega (arith, ints, h)
gap_is (pos m) (negsuc n) h = absurd (omega (arith, ints, h))
gap_is (negsuc m) (pos n) h = omega (arith, ints)
gap_is (negsuc m) (negsuc n) h = omega (arith, ints, h)

pub no_gap : (a b : ℤ) → b ≤ℤ a → int_gap a b ≡ 0
no_gap (pos m) (pos n) h = omega (arith, ints, h)
no_gap (pos m) (negsuc n) h = refl
no_gap (negsuc m) (pos n) h = absurd (omega (arith, ints, h))
no_gap (negsuc m) (negsuc n) h = omega (arith, ints, h)

pub gap_value : (a b : ℤ) (n : ℕ) → a ≤ℤ b → pos n ≡ b -ℤ a → n ≡ int_gap a b
gap_value a b n h e = let g = gap_is a b h in omega (arith, ints, g, e)

pub gap_step : (a b c : ℤ) → a <ℤ b → c ≡ a +ℤ pos 1 → int_gap a b ≡ int_gap c b + 1
gap_step a b c less e =
    let g = gap_is a b (omega (arith, ints, less)) in
    let h = gap_is c b (omega (arith, ints, less, e)) in
    omega (arith, ints, g, h, e)

-- ---- windows

pub fits_near : (z : ℤ) → neg_ℤ (pos (2 ^ 62)) ≤ℤ z → z ≤ℤ pos (2 ^ 62) → FitsSigned w64 z
fits_near (pos n) low high = record { sfits = omega (arith, ints, high) }
fits_near (negsuc n) low high = record { sfits = omega (arith, ints, low) }

pub window_is : (size column row x0 y0 x1 y1 : ℤ) → x0 ≡ column *ℤ size → y0 ≡ row *ℤ size → x1 ≡ x0 +ℤ size → y1 ≡ y0 +ℤ size
    → (let r : Frame = record { x0 = x0; y0 = y0; x1 = x1; y1 = y1 } in r) ≡ window size column row
window_is size column row x0 y0 x1 y1 e f g h =
    rw (g ∙ ap (λ (z : ℤ). z +ℤ size) e ∙ sym (next_side column size), h ∙ ap (λ (z : ℤ). z +ℤ size) f ∙ sym (next_side row size), e, f) refl

pub window_near : (size column row : ℤ) → IsWindowSize size → IsRowWithinReach size row → IsNearSide (column *ℤ size) → IsNearSide ((column +ℤ pos 1) *ℤ size)
    → IsNearFrame (let r : Frame = record { x0 = column *ℤ size; y0 = row *ℤ size; x1 = (column *ℤ size) +ℤ size; y1 = (row *ℤ size) +ℤ size } in r)
window_near size column row h reach left right =
    let next_x = next_side column size in
    let next_y = next_side row size in
    let low = reach.low in
    let high = reach.high in
    let least = h.low in
    let a = right.low in
    let b = right.high in
    record {
      x0 = left;
      y0 = record { low = omega (arith, ints, low); high = omega (arith, ints, high, next_y, least) };
      x1 = record { low = omega (arith, ints, a, next_x); high = omega (arith, ints, b, next_x) };
      y1 = record { low = omega (arith, ints, low, least); high = omega (arith, ints, high, next_y) };
    }
