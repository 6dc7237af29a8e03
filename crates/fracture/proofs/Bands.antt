-- Shots of bands, one band after the other.
use Rattle.std.proofs.Common.{ℕ, ◌+◌, ◌*◌, ◌≤◌, ℤ, pos, negsuc, ◌+ℤ◌, ◌*ℤ◌, ◌≤ℤ◌, ◌<ℤ◌, List, ◌++◌, All, arith, mul-le-mul_left}
use Rattle.std.proofs.lemmas.Int.{ints, by_lt_z}
use Rattle.std.proofs.lemmas.List.Elements.{All-contains, Contains-append_cases}
use Rattle.std.specs.List.{Contains}
use borrow.Author.Differences.{up, down}
use mathlib.Core.Logic.{inl, inr}
use Rattle.half_grid.specs.Trapezoids.{Trapezoid}
use Rattle.half_grid.specs.declared.plane.Tile.{Tile}
use Rattle.fracture.specs.Economy.{IsInBand, HasNoNeedlessCut}

mono : (k m : ℤ) (r : ℕ) → k ≤ℤ m → (k *ℤ pos r) ≤ℤ (m *ℤ pos r)
mono k m r h =
    let less : up k + down m ≤ up m + down k = omega (arith, ints) in
    let products : r * (up k + down m) ≤ r * (up m + down k) = mul-le-mul_left r less in
    omega (arith, ints, products)

multiples : (k m rows : ℤ) → pos 0 <ℤ rows → k ≤ℤ m → (k *ℤ rows) ≤ℤ (m *ℤ rows)
multiples k m (pos r) some h = mono k m r h
multiples k m (negsuc r) some h = absurd (omega (arith, ints, some))

-- a trapezoid with rows, all of them below b, or all from b on
pub record EndsBy (b : ℤ) (z : Trapezoid) : Type 0 where
  pub rows : z.y0 <ℤ z.y1
  pub high : z.y1 ≤ℤ b

pub record BeginsAt (b : ℤ) (z : Trapezoid) : Type 0 where
  pub rows : z.y0 <ℤ z.y1
  pub low : b ≤ℤ z.y0

-- no band has rows on both sides of a band's bottom
two_bands : (rows k m : ℤ) (y z : Trapezoid) → pos 0 <ℤ rows → EndsBy (k *ℤ rows) y → BeginsAt (k *ℤ rows) z → IsInBand rows m y → IsInBand rows m z → ⊥
two_bands rows k m y z some below above p q =
    by_lt_z m k
    (λ less. (let next = multiples (m +ℤ pos 1) k rows some (omega (arith, ints, less)) in omega (arith, ints, next, above.rows, above.low, q.high)))
    (λ more. (let next = multiples k m rows some more in omega (arith, ints, next, below.rows, below.high, p.low)))

module _ (rows height width : ℤ) (area : Tile → Type 0) where
  -- what lies below a band's bottom, and what lies from there on
  pub needless_append : (k : ℤ) (xs ys : List Trapezoid) → pos 0 <ℤ rows → All (EndsBy (k *ℤ rows)) xs → All (BeginsAt (k *ℤ rows)) ys
      → HasNoNeedlessCut rows height width area xs → HasNoNeedlessCut rows height width area ys → HasNoNeedlessCut rows height width area (xs ++ ys)
  needless_append k xs ys some below above p q =
      let low : (y : Trapezoid) → Contains xs y → EndsBy (k *ℤ rows) y = λ y at. All-contains (EndsBy (k *ℤ rows)) xs y below at in
      let high : (y : Trapezoid) → Contains ys y → BeginsAt (k *ℤ rows) y = λ y at. All-contains (BeginsAt (k *ℤ rows)) ys y above at in
      record {
        upright = λ y z at by bottoms tops e.
            elim (Contains-append_cases xs ys y at) [
              | inl ay ↦ elim (Contains-append_cases xs ys z by) [
                | inl az ↦ p.upright y z ay az bottoms tops e
                | inr az ↦ (let a = low y ay in let b = high z az in absurd (omega (arith, ints, bottoms, a.rows, a.high, b.low)))
              ]
              | inr ay ↦ elim (Contains-append_cases xs ys z by) [
                | inl az ↦ (let a = low z az in let b = high y ay in absurd (omega (arith, ints, bottoms, a.rows, a.high, b.low)))
                | inr az ↦ q.upright y z ay az bottoms tops e
              ]
            ];
        level = λ y z at by left right e band alone.
            elim (Contains-append_cases xs ys y at) [
              | inl ay ↦ elim (Contains-append_cases xs ys z by) [
                | inl az ↦ p.level y z ay az left right e band alone
                | inr az ↦ absurd (two_bands rows k band.0 y z some (low y ay) (high z az) band.1 band.2)
              ]
              | inr ay ↦ elim (Contains-append_cases xs ys z by) [
                | inl az ↦ (let a = low z az in let b = high y ay in absurd (omega (arith, ints, e, a.rows, a.high, b.rows, b.low)))
                | inr az ↦ q.level y z ay az left right e band alone
              ]
            ];
      }
