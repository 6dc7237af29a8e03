-- Runs of an area in a row: two that share a tile are one.
use Rattle.std.proofs.Common.{◌≡◌, ℤ, pos, ◌+ℤ◌, ◌-ℤ◌, ◌≤ℤ◌, ◌<ℤ◌, arith, refl}
use Rattle.std.proofs.lemmas.Int.{ints, by_lt_z}
use Rattle.half_grid.specs.Rows.{place}
use Rattle.half_grid.specs.declared.plane.Tile.{Tile}
use Rattle.half_grid.specs.declared.plane.Line.{Line}
use Rattle.half_grid.proofs.ForCallers.{tile_with, tile_with_number, one_line}
use Rattle.trap_join.specs.Maximal.{IsRunAt}

module _ {area : Tile → Type 0} where
  -- the tile of this number in the row is in the area
  pub inside_at : (l r : Line) (j n : ℤ) → IsRunAt area l r j → place l j ≤ℤ n → n <ℤ place r j → area (tile_with n j)
  inside_at l r j n run a b = run.inside (tile_with n j) refl (rw (tile_with_number n j) a) (rw (tile_with_number n j) b)

  not_left_at : (l r : Line) (j n : ℤ) → IsRunAt area l r j → (n +ℤ pos 1) ≡ place l j → area (tile_with n j) → ⊥
  not_left_at l r j n run e = run.left_end (tile_with n j) refl (rw (tile_with_number n j) e)

  not_right_at : (l r : Line) (j n : ℤ) → IsRunAt area l r j → n ≡ place r j → area (tile_with n j) → ⊥
  not_right_at l r j n run e = run.right_end (tile_with n j) refl (rw (tile_with_number n j) e)

  -- no run begins within another
  left_within : (l r k s : Line) (j n : ℤ) → IsRunAt area l r j → IsRunAt area k s j → n <ℤ place r j → place k j ≤ℤ n → place l j <ℤ place k j → ⊥
  left_within l r k s j n first second a b c =
      not_left_at k s j (place k j -ℤ pos 1) second (omega (arith, ints))
      (inside_at l r j (place k j -ℤ pos 1) first (omega (arith, ints, c)) (omega (arith, ints, a, b)))

  -- no run ends within another
  right_within : (l r k s : Line) (j n : ℤ) → IsRunAt area l r j → IsRunAt area k s j → place l j ≤ℤ n → n <ℤ place s j → place s j <ℤ place r j → ⊥
  right_within l r k s j n first second a b c =
      not_right_at k s j (place s j) second refl (inside_at l r j (place s j) first (omega (arith, ints, a, b)) c)

  pub same_left : (l r k s : Line) (j n : ℤ) → IsRunAt area l r j → IsRunAt area k s j → place l j ≤ℤ n
      → n <ℤ place r j → place k j ≤ℤ n → n <ℤ place s j → l ≡ k
  same_left l r k s j n first second a b c d =
      one_line l k j
      (by_lt_z (place l j) (place k j)
      (λ lt. absurd (left_within l r k s j n first second b c lt))
      (λ ge. by_lt_z (place k j) (place l j)
      (λ lt. absurd (left_within k s l r j n second first d a lt))
      (λ le. omega (arith, ints, ge, le))))

  pub same_right : (l r k s : Line) (j n : ℤ) → IsRunAt area l r j → IsRunAt area k s j → place l j ≤ℤ n
      → n <ℤ place r j → place k j ≤ℤ n → n <ℤ place s j → r ≡ s
  same_right l r k s j n first second a b c d =
      one_line r s j
      (by_lt_z (place r j) (place s j)
      (λ lt. absurd (right_within k s l r j n second first c b lt))
      (λ ge. by_lt_z (place s j) (place r j)
      (λ lt. absurd (right_within l r k s j n first second a d lt))
      (λ le. omega (arith, ints, ge, le))))

  -- of two runs of a row, one of which begins left of the other, the one ends before the other begins
  pub runs_apart : (l r k s : Line) (j : ℤ) → IsRunAt area l r j → IsRunAt area k s j → place l j <ℤ place k j → place r j <ℤ place k j
  runs_apart l r k s j first second lt =
      by_lt_z (place r j) (place k j) (λ h. h)
      (λ le. absurd (by_lt_z (place k j) (place r j)
      (λ h. left_within l r k s j (place k j) first second h (omega (arith, ints)) lt)
      (λ ge. not_right_at l r j (place k j) first (omega (arith, ints, le, ge)) (inside_at k s j (place k j) second (omega (arith, ints)) second.has_tile))))
