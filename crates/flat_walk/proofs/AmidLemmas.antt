-- The corners of a trapezoid stand between points of an outline that winds round its tiles.
use Rattle.std.proofs.Common.{◌≡◌, ◌≢◌, ◌⊎◌, inl, inr, ℕ, ℤ, suc, pos, ◌+ℤ◌, ◌-ℤ◌, ◌≤ℤ◌, ◌<ℤ◌, List, [], ◌∷◌}
use Rattle.std.proofs.Common.{Some, slice_get, refl, arith}
use Rattle.std.specs.List.{AllByRecursion}
use Rattle.std.proofs.lemmas.Int.{ints, by_lt_z}
use Rattle.half_grid.specs.Halves.{twice}
use Rattle.half_grid.specs.Lines.{x_on}
use Rattle.half_grid.specs.Rows.{place, number_in_row}
use Rattle.half_grid.specs.Quads.{corners_of}
use Rattle.half_grid.specs.Trapezoids.{Trapezoid, IsInTrapezoid, IsLegal}
use Rattle.half_grid.specs.Winding.{winding}
use Rattle.half_grid.specs.declared.plane.Tile.{Tile}
use Rattle.half_grid.specs.declared.plane.Point.{Point}
use Rattle.half_grid.specs.declared.plane.Line.{Line}
use Rattle.half_grid.specs.declared.plane.Line.TheVariants.{Upright, Rising, Falling}
use Rattle.half_grid.proofs.ForCallers.{legal_places, in_by_number, tile_with, tile_with_number, closed_right, closed_left, closed_under, closed_over}
use Rattle.flat_walk.proofs.Motions.{IsLoop}
use Rattle.flat_walk.proofs.Amid.{IsAmid, IsSpanned}

-- the point is one of the list
abbrev pub IsIn : List Point → Point → Type 0
IsIn points v = (k : ℕ) × (slice_get points k ≡ Some v)

Low : (Point → ℤ) → ℤ → List Point → Type 0
Low f x points = (v : Point) × IsIn points v × (f v ≤ℤ x)

low_later : (f : Point → ℤ) (x : ℤ) (p : Point) (points : List Point) → Low f x points → Low f x (p ∷ points)
unfolding Low
low_later f x p points h = (h.0, (suc h.1.0, h.1.1), h.2)

low_or : (f : Point → ℤ) (x : ℤ) (points : List Point) → Low f x points ⊎ AllByRecursion (λ v. (x +ℤ pos 1) ≤ℤ f v) points
unfolding Low
low_or f x [] = inr tt
low_or f x (p ∷ points) = by_lt_z x (f p)
    (λ lt. elim (low_or f x points) [ inl h ↦ inl (low_later f x p points h) | inr all ↦ inr (omega (arith, ints, lt), all) ])
    (λ le. inl (p, (0, refl), le))

High : (Point → ℤ) → ℤ → List Point → Type 0
High f x points = (v : Point) × IsIn points v × (x ≤ℤ f v)

high_later : (f : Point → ℤ) (x : ℤ) (p : Point) (points : List Point) → High f x points → High f x (p ∷ points)
unfolding High
high_later f x p points h = (h.0, (suc h.1.0, h.1.1), h.2)

high_or : (f : Point → ℤ) (x : ℤ) (points : List Point) → High f x points ⊎ AllByRecursion (λ v. f v ≤ℤ (x -ℤ pos 1)) points
unfolding High
high_or f x [] = inr tt
high_or f x (p ∷ points) = by_lt_z (f p) x
    (λ lt. elim (high_or f x points) [ inl h ↦ inl (high_later f x p points h) | inr all ↦ inr (omega (arith, ints, lt), all) ])
    (λ le. inl (p, (0, refl), le))

-- a point close to a tile round which the outline winds
pub amid_by_tile : (points : List Point) (t : Tile) (p : Point) → IsLoop points → winding points t ≢ pos 0
    → twice (p.x -ℤ pos 1) ≤ℤ number_in_row t → number_in_row t <ℤ twice (p.x +ℤ pos 1)
    → (p.y -ℤ pos 1) ≤ℤ t.j → t.j <ℤ (p.y +ℤ pos 1) → IsAmid (IsIn points) p
unfolding Low High
amid_by_tile points t p loop wound low high under over = record {
  left = elim (low_or (λ v. v.x) p.x points) [ inl h ↦ h | inr all ↦ absurd (wound (closed_left points t (p.x +ℤ pos 1) loop.closed all high)) ];
  right = elim (high_or (λ v. v.x) p.x points) [ inl h ↦ h | inr all ↦ absurd (wound (closed_right points t (p.x -ℤ pos 1) loop.closed all loop.grid low)) ];
  bottom = elim (low_or (λ v. v.y) p.y points) [ inl h ↦ h | inr all ↦ absurd (wound (closed_under points t (p.y +ℤ pos 1) loop.closed all over)) ];
  top = elim (high_or (λ v. v.y) p.y points) [ inl h ↦ h | inr all ↦ absurd (wound (closed_over points t (p.y -ℤ pos 1) loop.closed all under)) ];
}

close_up : (l : Line) (y : ℤ) → (twice (x_on l y -ℤ pos 1) ≤ℤ (place l y -ℤ pos 1)) × (place l y <ℤ twice (x_on l y +ℤ pos 1))
close_up (Upright c) y = (omega (arith, ints), omega (arith, ints))
close_up (Rising c) y = (omega (arith, ints), omega (arith, ints))
close_up (Falling c) y = (omega (arith, ints), omega (arith, ints))

close_down : (l : Line) (y : ℤ) → (twice (x_on l y -ℤ pos 1) ≤ℤ (place l (y -ℤ pos 1) -ℤ pos 1)) × (place l (y -ℤ pos 1) <ℤ twice (x_on l y +ℤ pos 1))
close_down (Upright c) y = (omega (arith, ints), omega (arith, ints))
close_down (Rising c) y = (omega (arith, ints), omega (arith, ints))
close_down (Falling c) y = (omega (arith, ints), omega (arith, ints))

module _ (points : List Point) (z : Trapezoid) (loop : IsLoop points) (legal : IsLegal z)
    (inside : (t : Tile) → IsInTrapezoid z t → winding points t ≢ pos 0) where
  first_at : (j : ℤ) → z.y0 ≤ℤ j → j <ℤ z.y1 → IsInTrapezoid z (tile_with (place z.left j) j)
  first_at j a b = let l = legal_places z j legal a b in let e = tile_with_number (place z.left j) j in
      in_by_number z (tile_with (place z.left j) j) (record { above_bottom = a; below_top = b; from_left = rw e (omega (arith, ints)); below_right = rw e l })

  last_at : (j : ℤ) → z.y0 ≤ℤ j → j <ℤ z.y1 → IsInTrapezoid z (tile_with (place z.right j -ℤ pos 1) j)
  last_at j a b = let l = legal_places z j legal a b in let e = tile_with_number (place z.right j -ℤ pos 1) j in
      in_by_number z (tile_with (place z.right j -ℤ pos 1) j)
      (record {
        above_bottom = a;
        below_top = b;
        from_left = rw e (omega (arith, ints, l));
        below_right = rw e
            (omega (arith, ints));
      })

  corner_by : (n j : ℤ) (p : Point) → IsInTrapezoid z (tile_with n j) → twice (p.x -ℤ pos 1) ≤ℤ n
      → n <ℤ twice (p.x +ℤ pos 1) → (p.y -ℤ pos 1) ≤ℤ j → j <ℤ (p.y +ℤ pos 1) → IsAmid (IsIn points) p
  corner_by n j p h low high under over =
      let e = tile_with_number n j in
      amid_by_tile points (tile_with n j) p loop (inside (tile_with n j) h) (rw e low) (rw e high) under over

  pub corners_amid : IsSpanned (IsIn points) (corners_of z)
  corners_amid =
      let rows = legal.has_rows in
      let ul = close_up z.left z.y0 in let dl = close_down z.left z.y1 in let ur = close_up z.right z.y0 in let dr = close_down z.right z.y1 in
      let ul0 = ul.0 in let ul1 = ul.1 in let dl0 = dl.0 in let dl1 = dl.1 in let ur0 = ur.0 in let ur1 = ur.1 in let dr0 = dr.0 in let dr1 = dr.1 in
      record {
        a = corner_by (place z.left z.y0) z.y0 (corners_of z).a (first_at z.y0 (omega (arith, ints)) rows)
            (omega (arith, ints, ul0)) ul1 (omega (arith, ints)) (omega (arith, ints));
        b = corner_by (place z.left (z.y1 -ℤ pos 1)) (z.y1 -ℤ pos 1) (corners_of z).b
            (first_at (z.y1 -ℤ pos 1) (omega (arith, ints, rows)) (omega (arith, ints))) (omega (arith, ints, dl0)) dl1
            (omega (arith, ints)) (omega (arith, ints));
        c = corner_by (place z.right (z.y1 -ℤ pos 1) -ℤ pos 1) (z.y1 -ℤ pos 1) (corners_of z).c
            (last_at (z.y1 -ℤ pos 1) (omega (arith, ints, rows)) (omega (arith, ints))) dr0 (omega (arith, ints, dr1))
            (omega (arith, ints)) (omega (arith, ints));
        d = corner_by (place z.right z.y0 -ℤ pos 1) z.y0 (corners_of z).d (last_at z.y0 (omega (arith, ints)) rows) ur0
            (omega (arith, ints, ur1)) (omega (arith, ints)) (omega (arith, ints));
      }
