-- The maximal trapezoids of what is left of an area without some of them are the others.
use Rattle.std.proofs.Common.{◌≡◌, ℤ, pos, ◌+ℤ◌, ◌-ℤ◌, ◌≤ℤ◌, ◌<ℤ◌, IsTrue, arith, refl, sym, subst, ◌∙◌, List}
use Rattle.std.proofs.lemmas.Int.{ints, by_lt_z}
use Rattle.std.proofs.lemmas.List.Elements.{All-contains}
use Rattle.std.specs.List.{All, Contains}
use Rattle.half_grid.specs.Rows.{place, number_in_row}
use Rattle.half_grid.specs.Trapezoids.{Trapezoid}
use Rattle.half_grid.specs.Windows.{RowRange}
use Rattle.half_grid.specs.declared.plane.Tile.{Tile}
use Rattle.half_grid.specs.declared.plane.Line.{Line}
use Rattle.half_grid.proofs.ForCallers.{tile_with, tile_with_number, number_between, in_by_number}
use Rattle.trap_join.specs.Maximal.{IsRunAt, IsMaximal}
use Rattle.trap_join.proofs.ForCallers.{inside_at, in_at, run_left, run_right, same_maximal}
use Rattle.column_sweep.specs.ColumnLaws.{IsFree, Rest, OthersStay}

-- the same run by equal lines and rows
same_run : {area : Tile → Type 0} (l r k s : Line) (i j : ℤ) → k ≡ l → s ≡ r → j ≡ i → IsRunAt area l r i → IsRunAt area k s j
same_run {area} l r k s i j el er e run = rw (el, er, e) run

module _ (area : Tile → Type 0) (window : RowRange) (taken : List Trapezoid) (each : All (IsMaximal area window) taken) where
  one_of : (d : Trapezoid) → Contains taken d → IsMaximal area window d
  one_of d h = All-contains (IsMaximal area window) taken d each h

  -- the tile of this number of a run of what is left is in none of those that were taken
  free_at : (l r : Line) (j n : ℤ) → IsRunAt (Rest area taken) l r j → place l j ≤ℤ n → n <ℤ place r j → IsFree taken (tile_with n j)
  free_at l r j n run a b = (inside_at l r j n run a b).1

  area_at : (l r : Line) (j n : ℤ) → IsRunAt (Rest area taken) l r j → place l j ≤ℤ n → n <ℤ place r j → area (tile_with n j)
  area_at l r j n run a b = (inside_at l r j n run a b).0

  -- the tile just left of a run of what is left isn't in one that was taken, ..
  left_is_free : (l r : Line) (t : Tile) → IsRunAt (Rest area taken) l r t.j → (number_in_row t +ℤ pos 1) ≡ place l t.j → IsFree taken t
  left_is_free l r t run e d h in_d =
      let n = number_between d t in_d in
      let p : ℤ = place l t.j in
      let some = run.has_tile in
      by_lt_z p (place d.right t.j)
      (λ lt. free_at l r t.j p run (omega (arith, ints)) some d h
      (in_at d p t.j n.above_bottom n.below_top (let f = n.from_left in omega (arith, ints, f, e)) lt))
      (λ ge. ((one_of d h).runs t.j n.above_bottom n.below_top).right_end (tile_with p t.j) refl
      (tile_with_number p t.j ∙ (let b = n.below_right in omega (arith, ints, b, e, ge)))
      (area_at l r t.j p run (omega (arith, ints)) some))

  -- .. nor is the one just right of it
  right_is_free : (l r : Line) (t : Tile) → IsRunAt (Rest area taken) l r t.j → number_in_row t ≡ place r t.j → IsFree taken t
  right_is_free l r t run e d h in_d =
      let n = number_between d t in_d in
      let q : ℤ = place r t.j -ℤ pos 1 in
      let some = run.has_tile in
      by_lt_z q (place d.left t.j)
      (λ lt. ((one_of d h).runs t.j n.above_bottom n.below_top).left_end (tile_with q t.j) refl
      (let f = n.from_left in let k = tile_with_number q t.j in omega (arith, ints, k, f, e, lt))
      (area_at l r t.j q run (omega (arith, ints, some)) (omega (arith, ints))))
      (λ ge. free_at l r t.j q run (omega (arith, ints, some)) (omega (arith, ints)) d h
      (in_at d q t.j n.above_bottom n.below_top ge (let b = n.below_right in omega (arith, ints, b, e))))

  -- so a run of what is left is one of the area
  run_of_rest : (l r : Line) (j : ℤ) → IsRunAt (Rest area taken) l r j → IsRunAt area l r j
  run_of_rest l r j run = record {
    has_tile = run.has_tile;
    inside = λ t e f g. (run.inside t e f g).0;
    left_end = λ t e f at. run.left_end t e f (at, left_is_free l r t (subst (IsRunAt (Rest area taken) l r) (sym e) run) (f ∙ (rw e refl)));
    right_end = λ t e f at. run.right_end t e f (at, right_is_free l r t (subst (IsRunAt (Rest area taken) l r) (sym e) run) (f ∙ (rw e refl)));
  }

  -- just above a row where a run of what is left stands, a run of the area with the same lines is one of what is left
  above_free : (l r : Line) (j : ℤ) (t : Tile) → window.y0 ≤ℤ j → t.j ≡ j +ℤ pos 1 → IsRunAt (Rest area taken) l r j → IsRunAt area l r t.j
      → place l t.j ≤ℤ number_in_row t → number_in_row t <ℤ place r t.j → IsFree taken t
  above_free l r j t low e below run a b d h in_d =
      let n = number_between d t in_d in
      let md = one_of d h in
      let left = run_left area window d l r t md in_d run a b in
      let right = run_right area window d l r t md in_d run a b in
      by_lt_z j d.y0
      (λ lt. md.bottom (omega (arith, ints, low, lt))
      (same_run l r d.left d.right j (d.y0 -ℤ pos 1) left right (let f = n.above_bottom in omega (arith, ints, f, e, lt)) (run_of_rest l r j below)))
      (λ ge. free_at l r j (place l j) below (omega (arith, ints)) below.has_tile d h
      (in_at d (place l j) j ge (let f = n.below_top in omega (arith, ints, f, e)) (rw left (omega (arith, ints))) (rw right below.has_tile)))

  below_free : (l r : Line) (j : ℤ) (t : Tile) → j <ℤ window.y1 → t.j ≡ j -ℤ pos 1 → IsRunAt (Rest area taken) l r j → IsRunAt area l r t.j
      → place l t.j ≤ℤ number_in_row t → number_in_row t <ℤ place r t.j → IsFree taken t
  below_free l r j t high e above run a b d h in_d =
      let n = number_between d t in_d in
      let md = one_of d h in
      let left = run_left area window d l r t md in_d run a b in
      let right = run_right area window d l r t md in_d run a b in
      by_lt_z j d.y1
      (λ lt. free_at l r j (place l j) above (omega (arith, ints)) above.has_tile d h
      (in_at d (place l j) j (let f = n.above_bottom in omega (arith, ints, f, e)) lt (rw left (omega (arith, ints))) (rw right above.has_tile)))
      (λ ge. md.top (omega (arith, ints, high, ge, n.below_top, e))
      (same_run l r d.left d.right j d.y1 left right (let f = n.below_top in omega (arith, ints, f, e, ge)) (run_of_rest l r j above)))

  -- a run of the area whose tiles are all left is one of what is left
  rest_run : (l r : Line) (j : ℤ) → IsRunAt area l r j
      → ((t : Tile) → t.j ≡ j → place l t.j ≤ℤ number_in_row t → number_in_row t <ℤ place r t.j → IsFree taken t)
      → IsRunAt (Rest area taken) l r j
  rest_run l r j run free = record {
    has_tile = run.has_tile;
    inside = λ t e f g. (run.inside t e f g, free t e (rw e f) (rw e g));
    left_end = λ t e f at. run.left_end t e f at.0;
    right_end = λ t e f at. run.right_end t e f at.0;
  }

  -- a maximal trapezoid of what is left is one of the area, and wasn't taken
  pub other_is_maximal : (z : Trapezoid) → IsMaximal (Rest area taken) window z → IsMaximal area window z
  other_is_maximal z m =
      let rows = m.legal.has_rows in
      let low = m.in_window.low in
      let high = m.in_window.high in
      record {
        legal = m.legal;
        in_window = m.in_window;
        runs = λ j a b. run_of_rest z.left z.right j (m.runs j a b);
        top = λ lt run. m.top lt
            (rest_run z.left z.right z.y1 run
            (λ t e. above_free z.left z.right (z.y1 -ℤ pos 1) t (omega (arith, ints, rows, low))
            (omega (arith, ints, e))
            (m.runs (z.y1 -ℤ pos 1) (omega (arith, ints, rows)) (omega (arith, ints))) (subst (IsRunAt area z.left z.right) (sym e) run)));
        bottom = λ lt run. m.bottom lt (rest_run z.left z.right (z.y0 -ℤ pos 1) run (λ t e. below_free z.left z.right z.y0 t (omega (arith, ints, rows, high)) e
            (m.runs z.y0 (omega (arith, ints)) rows) (subst (IsRunAt area z.left z.right) (sym e) run)));
      }

  other_is_not_taken : (z : Trapezoid) → IsMaximal (Rest area taken) window z → Contains taken z → ⊥
  other_is_not_taken z m h =
      let rows = m.legal.has_rows in
      let run = m.runs z.y0 (omega (arith, ints)) rows in
      free_at z.left z.right z.y0 (place z.left z.y0) run (omega (arith, ints)) run.has_tile z h
      (in_at z (place z.left z.y0) z.y0 (omega (arith, ints)) rows (omega (arith, ints)) run.has_tile)

  -- and one of the area that wasn't taken is one of what is left
  stays_other : (z : Trapezoid) → IsMaximal area window z → (Contains taken z → ⊥) → IsMaximal (Rest area taken) window z
  stays_other z m not_taken = record {
    legal = m.legal;
    in_window = m.in_window;
    runs = λ j a b. rest_run z.left z.right j (m.runs j a b) (λ t e f g d h in_d.
        not_taken (subst (Contains taken) (same_maximal area window d z t (one_of d h) m in_d
        (in_by_number z t (record { above_bottom = rw e a; below_top = rw e b; from_left = f; below_right = g }))) h));
    top = λ lt run. m.top lt (run_of_rest z.left z.right z.y1 run);
    bottom = λ lt run. m.bottom lt (run_of_rest z.left z.right (z.y0 -ℤ pos 1) run);
  }

pub others_stay : OthersStay
others_stay has window taken each z = (
  λ m. (other_is_maximal (λ t. IsTrue (has t)) window taken each z m, other_is_not_taken (λ t. IsTrue (has t)) window taken each z m),
  λ h. stays_other (λ t. IsTrue (has t)) window taken each z h.0 h.1,
)
