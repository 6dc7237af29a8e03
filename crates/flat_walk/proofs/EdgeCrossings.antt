-- What one edge adds to the winding at a tile, by the place of the edge's line.
use Rattle.std.proofs.Common.{◌≡◌, ◌≢◌, ℕ, Bool, true, false, ℤ, pos, ◌-ℤ◌, ◌≤ℤ◌, ◌<ℤ◌}
use Rattle.std.proofs.Common.{◌&&◌, not, arith, refl, ap, sym, ◌∙◌, int_le, int_lt}
use Rattle.std.proofs.lemmas.Int.{ints}
use Rattle.half_grid.specs.Lines.{Passes, line_of}
use Rattle.half_grid.specs.Rows.{place, number_in_row}
use Rattle.half_grid.specs.Winding.{is_right_of, rises_past, crossing_of, count_one}
use Rattle.half_grid.specs.declared.plane.Tile.{Tile}
use Rattle.half_grid.specs.declared.plane.Point.{Point}
use Rattle.half_grid.specs.declared.plane.Line.{Line}
use Rattle.half_grid.proofs.ForCallers.{line_is, right_by_place, left_by_place, le_yes, le_no}
use Rattle.half_grid.proofs.ForCallers.{crossing_up, crossing_down, crossing_none}

rises_low : (t : Tile) (a b : Point) → rises_past t a b ≡ true → a.y ≤ℤ t.j
rises_low t a b h = grind (arith, ints)

rises_high : (t : Tile) (a b : Point) → rises_past t a b ≡ true → t.j <ℤ b.y
rises_high t a b h = grind (arith, ints)

-- 1 where the point isn't above the tile's row
abbrev pub is_below : Tile → Point → ℕ
is_below t p = count_one (int_le p.y t.j)

lt_not_le : (x y : ℤ) → int_lt x y ≡ not (int_le y x)
lt_not_le x y = grind (arith, ints)

level_tests : (p q : Bool) → p && not q ≡ false → q && not p ≡ false → pos (count_one p) -ℤ pos (count_one q) ≡ pos 0
level_tests true true h k = refl
level_tests true false h k = absurd (let bad : ⊥ = cc in bad)
level_tests false true h k = absurd (let bad : ⊥ = cc in bad)
level_tests false false h k = refl

level : (t : Tile) (a b : Point) → rises_past t a b ≡ false → rises_past t b a ≡ false → pos (is_below t a) -ℤ pos (is_below t b) ≡ pos 0
level t a b u d =
    level_tests (int_le a.y t.j) (int_le b.y t.j) (sym (ap (λ x. int_le a.y t.j && x) (lt_not_le t.j b.y)) ∙ u)
    (sym (ap (λ x. int_le b.y t.j && x) (lt_not_le t.j a.y)) ∙ d)

right_of : (t : Tile) (a b : Point) (l : Line) → Passes l a → Passes l b → a.y ≢ b.y → place l t.j ≤ℤ number_in_row t → is_right_of t (line_of a b) ≡ true
right_of t a b l pa pb other right = ap (is_right_of t) (line_is a b l pa pb other) ∙ le_yes _ _ (right_by_place t l right)

left_of : (t : Tile) (a b : Point) (l : Line) → Passes l a → Passes l b → a.y ≢ b.y → number_in_row t <ℤ place l t.j → is_right_of t (line_of a b) ≡ false
left_of t a b l pa pb other left = ap (is_right_of t) (line_is a b l pa pb other) ∙ le_no _ _ (left_by_place t l left)

right_by : (t : Tile) (a b : Point) (l : Line) (u d : Bool) → rises_past t a b ≡ u → rises_past t b a ≡ d → Passes l a
    → Passes l b → place l t.j ≤ℤ number_in_row t
    → crossing_of t a b ≡ pos (is_below t a) -ℤ pos (is_below t b)
right_by t a b l true d eu ed pa pb right =
    let low = rises_low t a b eu in let high = rises_high t a b eu in
    let r = right_of t a b l pa pb (λ e. absurd (omega (arith, ints, low, high, e))) right in
    crossing_up t a b eu ∙ ap (λ r. pos (count_one r)) r ∙ sym (rw (le_yes a.y t.j low, le_no b.y t.j high) refl)
right_by t a b l false true eu ed pa pb right =
    let low = rises_low t b a ed in let high = rises_high t b a ed in
    let r = right_of t a b l pa pb (λ e. absurd (omega (arith, ints, low, high, e))) right in
    crossing_down t a b ed ∙ rw r (sym (rw (le_yes b.y t.j low, le_no a.y t.j high) refl))
right_by t a b l false false eu ed pa pb right = crossing_none t a b eu ed ∙ sym (level t a b eu ed)

-- an edge of a line that has the tile on its right adds what its ends differ in being below the row
pub crossing_right : (t : Tile) (a b : Point) (l : Line) → Passes l a → Passes l b → place l t.j ≤ℤ number_in_row t
    → crossing_of t a b ≡ pos (is_below t a) -ℤ pos (is_below t b)
crossing_right t a b l pa pb right = right_by t a b l _ _ refl refl pa pb right

left_by : (t : Tile) (a b : Point) (l : Line) (u d : Bool) → rises_past t a b ≡ u → rises_past t b a ≡ d → Passes l a
    → Passes l b → number_in_row t <ℤ place l t.j → crossing_of t a b ≡ pos 0
left_by t a b l true d eu ed pa pb left =
    let low = rises_low t a b eu in let high = rises_high t a b eu in
    crossing_up t a b eu ∙ ap (λ r. pos (count_one r)) (left_of t a b l pa pb (λ e. absurd (omega (arith, ints, low, high, e))) left)
left_by t a b l false true eu ed pa pb left =
    let low = rises_low t b a ed in let high = rises_high t b a ed in
    crossing_down t a b ed ∙ rw (left_of t a b l pa pb (λ e. absurd (omega (arith, ints, low, high, e))) left) refl
left_by t a b l false false eu ed pa pb left = crossing_none t a b eu ed

-- one that hasn't adds nothing
pub crossing_left : (t : Tile) (a b : Point) (l : Line) → Passes l a → Passes l b → number_in_row t <ℤ place l t.j → crossing_of t a b ≡ pos 0
crossing_left t a b l pa pb left = left_by t a b l _ _ refl refl pa pb left

flat_by : (t : Tile) (a b : Point) (u d : Bool) → rises_past t a b ≡ u → rises_past t b a ≡ d → a.y ≡ b.y → crossing_of t a b ≡ pos 0
flat_by t a b true d eu ed e = let low = rises_low t a b eu in let high = rises_high t a b eu in absurd (omega (arith, ints, low, high, e))
flat_by t a b false true eu ed e = let low = rises_low t b a ed in let high = rises_high t b a ed in absurd (omega (arith, ints, low, high, e))
flat_by t a b false false eu ed e = crossing_none t a b eu ed

-- nor does a horizontal edge
pub crossing_flat : (t : Tile) (a b : Point) → a.y ≡ b.y → crossing_of t a b ≡ pos 0
crossing_flat t a b e = flat_by t a b _ _ refl refl e
