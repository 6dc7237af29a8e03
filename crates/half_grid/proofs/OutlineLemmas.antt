-- Where the winding of a closed outline is 0: left of all its points, right of all its points, and in each row that
-- isn't between its lowest and its highest Y.
use Rattle.std.proofs.Common.{◌≡◌, ◌≢◌, inl, inr, ℕ, Bool, true, false, ℤ, pos, ◌-ℤ◌, ◌≤ℤ◌, ◌<ℤ◌, ◌&&◌, arith, refl, ap}
use Rattle.std.proofs.Common.{◌∙◌, sym, List, [], ◌∷◌, Option, Some, None, IfSome, IfNone, int_le, int_lt, not}
use Rattle.std.proofs.lemmas.Int.{ints}
use Rattle.std.specs.List.{AllByRecursion}
use Rattle.half_grid.specs.Halves.{twice}
use Rattle.half_grid.specs.Lines.{Passes, line_of}
use Rattle.half_grid.specs.Rows.{number_in_row, place}
use Rattle.half_grid.specs.Outlines.{IsOnGrid, IsClosed, last_of}
use Rattle.half_grid.specs.Winding.{is_right_of, rises_past, edges_of, crossing_of, count_one, winding}
use Rattle.half_grid.specs.declared.plane.Tile.{Tile}
use Rattle.half_grid.specs.declared.plane.Point.{Point}
use Rattle.half_grid.specs.declared.plane.Line.{Line}
use Rattle.half_grid.specs.declared.plane.Line.TheVariants.{Upright, Rising, Falling}
use Rattle.half_grid.proofs.LineLemmas.{line_of_through, line_of_none}
use Rattle.half_grid.proofs.Places.{right_by_place, left_by_place}
use Rattle.half_grid.proofs.WindingLemmas.{winding_from, winding_along, crossing_up, crossing_down, crossing_none}

-- a test on two numbers, by the order that it decides
pub le_yes : (x y : ℤ) → x ≤ℤ y → int_le x y ≡ true
le_yes x y h = grind (arith, ints)

pub le_no : (x y : ℤ) → y <ℤ x → int_le x y ≡ false
le_no x y h = grind (arith, ints)

rises_low : (t : Tile) (a b : Point) → rises_past t a b ≡ true → a.y ≤ℤ t.j
rises_low t a b h = grind (arith, ints)

rises_high : (t : Tile) (a b : Point) → rises_past t a b ≡ true → t.j <ℤ b.y
rises_high t a b h = grind (arith, ints)

-- ---- an edge that spans the row, with both ends left of an upright line X, at a tile right of X

line_left : (line : Line) (t : Tile) (a b : Point) (x : ℤ) → Passes line a → Passes line b → a.y ≤ℤ t.j → t.j <ℤ b.y
    → a.x ≤ℤ x → b.x ≤ℤ x → twice x ≤ℤ number_in_row t → place line t.j ≤ℤ number_in_row t
line_left (Upright c) t a b x pa pb low high ax bx n = omega (arith, ints, pa)
line_left (Rising c) t a b x pa pb low high ax bx n = omega (arith, ints, pa, pb)
line_left (Falling c) t a b x pa pb low high ax bx n = omega (arith, ints, pa, pb)

line_right : (line : Line) (t : Tile) (a b : Point) (x : ℤ) → Passes line a → Passes line b → a.y ≤ℤ t.j → t.j <ℤ b.y
    → x ≤ℤ a.x → x ≤ℤ b.x → number_in_row t <ℤ twice x → number_in_row t <ℤ place line t.j
line_right (Upright c) t a b x pa pb low high ax bx n = omega (arith, ints, pa)
line_right (Rising c) t a b x pa pb low high ax bx n = omega (arith, ints, pa, pb)
line_right (Falling c) t a b x pa pb low high ax bx n = omega (arith, ints, pa, pb)

-- whether a tile is right of an edge's line, by what holds of each line through both ends
any_right : (t : Tile) (a b : Point) (o : Option Line) → IfSome o (λ l. Passes l a × Passes l b × (a.y ≢ b.y))
    → IfNone o ((l : Line) → Passes l a → Passes l b → a.y ≡ b.y)
    → IsOnGrid (a, b) → a.y ≢ b.y → ((l : Line) → Passes l a → Passes l b → place l t.j ≤ℤ number_in_row t) → is_right_of t o ≡ true
any_right t a b (Some l) some none grid other each = le_yes _ _ (right_by_place t l (each l some.0 some.1))
any_right t a b None some none (inl same) other each = absurd (other same)
any_right t a b None some none (inr share) other each = absurd (other (none share.0 share.1 share.2))

any_left : (t : Tile) (a b : Point) (o : Option Line) → IfSome o (λ l. Passes l a × Passes l b × (a.y ≢ b.y))
    → ((l : Line) → Passes l a → Passes l b → number_in_row t <ℤ place l t.j) → is_right_of t o ≡ false
any_left t a b (Some l) some each = le_no _ _ (left_by_place t l (each l some.0 some.1))
any_left t a b None some each = refl

-- 1 where the point isn't above the tile's row
abbrev pub is_below : Tile → Point → ℕ
is_below t p = count_one (int_le p.y t.j)

lt_not_le : (x y : ℤ) → int_lt x y ≡ not (int_le y x)
lt_not_le x y = grind (arith, ints)

level_tests : (p q : Bool) → p && not q ≡ false → q && not p ≡ false → pos (count_one p) -ℤ pos (count_one q) ≡ pos 0
level_tests true true h k = refl
level_tests true false h k = absurd (let bad : ⊥ = cc in bad)
level_tests false true h k = absurd (let bad : ⊥ = cc in bad)
level_tests false false h k = refl

-- no row between them: both are below it, or both above
level : (t : Tile) (a b : Point) → rises_past t a b ≡ false → rises_past t b a ≡ false → pos (is_below t a) -ℤ pos (is_below t b) ≡ pos 0
level t a b u d =
    level_tests (int_le a.y t.j) (int_le b.y t.j) (sym (ap (λ x. int_le a.y t.j && x) (lt_not_le t.j b.y)) ∙ u)
    (sym (ap (λ x. int_le b.y t.j && x) (lt_not_le t.j a.y)) ∙ d)

-- what an edge adds that has the tile on its right
crossing_rising : (t : Tile) (a b : Point) → rises_past t a b ≡ true → is_right_of t (line_of a b) ≡ true
    → crossing_of t a b ≡ pos (is_below t a) -ℤ pos (is_below t b)
crossing_rising t a b u right =
    crossing_up t a b u ∙ ap (λ r. pos (count_one r)) right
    ∙ sym (rw (le_yes a.y t.j (rises_low t a b u), le_no b.y t.j (rises_high t a b u)) refl)

crossing_falling : (t : Tile) (a b : Point) → rises_past t b a ≡ true → is_right_of t (line_of a b) ≡ true
    → crossing_of t a b ≡ pos (is_below t a) -ℤ pos (is_below t b)
crossing_falling t a b d right =
    crossing_down t a b d ∙ rw right (sym (rw (le_yes b.y t.j (rises_low t b a d), le_no a.y t.j (rises_high t b a d)) refl))

right_by_spans : (t : Tile) (a b : Point) (x : ℤ) (u d : Bool) → rises_past t a b ≡ u → rises_past t b a ≡ d
    → IsOnGrid (a, b) → a.x ≤ℤ x → b.x ≤ℤ x → twice x ≤ℤ number_in_row t
    → crossing_of t a b ≡ pos (is_below t a) -ℤ pos (is_below t b)
right_by_spans t a b x true d eu ed grid ax bx n =
    let low = rises_low t a b eu in
    let high = rises_high t a b eu in
    crossing_rising t a b eu (any_right t a b (line_of a b) (line_of_through a b) (line_of_none a b) grid (λ e. omega (arith, ints, low, high, e))
    (λ l pa pb. line_left l t a b x pa pb low high ax bx n))
right_by_spans t a b x false true eu ed grid ax bx n =
    let low = rises_low t b a ed in
    let high = rises_high t b a ed in
    crossing_falling t a b ed (any_right t a b (line_of a b) (line_of_through a b) (line_of_none a b) grid (λ e. omega (arith, ints, low, high, e))
    (λ l pa pb. line_left l t b a x pb pa low high bx ax n))
right_by_spans t a b x false false eu ed grid ax bx n = crossing_none t a b eu ed ∙ sym (level t a b eu ed)

-- an edge on the grid with both ends left of X adds, at a tile right of X, what its ends differ in being below the row
right_of_edge : (t : Tile) (a b : Point) (x : ℤ) → IsOnGrid (a, b) → a.x ≤ℤ x → b.x ≤ℤ x → twice x ≤ℤ number_in_row t
    → crossing_of t a b ≡ pos (is_below t a) -ℤ pos (is_below t b)
right_of_edge t a b x grid ax bx n = right_by_spans t a b x (rises_past t a b) (rises_past t b a) refl refl grid ax bx n

-- an edge with both ends right of X adds nothing at a tile left of X
left_by_spans : (t : Tile) (a b : Point) (x : ℤ) (u d : Bool) → rises_past t a b ≡ u → rises_past t b a ≡ d → x ≤ℤ a.x → x ≤ℤ b.x → number_in_row t <ℤ twice x
    → crossing_of t a b ≡ pos 0
left_by_spans t a b x true d eu ed ax bx n =
    let low = rises_low t a b eu in
    let high = rises_high t a b eu in
    crossing_up t a b eu ∙ ap (λ r. pos (count_one r))
    (any_left t a b (line_of a b) (line_of_through a b) (λ l pa pb. line_right l t a b x pa pb low high ax bx n))
left_by_spans t a b x false true eu ed ax bx n =
    let low = rises_low t b a ed in
    let high = rises_high t b a ed in
    crossing_down t a b ed ∙ rw (any_left t a b (line_of a b) (line_of_through a b) (λ l pa pb. line_right l t b a x pb pa low high bx ax n)) refl
left_by_spans t a b x false false eu ed ax bx n = crossing_none t a b eu ed

left_of_edge : (t : Tile) (a b : Point) (x : ℤ) → x ≤ℤ a.x → x ≤ℤ b.x → number_in_row t <ℤ twice x → crossing_of t a b ≡ pos 0
left_of_edge t a b x ax bx n = left_by_spans t a b x (rises_past t a b) (rises_past t b a) refl refl ax bx n

-- an edge with both ends above the row, or both not above it, adds nothing
under_edge : (t : Tile) (a b : Point) → t.j <ℤ a.y → t.j <ℤ b.y → crossing_of t a b ≡ pos 0
under_edge t a b ha hb = crossing_none t a b (grind (arith, ints)) (grind (arith, ints))

over_edge : (t : Tile) (a b : Point) → a.y ≤ℤ t.j → b.y ≤ℤ t.j → crossing_of t a b ≡ pos 0
over_edge t a b ha hb = crossing_none t a b (grind (arith, ints)) (grind (arith, ints))

-- ---- the same along a whole list

pub right_of_all : (t : Tile) (x : ℤ) (a : Point) (points : List Point) → AllByRecursion (λ p. p.x ≤ℤ x) (a ∷ points)
    → AllByRecursion IsOnGrid (edges_of (a ∷ points)) → twice x ≤ℤ number_in_row t
    → winding_from t a points ≡ pos (is_below t a) -ℤ pos (is_below t (last_of a points))
right_of_all t x a [] all grid n = omega (arith, ints)
right_of_all t x a (b ∷ points) all grid n =
    let first = right_of_edge t a b x grid.0 all.0 all.1.0 n in
    let rest = right_of_all t x b points all.1 grid.1 n in
    omega (arith, ints, first, rest)

pub left_of_all : (t : Tile) (x : ℤ) (a : Point) (points : List Point) → AllByRecursion (λ p. x ≤ℤ p.x) (a ∷ points)
    → number_in_row t <ℤ twice x → winding_from t a points ≡ pos 0
left_of_all t x a [] all n = refl
left_of_all t x a (b ∷ points) all n = rw (left_of_edge t a b x all.0 all.1.0 n, left_of_all t x b points all.1 n) refl

pub under_all : (t : Tile) (y : ℤ) (a : Point) (points : List Point) → AllByRecursion (λ p. y ≤ℤ p.y) (a ∷ points) → t.j <ℤ y → winding_from t a points ≡ pos 0
under_all t y a [] all n = refl
under_all t y a (b ∷ points) all n =
    let below_a : t.j <ℤ a.y = omega (arith, ints, all.0) in
    let below_b : t.j <ℤ b.y = omega (arith, ints, all.1.0) in
    rw (under_edge t a b below_a below_b, under_all t y b points all.1 n) refl

pub over_all : (t : Tile) (y : ℤ) (a : Point) (points : List Point) → AllByRecursion (λ p. p.y ≤ℤ y) (a ∷ points) → y ≤ℤ t.j → winding_from t a points ≡ pos 0
over_all t y a [] all n = refl
over_all t y a (b ∷ points) all n =
    let above_a : a.y ≤ℤ t.j = omega (arith, ints, all.0) in
    let above_b : b.y ≤ℤ t.j = omega (arith, ints, all.1.0) in
    rw (over_edge t a b above_a above_b, over_all t y b points all.1 n) refl

-- ---- a closed outline has winding 0 at a tile right of all its points, left of them, below them or above them

pub closed_right : (points : List Point) (t : Tile) (x : ℤ) → IsClosed points → AllByRecursion (λ p. p.x ≤ℤ x) points
    → AllByRecursion IsOnGrid (edges_of points) → twice x ≤ℤ number_in_row t → winding points t ≡ pos 0
closed_right [] t x closed all grid n = absurd closed
closed_right (a ∷ points) t x closed all grid n =
    let sum = right_of_all t x a points all grid n in
    let same : is_below t (last_of a points) ≡ is_below t a = ap (is_below t) closed in
    winding_along t a points ∙ omega (arith, ints, sum, same)

pub closed_left : (points : List Point) (t : Tile) (x : ℤ) → IsClosed points → AllByRecursion (λ p. x ≤ℤ p.x) points
    → number_in_row t <ℤ twice x → winding points t ≡ pos 0
closed_left [] t x closed all n = absurd closed
closed_left (a ∷ points) t x closed all n = winding_along t a points ∙ left_of_all t x a points all n

pub closed_under : (points : List Point) (t : Tile) (y : ℤ) → IsClosed points → AllByRecursion (λ p. y ≤ℤ p.y) points → t.j <ℤ y → winding points t ≡ pos 0
closed_under [] t y closed all n = absurd closed
closed_under (a ∷ points) t y closed all n = winding_along t a points ∙ under_all t y a points all n

pub closed_over : (points : List Point) (t : Tile) (y : ℤ) → IsClosed points → AllByRecursion (λ p. p.y ≤ℤ y) points → y ≤ℤ t.j → winding points t ≡ pos 0
closed_over [] t y closed all n = absurd closed
closed_over (a ∷ points) t y closed all n = winding_along t a points ∙ over_all t y a points all n
