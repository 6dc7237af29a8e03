-- Places of lines in a row against numbers of tiles: the arithmetic of one row, for all crates.
use Rattle.std.proofs.Common.{◌≡◌, ℤ, ◌≤ℤ◌, ◌<ℤ◌, arith, refl, ap, ◌∙◌}
use Rattle.std.proofs.lemmas.Int.{ints}
use Rattle.half_grid.specs.Tiles.{strips_of}
use Rattle.half_grid.specs.Lines.{IsRightOf, IsLeftOf}
use Rattle.half_grid.specs.Rows.{number_at, number_in_row, place}
use Rattle.half_grid.specs.declared.plane.Side.{Side}
use Rattle.half_grid.specs.declared.plane.Side.TheVariants.{Left, Right}
use Rattle.half_grid.specs.declared.plane.Tile.{Tile}
use Rattle.half_grid.specs.declared.plane.Line.{Line}
use Rattle.half_grid.specs.declared.plane.Line.TheVariants.{Upright, Rising, Falling}
use Rattle.half_grid.specs.declared.plane.Strips.{Strips}
use Rattle.half_grid.specs.Trapezoids.{Trapezoid, IsLegal}
use Rattle.half_grid.proofs.StripBounds.{p_low, p_high, q_low, q_high, i_low, i_high}

-- A tile is right of a line exactly where the line's place is at most the tile's number.
pub place_at_most : (t : Tile) (line : Line) → IsRightOf t line → place line t.j ≤ℤ number_in_row t
place_at_most t (Upright c) h = omega (arith, ints, i_low t)
place_at_most t (Rising c) h = omega (arith, ints, q_low t)
place_at_most t (Falling c) h = omega (arith, ints, p_low t)

pub right_by_place : (t : Tile) (line : Line) → place line t.j ≤ℤ number_in_row t → IsRightOf t line
right_by_place t (Upright c) h = omega (arith, ints, i_high t)
right_by_place t (Rising c) h = omega (arith, ints, q_high t)
right_by_place t (Falling c) h = omega (arith, ints, p_high t)

-- A tile is left of a line exactly where its number is below the line's place.
pub number_below : (t : Tile) (line : Line) → IsLeftOf t line → number_in_row t <ℤ place line t.j
number_below t (Upright c) h = omega (arith, ints, i_high t)
number_below t (Rising c) h = omega (arith, ints, q_high t)
number_below t (Falling c) h = omega (arith, ints, p_high t)

pub left_by_place : (t : Tile) (line : Line) → number_in_row t <ℤ place line t.j → IsLeftOf t line
left_by_place t (Upright c) h = omega (arith, ints, i_low t)
left_by_place t (Rising c) h = omega (arith, ints, q_low t)
left_by_place t (Falling c) h = omega (arith, ints, p_low t)

one_side : (i k : ℤ) (s s' : Side) → number_at i s ≡ number_at k s' → s ≡ s'
one_side i k Left Left h = refl
one_side i k Left Right h = absurd (omega (arith, ints, h))
one_side i k Right Left h = absurd (omega (arith, ints, h))
one_side i k Right Right h = refl

same_parts : (t u : Tile) → t.i ≡ u.i → t.j ≡ u.j → t.side ≡ u.side → t ≡ u
same_parts t u ei ej es =
    ap (λ (x : ℤ). let r : Tile = record { i = x; j = t.j; side = t.side } in r) ei
    ∙ ap (λ (x : ℤ). let r : Tile = record { i = u.i; j = x; side = t.side } in r) ej
    ∙ ap (λ (x : Side). let r : Tile = record { i = u.i; j = u.j; side = x } in r) es

numbers_by_strips : (t u : Tile) → t.i ≡ u.i → t.j ≡ u.j → (strips_of t).p ≡ (strips_of u).p
    → (strips_of t).q ≡ (strips_of u).q → number_in_row t ≡ number_in_row u
numbers_by_strips t u ei ej ep eq =
    omega (arith, ints, ei, ej, ep, eq, i_low t, i_high t, i_low u, i_high u, p_low t, p_high t, p_low u, p_high u, q_low t, q_high t, q_low u, q_high u)

-- Two tiles of a row with one number are one.
pub same_number : (t u : Tile) → t.j ≡ u.j → number_in_row t ≡ number_in_row u → t ≡ u
same_number t u ej en =
    let ei : t.i ≡ u.i = omega (arith, ints, en, i_low t, i_high t, i_low u, i_high u) in
    same_parts t u ei ej (one_side t.i u.i t.side u.side en)

-- The four strips name the tile.
pub same_strips : (t u : Tile) → strips_of t ≡ strips_of u → t ≡ u
unfolding strips_of
same_strips t u h =
    let ei : t.i ≡ u.i = ap (λ (s : Strips). s.i) h in
    let ej : t.j ≡ u.j = ap (λ (s : Strips). s.j) h in
    same_number t u ej (numbers_by_strips t u ei ej (ap (λ (s : Strips). s.p) h) (ap (λ (s : Strips). s.q) h))

-- A place and a row name one line.
pub one_line : (l m : Line) (j : ℤ) → place l j ≡ place m j → l ≡ m
one_line (Upright c) (Upright d) j h = let e : c ≡ d = omega (arith, ints, h) in ap Upright e
one_line (Upright c) (Rising d) j h = absurd (omega (arith, ints, h))
one_line (Upright c) (Falling d) j h = absurd (omega (arith, ints, h))
one_line (Rising c) (Upright d) j h = absurd (omega (arith, ints, h))
one_line (Rising c) (Rising d) j h = let e : c ≡ d = omega (arith, ints, h) in ap Rising e
one_line (Rising c) (Falling d) j h = absurd (omega (arith, ints, h))
one_line (Falling c) (Upright d) j h = absurd (omega (arith, ints, h))
one_line (Falling c) (Rising d) j h = absurd (omega (arith, ints, h))
one_line (Falling c) (Falling d) j h = let e : c ≡ d = omega (arith, ints, h) in ap Falling e

legal_lines : (y0 y1 : ℤ) (l r : Line) (j : ℤ) → IsLegal (record { y0 = y0; y1 = y1; left = l; right = r }) → y0 ≤ℤ j → j <ℤ y1 → place l j <ℤ place r j
legal_lines y0 y1 (Upright c) (Upright d) j h a b = omega (arith, ints, h.bottom, h.top, h.not_flat)
legal_lines y0 y1 (Upright c) (Rising d) j h a b = omega (arith, ints, h.bottom, h.top, h.not_flat)
legal_lines y0 y1 (Upright c) (Falling d) j h a b = omega (arith, ints, h.bottom, h.top, h.not_flat)
legal_lines y0 y1 (Rising c) (Upright d) j h a b = omega (arith, ints, h.bottom, h.top, h.not_flat)
legal_lines y0 y1 (Rising c) (Rising d) j h a b = omega (arith, ints, h.bottom, h.top, h.not_flat)
legal_lines y0 y1 (Rising c) (Falling d) j h a b = omega (arith, ints, h.bottom, h.top, h.not_flat)
legal_lines y0 y1 (Falling c) (Upright d) j h a b = omega (arith, ints, h.bottom, h.top, h.not_flat)
legal_lines y0 y1 (Falling c) (Rising d) j h a b = omega (arith, ints, h.bottom, h.top, h.not_flat)
legal_lines y0 y1 (Falling c) (Falling d) j h a b = omega (arith, ints, h.bottom, h.top, h.not_flat)

-- In each row of a legal trapezoid the left line's place is below the right line's.
pub legal_places : (z : Trapezoid) (j : ℤ) → IsLegal z → z.y0 ≤ℤ j → j <ℤ z.y1 → place z.left j <ℤ place z.right j
legal_places z j h a b = legal_lines z.y0 z.y1 z.left z.right j h a b
