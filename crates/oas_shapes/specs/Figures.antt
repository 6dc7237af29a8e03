-- The corners of rectangles and trapezoids in grid steps, seen from their position (SEMI P39 1.0, RECTANGLE, TRAPEZOID
-- and CTRAPEZOID records). Each list goes round once.
use Rattle.std.specs.Prelude.{ℕ, ℤ, pos, neg_ℤ, ◌+ℤ◌, ◌-ℤ◌, ◌≤◌, ◌^◌, ◌||◌, Bool, not, nat_eq, nat_lt, if◌then◌else◌, IsTrue, List, [], ◌∷◌, map}
use Rattle.std.specs.Int.{int_min, int_max}
use Rattle.half_grid.specs.Halves.{twice}
use Rattle.half_grid.specs.declared.plane.Point.{Point}
use Rattle.oas_shapes.specs.Plane.{point}
use Rattle.oas_shapes.specs.declared.figures.Figure.{Figure}
use Rattle.oas_shapes.specs.declared.figures.Figure.TheVariants.{Rectangle, Horizontal, Vertical, Ctrapezoid}
use Rattle.oas_shapes.specs.declared.tables.Mark.{Mark}
use Rattle.oas_shapes.specs.declared.tables.Mark.TheVariants.{O, W, H, WLessH, HLessW, TwiceW, TwiceH}

-- ---- the table of CTRAPEZOID

-- a coordinate of a corner, by the width w and the height h
abbrev pub coordinate : ℤ → ℤ → Mark → ℤ
coordinate w h O = pos 0
coordinate w h W = w
coordinate w h H = h
coordinate w h WLessH = w -ℤ h
coordinate w h HLessW = h -ℤ w
coordinate w h TwiceW = twice w
coordinate w h TwiceH = twice h

abbrev pub corner : ℤ → ℤ → Mark × Mark → Point
corner w h (x, y) = point (coordinate w h x) (coordinate w h y)

-- w by h
abbrev pub rectangle_marks : List (Mark × Mark)
rectangle_marks = (O, O) ∷ (O, H) ∷ (W, H) ∷ (W, O) ∷ []

-- types 0 to 7: trapezoids with level sides
abbrev pub level_marks : ℕ → List (Mark × Mark)
level_marks kind =
    if nat_eq kind 0 then (O, O) ∷ (O, H) ∷ (WLessH, H) ∷ (W, O) ∷ []
    else if nat_eq kind 1 then (O, O) ∷ (O, H) ∷ (W, H) ∷ (WLessH, O) ∷ []
    else if nat_eq kind 2 then (O, O) ∷ (H, H) ∷ (W, H) ∷ (W, O) ∷ []
    else if nat_eq kind 3 then (H, O) ∷ (O, H) ∷ (W, H) ∷ (W, O) ∷ []
    else if nat_eq kind 4 then (O, O) ∷ (H, H) ∷ (WLessH, H) ∷ (W, O) ∷ []
    else if nat_eq kind 5 then (H, O) ∷ (O, H) ∷ (W, H) ∷ (WLessH, O) ∷ []
    else if nat_eq kind 6 then (O, O) ∷ (H, H) ∷ (W, H) ∷ (WLessH, O) ∷ []
    else (H, O) ∷ (O, H) ∷ (WLessH, H) ∷ (W, O) ∷ []

-- types 8 to 15: trapezoids with upright sides
abbrev pub upright_marks : ℕ → List (Mark × Mark)
upright_marks kind =
    if nat_eq kind 8 then (O, O) ∷ (O, H) ∷ (W, HLessW) ∷ (W, O) ∷ []
    else if nat_eq kind 9 then (O, O) ∷ (O, HLessW) ∷ (W, H) ∷ (W, O) ∷ []
    else if nat_eq kind 10 then (O, O) ∷ (O, H) ∷ (W, H) ∷ (W, W) ∷ []
    else if nat_eq kind 11 then (O, W) ∷ (O, H) ∷ (W, H) ∷ (W, O) ∷ []
    else if nat_eq kind 12 then (O, O) ∷ (O, H) ∷ (W, HLessW) ∷ (W, W) ∷ []
    else if nat_eq kind 13 then (O, W) ∷ (O, HLessW) ∷ (W, H) ∷ (W, O) ∷ []
    else if nat_eq kind 14 then (O, O) ∷ (O, HLessW) ∷ (W, H) ∷ (W, W) ∷ []
    else (O, W) ∷ (O, H) ∷ (W, HLessW) ∷ (W, O) ∷ []

-- types 16 to 23: triangles
abbrev pub triangle_marks : ℕ → List (Mark × Mark)
triangle_marks kind =
    if nat_eq kind 16 then (O, O) ∷ (O, W) ∷ (W, O) ∷ []
    else if nat_eq kind 17 then (O, O) ∷ (O, W) ∷ (W, W) ∷ []
    else if nat_eq kind 18 then (O, O) ∷ (W, W) ∷ (W, O) ∷ []
    else if nat_eq kind 19 then (O, W) ∷ (W, W) ∷ (W, O) ∷ []
    else if nat_eq kind 20 then (O, O) ∷ (H, H) ∷ (TwiceH, O) ∷ []
    else if nat_eq kind 21 then (O, H) ∷ (TwiceH, H) ∷ (H, O) ∷ []
    else if nat_eq kind 22 then (O, O) ∷ (O, TwiceW) ∷ (W, W) ∷ []
    else (O, W) ∷ (W, TwiceW) ∷ (W, O) ∷ []

-- type 24: a rectangle, w by h; type 25: a square. There is no type above 25: no such record is read.
abbrev pub ctrapezoid_marks : ℕ → List (Mark × Mark)
ctrapezoid_marks kind =
    if nat_lt kind 8 then level_marks kind
    else if nat_lt kind 16 then upright_marks kind
    else if nat_lt kind 24 then triangle_marks kind
    else if nat_eq kind 24 then rectangle_marks
    else (O, O) ∷ (O, W) ∷ (W, W) ∷ (W, O) ∷ []

-- types 20 and 21 have no width; 16 to 19, 22, 23 and 25 have no height
abbrev pub uses_width : ℕ → Bool
uses_width kind = not (nat_eq kind 20 || nat_eq kind 21)

abbrev pub uses_height : ℕ → Bool
uses_height kind = nat_lt kind 16 || (nat_eq kind 20 || (nat_eq kind 21 || nat_eq kind 24))

-- ---- the corners of each

abbrev pub rectangle_corners : ℤ → ℤ → List Point
rectangle_corners w h = map (corner w h) rectangle_marks

abbrev pub ctrapezoid_corners : ℕ → ℤ → ℤ → List Point
ctrapezoid_corners kind w h = map (corner w h) (ctrapezoid_marks kind)

-- with level sides in its box of w by h: bottom left, top left, top right, bottom right
abbrev pub horizontal_corners : ℤ → ℤ → ℤ → ℤ → List Point
horizontal_corners w h a b =
    point (int_max (neg_ℤ a) (pos 0)) (pos 0)
    ∷ point (int_max a (pos 0)) h
    ∷ point (w +ℤ int_min b (pos 0)) h
    ∷ point (w -ℤ int_max b (pos 0)) (pos 0)
    ∷ []

-- with upright sides: left bottom, left top, right top, right bottom
abbrev pub vertical_corners : ℤ → ℤ → ℤ → ℤ → List Point
vertical_corners w h a b =
    point (pos 0) (int_max a (pos 0))
    ∷ point (pos 0) (h +ℤ int_min b (pos 0))
    ∷ point w (h -ℤ int_max b (pos 0))
    ∷ point w (int_max (neg_ℤ a) (pos 0))
    ∷ []

abbrev pub figure_corners : Figure → List Point
figure_corners (Rectangle width height) = rectangle_corners (pos width) (pos height)
figure_corners (Horizontal width height a b) = horizontal_corners (pos width) (pos height) a b
figure_corners (Vertical width height a b) = vertical_corners (pos width) (pos height) a b
figure_corners (Ctrapezoid kind width height) = ctrapezoid_corners kind (pos width) (pos height)

-- ---- their sizes

-- a width or a height is at most 2^40
abbrev pub IsSize : ℕ → Type 0
IsSize n = n ≤ 2 ^ 40

-- those that the figure uses are
abbrev pub IsSized : Figure → Type 0
IsSized (Rectangle width height) = IsSize width × IsSize height
IsSized (Horizontal width height a b) = IsSize width × IsSize height
IsSized (Vertical width height a b) = IsSize width × IsSize height
IsSized (Ctrapezoid kind width height) =
    (IsTrue (uses_width kind) → IsSize width) × (IsTrue (uses_height kind) → IsSize height)
