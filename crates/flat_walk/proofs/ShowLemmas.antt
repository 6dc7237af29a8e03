-- What a placed cell shows at one of its places, and when it shows nothing in a window.
use Rattle.std.proofs.Common.{◌≡◌, ℕ, ℤ, zero, suc, pos, neg_ℤ, ◌+◌, ◌-◌, ◌<◌, ◌≤◌, ◌+ℤ◌, ◌*ℤ◌, ◌≤ℤ◌, Bool, true, false}
use Rattle.std.proofs.Common.{List, [], ◌∷◌, ◌++◌, Option, Some, None, IfSome, map, drop, length, slice_get, get_or}
use Rattle.std.proofs.Common.{int_lt, refl, sym, ap, subst, ◌∙◌, arith}
use Rattle.std.specs.Int.{int_min, int_max}
use Rattle.std.proofs.Math.IntN.{suc_ℤ-*ℤ, zero-*ℤ}
use Rattle.std.specs.List.{filter, flat_map, AllByRecursion}
use Rattle.std.proofs.lemmas.Int.{ints, clamps}
use Rattle.std.proofs.lemmas.List.{map-append}
use Rattle.std.proofs.lemmas.List.Elements.{recursion_from_All}
use Rattle.std.proofs.lemmas.Option.{slice_get-get_or}
use Rattle.half_grid.specs.Quads.{Corners}
use Rattle.half_grid.specs.Windows.{RowRange}
use Rattle.half_grid.specs.declared.plane.Point.{Point}
use Rattle.half_grid.specs.declared.extent.Frame.{Frame}
use Rattle.layout_model.specs.Hulls.{IsInBox}
use Rattle.layout_model.specs.Images.{IsOrient, image_of, moved, turned, flipped, enlarged}
use Rattle.layout_model.specs.declared.orient.Orient.{Orient}
use Rattle.layout_model.specs.declared.cells.Placement.{Placement}
use Rattle.cell_tree.specs.Flattening.{placed_things}
use Rattle.flat_walk.specs.Poses.{oriented, composed}
use Rattle.flat_walk.specs.Quads.{quad_image, turned_round, with_corners, lowest_of, highest_of, has_row_in}
use Rattle.flat_walk.specs.Rests.{Skips, marked_image, shows_in}
use Rattle.flat_walk.specs.Ways.{spots_rest, low_corner, high_corner, IsBetweenRows, HasRowsBetween, AreRowsBetween}
use Rattle.flat_walk.proofs.PointLemmas.{same_point}
use Rattle.flat_walk.proofs.PoseLemmas.{quad_twice}
use Rattle.flat_walk.proofs.Motions.{mul_up}
use Rattle.flat_walk.proofs.RestLemmas.{drop_here, skip_on, skip_front}

marked_twice : (a b : Orient) (at by : Point) (items : List (Option Corners)) → a.turns < 4 → b.turns < 4
    → map (marked_image a at) (map (marked_image b by) items) ≡ map
    (marked_image (composed a b) (image_of a at by)) items
marked_twice a b at by [] ha hb = refl
marked_twice a b at by (None ∷ items) ha hb = ap (λ l. None ∷ l) (marked_twice a b at by items ha hb)
marked_twice a b at by (Some q ∷ items) ha hb =
    ap (λ p. Some p ∷ map (marked_image a at) (map (marked_image b by) items)) (quad_twice a b at by q ha hb)
    ∙ ap (λ l. Some (quad_image (composed a b) (image_of a at by) q) ∷ l) (marked_twice a b at by items ha hb)

-- one place, and those after it
pub spots_step : (outer : Orient) (at : Point) (placement : Placement) (things : List (Option Corners)) (place : ℕ)
    (by : Point) → IsOrient outer → IsOrient placement.orient → slice_get placement.offsets place ≡ Some by
    → spots_rest outer at placement things place ≡ map
    (marked_image (composed outer placement.orient) (image_of outer at (moved by placement.at))) things
    ++ spots_rest outer at placement things (place + 1)
spots_step outer at placement things place by o p here =
    rw (drop_here placement.offsets place by here)
    (map-append (marked_image outer at) (map (marked_image placement.orient (moved by placement.at)) things)
    (flat_map (λ by. map (marked_image placement.orient (moved by placement.at)) things)
    (drop (place + 1) placement.offsets))
    ∙ ap (λ l. l ++ spots_rest outer at placement things (place + 1)) (marked_twice outer placement.orient at (moved by placement.at) things o.turns p.turns))

lt_false : (x y : ℤ) → int_lt x y ≡ false → y ≤ℤ x
lt_false x y h = grind (arith, ints)

lt_no : (x y : ℤ) → y ≤ℤ x → int_lt x y ≡ false
lt_no x y h = grind (arith, ints)

apart_by : (y0 y1 low high a b : ℤ) → int_lt (int_max y0 low) (int_min y1 high) ≡ false → low ≤ℤ a → b ≤ℤ high → int_lt (int_max y0 a) (int_min y1 b) ≡ false
apart_by y0 y1 low high a b h la hb = let g = lt_false (int_max y0 low) (int_min y1 high) h in lt_no (int_max y0 a)
    (int_min y1 b) (omega (arith, ints, clamps, g, la, hb))

low_four : (l a b c d : ℤ) → l ≤ℤ a → l ≤ℤ b → l ≤ℤ c → l ≤ℤ d → l ≤ℤ int_min (int_min a b) (int_min c d)
low_four l a b c d p q r s = omega (arith, ints, clamps, p, q, r, s)

high_four : (l a b c d : ℤ) → a ≤ℤ l → b ≤ℤ l → c ≤ℤ l → d ≤ℤ l → int_max (int_max a b) (int_max c d) ≤ℤ l
high_four l a b c d p q r s = omega (arith, ints, clamps, p, q, r, s)

quad_low : (flip : Bool) (f : Point → Point) (l : ℤ) (q : Corners) → l ≤ℤ (f q.a).y → l ≤ℤ (f q.b).y → l ≤ℤ (f q.c).y
    → l ≤ℤ (f q.d).y → l ≤ℤ lowest_of (turned_round flip (with_corners f q))
quad_low true f l q a b c d = low_four l (f q.a).y (f q.d).y (f q.c).y (f q.b).y a d c b
quad_low false f l q a b c d = low_four l (f q.a).y (f q.b).y (f q.c).y (f q.d).y a b c d

quad_high : (flip : Bool) (f : Point → Point) (l : ℤ) (q : Corners) → (f q.a).y ≤ℤ l → (f q.b).y ≤ℤ l → (f q.c).y ≤ℤ l
    → (f q.d).y ≤ℤ l → highest_of (turned_round flip (with_corners f q)) ≤ℤ l
quad_high true f l q a b c d = high_four l (f q.a).y (f q.d).y (f q.c).y (f q.b).y a d c b
quad_high false f l q a b c d = high_four l (f q.a).y (f q.b).y (f q.c).y (f q.d).y a b c d

raised_low : (orient : Orient) (at : Point) (low high : ℤ) (p : Point) → IsBetweenRows orient low high p → (low +ℤ at.y) ≤ℤ (image_of orient at p).y
raised_low orient at low high p h = let a = h.above in omega (arith, ints, a)

raised_high : (orient : Orient) (at : Point) (low high : ℤ) (p : Point) → IsBetweenRows orient low high p → (image_of orient at p).y ≤ℤ (high +ℤ at.y)
raised_high orient at low high p h = let a = h.below in omega (arith, ints, a)

-- a quadrilateral has no row in the window where the rows of its hull have none
pub quad_hidden : (w : RowRange) (orient : Orient) (at : Point) (low high : ℤ) (q : Corners)
    → HasRowsBetween orient low high q → int_lt (int_max w.y0 (low +ℤ at.y)) (int_min w.y1 (high +ℤ at.y)) ≡ false
    → has_row_in w (quad_image orient at q) ≡ false
unfolding has_row_in
quad_hidden w orient at low high q h apart =
    apart_by w.y0 w.y1 (low +ℤ at.y) (high +ℤ at.y) (lowest_of (quad_image orient at q)) (highest_of (quad_image orient at q)) apart
    (quad_low orient.flip (image_of orient at) (low +ℤ at.y) q (raised_low orient at low high q.a h.a)
    (raised_low orient at low high q.b h.b) (raised_low orient at low high q.c h.c)
    (raised_low orient at low high q.d h.d))
    (quad_high orient.flip (image_of orient at) (high +ℤ at.y) q (raised_high orient at low high q.a h.a)
    (raised_high orient at low high q.b h.b) (raised_high orient at low high q.c h.c)
    (raised_high orient at low high q.d h.d))

hidden_by : (w : RowRange) (orient : Orient) (at : Point) (low high : ℤ) (items : List (Option Corners))
    → AllByRecursion (λ item. IfSome item (HasRowsBetween orient low high)) items
    → int_lt (int_max w.y0 (low +ℤ at.y)) (int_min w.y1 (high +ℤ at.y)) ≡ false → filter (shows_in w) (map (marked_image orient at) items) ≡ []
hidden_by w orient at low high [] all apart = refl
hidden_by w orient at low high (None ∷ items) all apart = hidden_by w orient at low high items all.1 apart
hidden_by w orient at low high (Some q ∷ items) all apart = rw (quad_hidden w orient at low high q all.0 apart)
    (hidden_by w orient at low high items all.1 apart)

-- a cell shows nothing at a place where the rows of its hull have none in the window
pub hidden_at : (w : RowRange) (orient : Orient) (at : Point) (low high : ℤ) (items : List (Option Corners)) → AreRowsBetween orient low high items
    → int_lt (int_max w.y0 (low +ℤ at.y)) (int_min w.y1 (high +ℤ at.y)) ≡ false → filter (shows_in w) (map (marked_image orient at) items) ≡ []
hidden_at w orient at low high items all apart = hidden_by w orient at low high items
    (recursion_from_All (λ item. IfSome item (HasRowsBetween orient low high)) items all) apart

-- ---- a cell that has nothing but marks

abbrev pub AreMarks : List (Option Corners) → Type 0
AreMarks items = AllByRecursion (λ item. item ≡ None) items

marks_image : (orient : Orient) (at : Point) (items : List (Option Corners)) → AreMarks items → AreMarks (map (marked_image orient at) items)
marks_image orient at [] all = tt
marks_image orient at (item ∷ items) all = (ap (marked_image orient at) all.0, marks_image orient at items all.1)

marks_both : (xs ys : List (Option Corners)) → AreMarks xs → AreMarks ys → AreMarks (xs ++ ys)
marks_both [] ys p q = q
marks_both (x ∷ xs) ys p q = (p.0, marks_both xs ys p.1 q)

marks_placed : (placement : Placement) (offsets : List Point) (items : List (Option Corners)) → AreMarks items
    → AreMarks (flat_map (λ by. map (marked_image placement.orient (moved by placement.at)) items) offsets)
marks_placed placement [] items all = tt
marks_placed placement (by ∷ offsets) items all =
    marks_both (map (marked_image placement.orient (moved by placement.at)) items)
    (flat_map (λ by. map (marked_image placement.orient (moved by placement.at)) items) offsets)
    (marks_image placement.orient (moved by placement.at) items all) (marks_placed placement offsets items all)

pub marks_hidden : (w : RowRange) (items : List (Option Corners)) → AreMarks items → filter (shows_in w) items ≡ []
marks_hidden w [] all = refl
marks_hidden w (item ∷ items) all = rw all.0 (marks_hidden w items all.1)

pub nothing_shown : (w : RowRange) (orient : Orient) (at : Point) (placement : Placement) (items : List (Option Corners)) → AreMarks items
    → filter (shows_in w) (map (marked_image orient at) (placed_things marked_image placement items)) ≡ []
nothing_shown w orient at placement items all =
    marks_hidden w (map (marked_image orient at) (placed_things marked_image placement items))
    (marks_image orient at (placed_things marked_image placement items)
    (marks_placed placement placement.offsets items all))

-- ---- the rows of a box

mul_order : (m : ℕ) (a b c : ℤ) → a ≤ℤ b → b ≤ℤ c → ((pos m *ℤ a) ≤ℤ (pos m *ℤ b)) × ((pos m *ℤ b) ≤ℤ (pos m *ℤ c))
mul_order m a b c p q = (mul_up m a b p, mul_up m b c q)

record IsAmidst (a p b : Point) : Type 0 where
  pub left : a.x ≤ℤ p.x
  pub right : p.x ≤ℤ b.x
  pub bottom : a.y ≤ℤ p.y
  pub top : p.y ≤ℤ b.y

abbrev InOrder : ℤ → ℤ → ℤ → Type 0
InOrder a p b = (int_min a b ≤ℤ p) × (p ≤ℤ int_max a b)

up_order : (a p b : ℤ) → a ≤ℤ p → p ≤ℤ b → InOrder a p b
up_order a p b l h = (omega (arith, ints, clamps, l, h), omega (arith, ints, clamps, l, h))

down_order : (a p b : ℤ) → a ≤ℤ p → p ≤ℤ b → InOrder (neg_ℤ a) (neg_ℤ p) (neg_ℤ b)
down_order a p b l h = (omega (arith, ints, clamps, l, h), omega (arith, ints, clamps, l, h))

twice_neg : (z : ℤ) → neg_ℤ (neg_ℤ z) ≡ z
twice_neg z = omega (arith, ints)

amid_turned : (turns : ℕ) (flip : Bool) (a p b : Point) → turns < 4 → IsAmidst a p b
    → InOrder (turned turns (flipped flip a)).y (turned turns (flipped flip p)).y (turned turns (flipped flip b)).y
amid_turned zero true a p b h m = down_order a.y p.y b.y m.bottom m.top
amid_turned zero false a p b h m = up_order a.y p.y b.y m.bottom m.top
amid_turned (suc zero) true a p b h m = up_order a.x p.x b.x m.left m.right
amid_turned (suc zero) false a p b h m = up_order a.x p.x b.x m.left m.right
amid_turned (suc (suc zero)) true a p b h m = rw (twice_neg a.y, twice_neg p.y, twice_neg b.y) (up_order a.y p.y b.y m.bottom m.top)
amid_turned (suc (suc zero)) false a p b h m = down_order a.y p.y b.y m.bottom m.top
amid_turned (suc (suc (suc zero))) true a p b h m = down_order a.x p.x b.x m.left m.right
amid_turned (suc (suc (suc zero))) false a p b h m = down_order a.x p.x b.x m.left m.right
amid_turned (suc (suc (suc (suc turns)))) flip a p b h m = absurd (omega arith)

-- turned so, the points of a box have a Y between those of two of its corners
pub box_between : (orient : Orient) (box : Frame) (p : Point) → orient.turns < 4 → IsInBox box p
    → IsBetweenRows orient (int_min (oriented orient (low_corner box)).y (oriented orient (high_corner box)).y)
    (int_max (oriented orient (low_corner box)).y (oriented orient (high_corner box)).y) p
box_between orient box p turns inside =
    let x = mul_order orient.mag box.x0 p.x box.x1 inside.left inside.right in
    let y = mul_order orient.mag box.y0 p.y box.y1 inside.bottom inside.top in
    let h = amid_turned orient.turns orient.flip (enlarged orient.mag (low_corner box)) (enlarged orient.mag p)
    (enlarged orient.mag (high_corner box)) turns
    (record { left = x.0; right = x.1; bottom = y.0; top = y.1 }) in
    record { above = h.0; below = h.1 }

once : (z : ℤ) → pos 1 *ℤ z ≡ z
once z = rw (suc_ℤ-*ℤ (pos 0) z, zero-*ℤ z) (omega (arith, ints))

-- a point that isn't turned
pub plain_point : (orient : Orient) (p : Point) → orient.flip ≡ false → orient.turns ≡ 0 → orient.mag ≡ 1 → oriented orient p ≡ p
plain_point orient p f t m = rw (f, t, m) (same_point _ _ (once p.x) (once p.y))

-- ---- steps of the code

pub spots_gives : (w : RowRange) (before : List (Option Corners)) (outer : Orient) (at : Point) (placement : Placement)
    (things : List (Option Corners)) (place : ℕ) (by : Point) (orient : Orient) (spot : Point)
    → Skips w before (spots_rest outer at placement things place) → IsOrient outer → IsOrient placement.orient
    → slice_get placement.offsets place ≡ Some by → orient ≡ composed outer placement.orient
    → spot ≡ image_of outer at (moved by placement.at)
    → Skips w before (map (marked_image orient spot) things ++ spots_rest outer at placement things (place + 1))
spots_gives w before outer at placement things place by orient spot s o p here is there =
    subst (Skips w before) (spots_step outer at placement things place by o p here
    ∙ (ap (λ k. map (marked_image k (image_of outer at (moved by placement.at))) things ++ spots_rest outer at placement things (place + 1)) (sym is)
    ∙ ap (λ k. map (marked_image orient k) things ++ spots_rest outer at placement things (place + 1)) (sym there))) s

pub spots_skip : (w : RowRange) (before : List (Option Corners)) (outer : Orient) (at : Point) (placement : Placement)
    (things : List (Option Corners)) (place : ℕ) (orient : Orient) (spot : Point)
    → Skips w before (map (marked_image orient spot) things ++ spots_rest outer at placement things (place + 1))
    → filter (shows_in w) (map (marked_image orient spot) things) ≡ []
    → Skips w before (spots_rest outer at placement things (place + 1))
spots_skip w before outer at placement things place orient spot s none =
    skip_on w before (map (marked_image orient spot) things ++ spots_rest outer at placement things (place + 1))
    (spots_rest outer at placement things (place + 1)) s
    (skip_front w (map (marked_image orient spot) things) (spots_rest outer at placement things (place + 1)) none)

pub meet_off : (w : RowRange) (low high ly hy y : ℤ) (met : Bool) → ly ≡ low +ℤ y → hy ≡ high +ℤ y
    → met ≡ int_lt (int_max w.y0 ly) (int_min w.y1 hy) → met ≡ false
    → int_lt (int_max w.y0 (low +ℤ y)) (int_min w.y1 (high +ℤ y)) ≡ false
meet_off w low high ly hy y met el eh is off = rw (← el, ← eh, ← is) off

pub box_between_by : (orient : Orient) (box : Frame) (p a b k l : Point) (low high : ℤ) → low ≡ int_min a.y b.y
    → high ≡ int_max a.y b.y → a ≡ oriented orient k → b ≡ oriented orient l → k ≡ low_corner box → l ≡ high_corner box
    → orient.turns < 4 → IsInBox box p → IsBetweenRows orient low high p
box_between_by orient box p a b k l low high el eh ea eb ek elc turns inside =
    let ay = ap (λ q. q.y) (ea ∙ ap (oriented orient) ek) in
    let by = ap (λ q. q.y) (eb ∙ ap (oriented orient) elc) in
    let g = box_between orient box p turns inside in
    let el' = el ∙ (ap (λ z. int_min z b.y) ay ∙ ap (int_min (oriented orient (low_corner box)).y) by) in
    let eh' = eh ∙ (ap (λ z. int_max z b.y) ay ∙ ap (int_max (oriented orient (low_corner box)).y) by) in
    record { above = subst (λ z. z ≤ℤ (oriented orient p).y) (sym el') g.above; below = subst (λ z. (oriented orient p).y ≤ℤ z) (sym eh') g.below }

-- the places from one on up to below another, where the cell shows nothing
pub spots_over : (w : RowRange) (before : List (Option Corners)) (outer : Orient) (at : Point) (placement : Placement)
    (things : List (Option Corners)) (orient : Orient) (many from : ℕ)
    → IsOrient outer → IsOrient placement.orient → orient ≡ composed outer placement.orient → from + many ≤ length placement.offsets
    → ((k : ℕ) (by : Point) → from ≤ k → k < from + many → slice_get placement.offsets k ≡ Some by
    → filter (shows_in w) (map (marked_image orient (image_of outer at (moved by placement.at))) things) ≡ [])
    → Skips w before (spots_rest outer at placement things from) → Skips w before (spots_rest outer at placement things (from + many))
spots_over w before outer at placement things orient zero from o p is few none s =
    let e : from + zero ≡ from = omega arith in
    subst (λ k. Skips w before (spots_rest outer at placement things k)) (sym e) s
spots_over w before outer at placement things orient (suc many) from o p is few none s =
    let by : Point = get_or placement.offsets from at in
    let here = slice_get-get_or placement.offsets from at (omega arith) in
    let e : (from + 1) + many ≡ from + suc many = omega arith in
    subst (λ k. Skips w before (spots_rest outer at placement things k)) e
    (spots_over w before outer at placement things orient many (from + 1) o p is (omega arith)
    (λ k by after early there. none k by (omega arith) (omega arith) there)
    (spots_skip w before outer at placement things from orient (image_of outer at (moved by placement.at))
    (spots_gives w before outer at placement things from by orient
    (image_of outer at (moved by placement.at)) s o p here is refl)
    (none from by (omega arith) (omega arith) here)))

-- the same up to a place, by the rows of the hull
pub spots_to : (w : RowRange) (before : List (Option Corners)) (outer : Orient) (at : Point) (placement : Placement)
    (things : List (Option Corners)) (orient : Orient) (low high : ℤ) (place end : ℕ)
    → IsOrient outer → IsOrient placement.orient → orient ≡ composed outer placement.orient → place < end
    → end ≤ length placement.offsets → AreRowsBetween orient low high things
    → ((k : ℕ) (by : Point) → place < k → k < end → slice_get placement.offsets k ≡ Some by
    → int_lt (int_max w.y0 (low +ℤ (image_of outer at (moved by placement.at)).y))
    (int_min w.y1 (high +ℤ (image_of outer at (moved by placement.at)).y)) ≡ false)
    → Skips w before (spots_rest outer at placement things (place + 1)) → Skips w before (spots_rest outer at placement things end)
spots_to w before outer at placement things orient low high place end o p is later few between off s =
    let many : ℕ = end - (place + 1) in
    let e : (place + 1) + many ≡ end = omega arith in
    subst (λ k. Skips w before (spots_rest outer at placement things k)) e
    (spots_over w before outer at placement things orient many (place + 1) o p is (omega arith)
    (λ k by after early here. hidden_at w orient (image_of outer at (moved by placement.at)) low high things between
    (off k by (omega arith) (omega arith) here)) s)
