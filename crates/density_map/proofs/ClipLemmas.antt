-- The rows of a frame that a trapezoid has, and what they count.
use Rattle.std.proofs.Common.{ℕ, zero, suc, ◌+◌, ◌-◌, ◌≤◌, ◌≡◌, Bool, true, false, Option, None, Some, SomeIff, ℤ, pos}
use Rattle.std.proofs.Common.{◌+ℤ◌, ◌-ℤ◌, ◌≤ℤ◌, ◌<ℤ◌, List, ◌∷◌, ◌++◌, count_by, append_assoc, arith, refl, ap, subst}
use Rattle.std.proofs.Common.{◌∙◌, sym}
use Rattle.std.proofs.lemmas.Int.{ints, clamps, by_lt_z}
use Rattle.std.proofs.lemmas.List.Sums.{sum_by-append, sum_by-cons}
use Rattle.std.specs.Int.{int_min, int_max}
use Rattle.half_grid.specs.Lines.{x_on}
use Rattle.half_grid.specs.Reach.{IsWithinReach}
use Rattle.half_grid.specs.Trapezoids.{Trapezoid, IsInTrapezoid, IsLegal, IsShot, trapezoid_has}
use Rattle.half_grid.specs.Windows.{RowRange, row_range, IsWindow}
use Rattle.half_grid.specs.declared.extent.Frame.{Frame}
use Rattle.half_grid.specs.declared.plane.Line.{Line}
use Rattle.half_grid.specs.declared.plane.Line.TheVariants.{Upright, Rising, Falling}
use Rattle.half_grid.specs.declared.plane.Side.TheVariants.{Left, Right}
use Rattle.half_grid.specs.declared.plane.Tile.{Tile}
use Rattle.half_grid.proofs.ForCallers.{has_in}
use Rattle.density_map.specs.Frames.{natural, row_tiles, rows_tiles, count_in_frame, frame_tiles}
use Rattle.density_map.specs.Wedges.{IsLineWithin, AreRowsOf, tiles_before, count_in_rows}
use Rattle.density_map.proofs.Numbers.{natural_is, natural_none}
use Rattle.density_map.proofs.RowLemmas.{bit, rows_count}

within_between : (l : Line) (y0 y y1 : ℤ) → y0 ≤ℤ y → y ≤ℤ y1 → IsWithinReach (x_on l y0) → IsWithinReach (x_on l y1) → IsWithinReach (x_on l y)
within_between (Upright c) y0 y y1 a b p q = p
within_between (Rising c) y0 y y1 a b p q = record { low = omega (arith, ints, a, b, p.low); high = omega (arith, ints, a, b, q.high) }
within_between (Falling c) y0 y y1 a b p q = record { low = omega (arith, ints, a, b, q.low); high = omega (arith, ints, a, b, p.high) }

-- a line that is within reach at both ends of the trapezoid's rows is so in the rows
pub line_within : (line : Line) (z : Trapezoid) (frame : Frame) (rows : RowRange) → AreRowsOf z frame rows → IsWithinReach z.y0 → IsWithinReach z.y1
    → IsWithinReach (x_on line z.y0) → IsWithinReach (x_on line z.y1) → IsLineWithin line rows
line_within line z frame rows r low high bottom top = record {
  low = record { low = omega (arith, ints, r.low, low.low); high = omega (arith, ints, r.some, r.high, high.high) };
  high = record { low = omega (arith, ints, r.some, r.low, low.low); high = omega (arith, ints, r.high, high.high) };
  bottom = within_between line z.y0 rows.y0 z.y1 r.low (omega (arith, ints, r.some, r.high)) bottom top;
  top = within_between line z.y0 rows.y1 z.y1 (omega (arith, ints, r.low, r.some)) r.high bottom top;
}

pub left_within : (line : Line) (z : Trapezoid) (frame : Frame) (rows : RowRange) → line ≡ z.left → AreRowsOf z frame rows → IsShot z → IsLineWithin line rows
left_within line z frame rows e r s =
    subst (λ (l : Line). IsLineWithin l rows) (sym e) (line_within z.left z frame rows r s.reach.y0 s.reach.y1 s.reach.bottom_left s.reach.top_left)

pub right_within : (line : Line) (z : Trapezoid) (frame : Frame) (rows : RowRange) → line ≡ z.right → AreRowsOf z frame rows → IsShot z → IsLineWithin line rows
right_within line z frame rows e r s =
    subst (λ (l : Line). IsLineWithin l rows) (sym e) (line_within z.right z frame rows r s.reach.y0 s.reach.y1 s.reach.bottom_right s.reach.top_right)

-- what the code adds, and what it takes away: a and d with b and c
pub record AreRowsCounted (z : Trapezoid) (frame : Frame) (rows : RowRange) (above below : ℕ) : Type 0 where
  pub order : below ≤ above
  pub value : above - below ≡ count_in_rows frame rows z

counted_by : (z : Trapezoid) (frame : Frame) (rows : RowRange) (r0 l1 l0 r1 : ℕ) → IsLegal z → AreRowsOf z frame rows
    → r0 ≡ tiles_before z.right frame.x0 rows.y0 (natural (rows.y1 -ℤ rows.y0)) → l1 ≡ tiles_before z.left frame.x1 rows.y0 (natural (rows.y1 -ℤ rows.y0))
    → l0 ≡ tiles_before z.left frame.x0 rows.y0 (natural (rows.y1 -ℤ rows.y0)) → r1 ≡ tiles_before z.right frame.x1 rows.y0 (natural (rows.y1 -ℤ rows.y0))
    → AreRowsCounted z frame rows (r0 + l1) (l0 + r1)
unfolding count_in_rows
counted_by z frame rows r0 l1 l0 r1 legal r er el fl fr =
    let n = natural (rows.y1 -ℤ rows.y0) in
    let k = natural (frame.x1 -ℤ frame.x0) in
    let rows_are = natural_is (rows.y1 -ℤ rows.y0) (omega (arith, ints, r.some)) in
    let wide = natural_is (frame.x1 -ℤ frame.x0) (omega (arith, ints, r.wide)) in
    let last : frame.x0 +ℤ pos k ≡ frame.x1 = omega (arith, ints, wide) in
    let all = rows_count z legal frame.x0 rows.y0 k n r.low (omega (arith, ints, rows_are, r.high)) in
    let left = ap (λ (x : ℤ). tiles_before z.left x rows.y0 n) last in
    let right = ap (λ (x : ℤ). tiles_before z.right x rows.y0 n) last in
    record { order = omega (arith, all, left, right, er, el, fl, fr); value = omega (arith, all, left, right, er, el, fl, fr) }

abbrev before_in : Line → ℤ → RowRange → ℕ
before_in line x rows = tiles_before line x rows.y0 (natural (rows.y1 -ℤ rows.y0))

pub rows_counted : (z : Trapezoid) (frame : Frame) (rows : RowRange) (left right : Line) (r0 l1 l0 r1 : ℕ)
    → left ≡ z.left → right ≡ z.right → IsShot z → AreRowsOf z frame rows
    → r0 ≡ before_in right frame.x0 rows → l1 ≡ before_in left frame.x1 rows → l0 ≡ before_in left frame.x0 rows
    → r1 ≡ before_in right frame.x1 rows → AreRowsCounted z frame rows (r0 + l1) (l0 + r1)
rows_counted z frame rows left right r0 l1 l0 r1 el er s r p q u v =
    counted_by z frame rows r0 l1 l0 r1 s.legal r
    (p ∙ ap (λ (l : Line). before_in l frame.x0 rows) er)
    (q ∙ ap (λ (l : Line). before_in l frame.x1 rows) el)
    (u ∙ ap (λ (l : Line). before_in l frame.x0 rows) el)
    (v ∙ ap (λ (l : Line). before_in l frame.x1 rows) er)

-- ---- rows and columns in which the trapezoid has no tile

-- the trapezoid has none of the tiles
abbrev pub HasNone : Trapezoid → List Tile → Type 0
HasNone z ts = count_by (λ t. trapezoid_has t z) ts ≡ 0

not_in : (b : Bool) → (b ≡ true → ⊥) → bit b ≡ 0
not_in true h = absurd (h refl)
not_in false h = refl

row_none : (z : Trapezoid) (i j : ℤ) (k : ℕ) → ((t : Tile) → t.j ≡ j → i ≤ℤ t.i → t.i <ℤ (i +ℤ pos k) → IsInTrapezoid z t → ⊥) → HasNone z (row_tiles i j k)
row_none z i j zero none = refl
row_none z i j (suc k) none =
    let t : Tile = record { i = i; j = j; side = Left } in
    let u : Tile = record { i = i; j = j; side = Right } in
    let first = not_in (trapezoid_has t z) (λ yes. none t refl (omega (arith, ints)) (omega (arith, ints)) (has_in t z yes)) in
    let second = not_in (trapezoid_has u z) (λ yes. none u refl (omega (arith, ints)) (omega (arith, ints)) (has_in u z yes)) in
    let rest = row_none z (i +ℤ pos 1) j k (λ v e low high. none v e (omega (arith, ints, low)) (omega (arith, ints, high))) in
    let one = sum_by-cons (λ t. bit (trapezoid_has t z)) t (u ∷ row_tiles (i +ℤ pos 1) j k) in
    let two = sum_by-cons (λ t. bit (trapezoid_has t z)) u (row_tiles (i +ℤ pos 1) j k) in
    omega (arith, first, second, rest, one, two)

pub rows_none : (z : Trapezoid) (i j : ℤ) (k n : ℕ)
    → ((t : Tile) → i ≤ℤ t.i → t.i <ℤ (i +ℤ pos k) → j ≤ℤ t.j → t.j <ℤ (j +ℤ pos n) → IsInTrapezoid z t → ⊥) → HasNone z (rows_tiles i k j n)
rows_none z i j k zero none = refl
rows_none z i j k (suc n) none =
    let here = row_none z i j k (λ t e low high. none t low high (omega (arith, ints, e)) (omega (arith, ints, e))) in
    let rest = rows_none z i (j +ℤ pos 1) k n (λ t low high from under. none t low high (omega (arith, ints, from)) (omega (arith, ints, under))) in
    let sum = sum_by-append (λ t. bit (trapezoid_has t z)) (row_tiles i j k) (rows_tiles i k (j +ℤ pos 1) n) in
    omega (arith, here, rest, sum)

-- ---- rows in parts

next_first : (j : ℤ) (a : ℕ) → (j +ℤ pos 1) +ℤ pos a ≡ j +ℤ pos (suc a)
next_first j a = omega (arith, ints)

rows_split : (i j : ℤ) (k a b : ℕ) → rows_tiles i k j (a + b) ≡ rows_tiles i k j a ++ rows_tiles i k (j +ℤ pos a) b
rows_split i j k zero b =
    let e : zero + b ≡ b = omega arith in
    let f : j ≡ j +ℤ pos 0 = omega (arith, ints) in
    ap (rows_tiles i k j) e ∙ ap (λ (y : ℤ). rows_tiles i k y b) f
rows_split i j k (suc a) b =
    let e : suc a + b ≡ suc (a + b) = omega arith in
    ap (rows_tiles i k j) e
    ∙ ap (λ (l : List Tile). row_tiles i j k ++ l)
    (rows_split i (j +ℤ pos 1) k a b ∙ ap (λ (y : ℤ). rows_tiles i k (j +ℤ pos 1) a ++ rows_tiles i k y b)
    (next_first j a))
    ∙ sym (append_assoc (row_tiles i j k) (rows_tiles i k (j +ℤ pos 1) a) (rows_tiles i k (j +ℤ pos (suc a)) b))

-- where the rows below and above have none, the count is that of the rows between
count_split : (z : Trapezoid) (i j : ℤ) (k a b c : ℕ) → HasNone z (rows_tiles i k j a) → HasNone z (rows_tiles i k ((j +ℤ pos a) +ℤ pos b) c)
    → count_by (λ t. trapezoid_has t z) (rows_tiles i k j (a + (b + c))) ≡ count_by (λ t. trapezoid_has t z) (rows_tiles i k (j +ℤ pos a) b)
count_split z i j k a b c below above =
    let outer = ap (count_by (λ t. trapezoid_has t z)) (rows_split i j k a (b + c)) in
    let inner = ap (count_by (λ t. trapezoid_has t z)) (rows_split i (j +ℤ pos a) k b c) in
    let one = sum_by-append (λ t. bit (trapezoid_has t z)) (rows_tiles i k j a) (rows_tiles i k (j +ℤ pos a) (b + c)) in
    let two = sum_by-append (λ t. bit (trapezoid_has t z)) (rows_tiles i k (j +ℤ pos a) b) (rows_tiles i k ((j +ℤ pos a) +ℤ pos b) c) in
    omega (arith, outer, inner, one, two, below, above)

abbrev shared : Trapezoid → Frame → RowRange
shared z frame = row_range (int_max z.y0 frame.y0) (int_min z.y1 frame.y1)

pub shared_rows_are : (z : Trapezoid) (frame : Frame) → frame.x0 <ℤ frame.x1
    → int_max z.y0 frame.y0 <ℤ int_min z.y1 frame.y1 → AreRowsOf z frame (shared z frame)
shared_rows_are z frame wide some = record { wide = wide; low = omega (arith, ints, clamps); some = some; high = omega (arith, ints, clamps) }

pub count_shared : (z : Trapezoid) (frame : Frame) → int_max z.y0 frame.y0 <ℤ int_min z.y1 frame.y1
    → count_in_rows frame (shared z frame) z ≡ count_in_frame frame z
unfolding count_in_rows count_in_frame frame_tiles
count_shared z frame some =
    let k = natural (frame.x1 -ℤ frame.x0) in
    let low = int_max z.y0 frame.y0 in
    let high = int_min z.y1 frame.y1 in
    let a = natural (low -ℤ frame.y0) in
    let b = natural (high -ℤ low) in
    let c = natural (frame.y1 -ℤ high) in
    let from : frame.y0 ≤ℤ low = omega (arith, ints, clamps) in
    let under : high ≤ℤ frame.y1 = omega (arith, ints, clamps) in
    let cut_low : (z.y0 ≤ℤ low) × (low ≤ℤ int_max z.y0 frame.y0) = (omega (arith, ints, clamps), omega (arith, ints)) in
    let na = natural_is (low -ℤ frame.y0) (omega (arith, ints, from)) in
    let nb = natural_is (high -ℤ low) (omega (arith, ints, some)) in
    let nc = natural_is (frame.y1 -ℤ high) (omega (arith, ints, under)) in
    let nn = natural_is (frame.y1 -ℤ frame.y0) (omega (arith, ints, from, some, under)) in
    let e : frame.y0 +ℤ pos a ≡ low = omega (arith, ints, na) in
    let f : (frame.y0 +ℤ pos a) +ℤ pos b ≡ high = omega (arith, ints, na, nb) in
    let g : natural (frame.y1 -ℤ frame.y0) ≡ a + (b + c) = omega (arith, ints, na, nb, nc, nn) in
    let below : HasNone z (rows_tiles frame.x0 k frame.y0 a) = rows_none z frame.x0 frame.y0 k a
    (λ t l r d u h. below_none t (omega (arith, ints, u, e)) d h) in
    let above : HasNone z (rows_tiles frame.x0 k ((frame.y0 +ℤ pos a) +ℤ pos b) c) =
    rows_none z frame.x0 ((frame.y0 +ℤ pos a) +ℤ pos b) k c (λ t l r d u h. above_none t (omega (arith, ints, d, f)) (omega (arith, ints, u, f, nc)) h) in
    let parts = count_split z frame.x0 frame.y0 k a b c below above in
    sym (ap (λ (n : ℕ). count_by (λ t. trapezoid_has t z) (rows_tiles frame.x0 k frame.y0 n)) g ∙ parts ∙ ap
    (λ (y : ℤ). count_by (λ t. trapezoid_has t z) (rows_tiles frame.x0 k y b)) e)
  where
    below_none : (t : Tile) → t.j <ℤ int_max z.y0 frame.y0 → frame.y0 ≤ℤ t.j → IsInTrapezoid z t → ⊥
    below_none t u d h = let low = h.above_bottom in omega (arith, ints, clamps)

    above_none : (t : Tile) → int_min z.y1 frame.y1 ≤ℤ t.j → t.j <ℤ frame.y1 → IsInTrapezoid z t → ⊥
    above_none t d u h = let high = h.below_top in omega (arith, ints, clamps)

-- a frame without columns has none
pub none_wide : (z : Trapezoid) (frame : Frame) → frame.x1 ≤ℤ frame.x0 → 0 ≡ count_in_frame frame z
unfolding count_in_frame frame_tiles
none_wide z frame narrow =
    let k = natural_none (frame.x1 -ℤ frame.x0) (omega (arith, ints, narrow)) in
    let none = rows_none z frame.x0 frame.y0 (natural (frame.x1 -ℤ frame.x0)) (natural (frame.y1 -ℤ frame.y0)) (λ t l r d u h. omega (arith, ints, l, r, k)) in
    sym none

-- nor has one that shares no row
pub none_shared : (z : Trapezoid) (frame : Frame) → IsLegal z → (int_max z.y0 frame.y0 <ℤ int_min z.y1 frame.y1 → ⊥) → 0 ≡ count_in_frame frame z
unfolding count_in_frame frame_tiles
none_shared z frame legal apart =
    sym (rows_none z frame.x0 frame.y0 (natural (frame.x1 -ℤ frame.x0)) (natural (frame.y1 -ℤ frame.y0)) (λ t l r d u h. apart (shares t d (under t d u) h)))
  where
    under : (t : Tile) → frame.y0 ≤ℤ t.j → t.j <ℤ (frame.y0 +ℤ pos (natural (frame.y1 -ℤ frame.y0))) → t.j <ℤ frame.y1
    under t d u = by_lt_z frame.y0 frame.y1
        (λ less. (let n = natural_is (frame.y1 -ℤ frame.y0) (omega (arith, ints, less)) in omega (arith, ints, n, u)))
        (λ more. absurd (let n = natural_none (frame.y1 -ℤ frame.y0) (omega (arith, ints, more)) in omega (arith, ints, n, u, d)))

    shares : (t : Tile) → frame.y0 ≤ℤ t.j → t.j <ℤ frame.y1 → IsInTrapezoid z t → int_max z.y0 frame.y0 <ℤ int_min z.y1 frame.y1
    shares t d u h = let low = h.above_bottom in let high = h.below_top in omega (arith, ints, clamps)

-- ---- the shared rows as the code finds them

pub shared_is : (r : Option RowRange) (z : Trapezoid) (frame : Frame) (low high : ℤ) → low ≡ int_max z.y0 frame.y0 → high ≡ int_min z.y1 frame.y1 → low <ℤ high
    → SomeIff r (IsWindow (row_range low high)) (row_range low high)
    → SomeIff r (int_max z.y0 frame.y0 <ℤ int_min z.y1 frame.y1) (row_range (int_max z.y0 frame.y0) (int_min z.y1 frame.y1))
shared_is None z frame low high e f some h = absurd (h (omega (arith, ints, some)))
shared_is (Some w) z frame low high e f some h = (rw (← e, ← f) some, h.1 ∙ ap (λ (y : ℤ). row_range y high) e ∙ ap (row_range (int_max z.y0 frame.y0)) f)
