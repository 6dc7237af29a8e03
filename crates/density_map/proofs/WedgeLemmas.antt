-- The tiles right of an upright line and left of another line, in closed form.
use Rattle.std.proofs.Common.{ℕ, zero, suc, ◌+◌, ◌*◌, ◌≤◌, ◌≡◌, ℤ, pos, negsuc, ◌+ℤ◌, ◌-ℤ◌, ◌≤ℤ◌, arith, ap, subst, mul-le-mul, ◌-◌, ◌∙◌, sym}
use Rattle.std.proofs.lemmas.Int.{ints}
use Rattle.half_grid.specs.Lines.{x_on}
use Rattle.half_grid.specs.Halves.{twice}
use Rattle.half_grid.specs.Rows.{place}
use Rattle.half_grid.specs.declared.plane.Line.{Line}
use Rattle.half_grid.specs.declared.plane.Line.TheVariants.{Upright, Rising, Falling}
use Rattle.density_map.specs.Frames.{natural}
use Rattle.density_map.specs.Wedges.{row_before, tiles_before}
use Rattle.density_map.proofs.Numbers.{square, odd_step, natural_is, natural_none}

next_row : (j : ℤ) (n : ℕ) → (j +ℤ pos 1) +ℤ pos n ≡ j +ℤ pos (suc n)
next_row j n = omega (arith, ints)

same_row : (j : ℤ) → j +ℤ pos 0 ≡ j
same_row j = omega (arith, ints)

-- how far the line lies right of X = x at Y = y
abbrev pub beyond : Line → ℤ → ℤ → ℤ
beyond line x y = x_on line y -ℤ x

rising_row : (c x j : ℤ) → place (Rising c) j -ℤ twice x ≡ (beyond (Rising c) x j +ℤ beyond (Rising c) x j) +ℤ pos 1
rising_row c x j = omega (arith, ints)

rising_next : (c x j : ℤ) → beyond (Rising c) x j +ℤ pos 1 ≡ beyond (Rising c) x (j +ℤ pos 1)
rising_next c x j = omega (arith, ints)

rising_step : (c x j : ℤ) → row_before (Rising c) x j + square (beyond (Rising c) x j) ≡ square (beyond (Rising c) x (j +ℤ pos 1))
rising_step c x j =
    ap (λ (z : ℤ). natural z + square (beyond (Rising c) x j)) (rising_row c x j)
    ∙ odd_step (beyond (Rising c) x j)
    ∙ ap square (rising_next c x j)

pub rising_sum : (c x j : ℤ) (n : ℕ) → tiles_before (Rising c) x j n + square (beyond (Rising c) x j) ≡ square (beyond (Rising c) x (j +ℤ pos n))
rising_sum c x j zero = let e = ap (λ (y : ℤ). square (beyond (Rising c) x y)) (same_row j) in omega (arith, e)
rising_sum c x j (suc n) =
    let here = rising_step c x j in
    let rest = rising_sum c x (j +ℤ pos 1) n in
    let sum : tiles_before (Rising c) x j (suc n) + square (beyond (Rising c) x j) ≡ square
    (beyond (Rising c) x ((j +ℤ pos 1) +ℤ pos n)) = omega (arith, here, rest) in
    sum ∙ ap (λ (y : ℤ). square (beyond (Rising c) x y)) (next_row j n)

falling_row : (c x j : ℤ) → place (Falling c) j -ℤ twice x ≡ (beyond (Falling c) x (j +ℤ pos 1) +ℤ beyond (Falling c) x (j +ℤ pos 1)) +ℤ pos 1
falling_row c x j = omega (arith, ints)

falling_next : (c x j : ℤ) → beyond (Falling c) x (j +ℤ pos 1) +ℤ pos 1 ≡ beyond (Falling c) x j
falling_next c x j = omega (arith, ints)

falling_step : (c x j : ℤ) → row_before (Falling c) x j + square (beyond (Falling c) x (j +ℤ pos 1)) ≡ square (beyond (Falling c) x j)
falling_step c x j =
    ap (λ (z : ℤ). natural z + square (beyond (Falling c) x (j +ℤ pos 1))) (falling_row c x j)
    ∙ odd_step (beyond (Falling c) x (j +ℤ pos 1))
    ∙ ap square (falling_next c x j)

pub falling_sum : (c x j : ℤ) (n : ℕ) → tiles_before (Falling c) x j n + square (beyond (Falling c) x (j +ℤ pos n)) ≡ square (beyond (Falling c) x j)
falling_sum c x j zero = let e = ap (λ (y : ℤ). square (beyond (Falling c) x y)) (same_row j) in omega (arith, e)
falling_sum c x j (suc n) =
    let here = falling_step c x j in
    let rest = falling_sum c x (j +ℤ pos 1) n in
    let moved = ap (λ (y : ℤ). square (beyond (Falling c) x y)) (next_row j n) in
    omega (arith, here, rest, moved)

double_by : (z : ℤ) → natural (z +ℤ z) ≡ 2 * natural z
double_by (pos n) = omega arith
double_by (negsuc n) = natural_none (negsuc n +ℤ negsuc n) (omega (arith, ints))

upright_row : (c x j : ℤ) → row_before (Upright c) x j ≡ 2 * natural (c -ℤ x)
upright_row c x j =
    let e : place (Upright c) j -ℤ twice x ≡ (c -ℤ x) +ℤ (c -ℤ x) = omega (arith, ints) in
    ap natural e ∙ double_by (c -ℤ x)

more_rows : (b n : ℕ) → b + b * n ≡ b * suc n
more_rows b n = omega arith

pub upright_sum : (c x j : ℤ) (n : ℕ) → 2 * natural (c -ℤ x) * n ≡ tiles_before (Upright c) x j n
upright_sum c x j zero = omega arith
upright_sum c x j (suc n) =
    let here = upright_row c x j in
    let rest = upright_sum c x (j +ℤ pos 1) n in
    let more = more_rows (2 * natural (c -ℤ x)) n in
    omega (arith, here, rest, more)

-- ---- with the numbers that the code has: p and q are the first row and the row after the last

to_last : (y0 y1 : ℤ) → y0 ≤ℤ y1 → y0 +ℤ pos (natural (y1 -ℤ y0)) ≡ y1
to_last y0 y1 h = let n = natural_is (y1 -ℤ y0) (omega (arith, ints, h)) in omega (arith, ints, n)

squares : (line : Line) (x y p : ℤ) (far far2 : ℕ) → p ≡ y → far ≡ natural (beyond line x p) → far2 ≡ far * far → far2 ≡ square (beyond line x y)
squares line x y p far far2 e f g = g ∙ ap (λ (n : ℕ). n * n) (f ∙ ap (λ (z : ℤ). natural (beyond line x z)) e)

-- the bounds of a rising line's triangle, and of a falling one's
pub record AreRising (line : Line) (x y0 y1 : ℤ) (bottom top : ℕ) : Type 0 where
  pub order : bottom ≤ top
  pub value : top - bottom ≡ tiles_before line x y0 (natural (y1 -ℤ y0))

rising_by : (c x y0 y1 : ℤ) (bottom top : ℕ) → y0 ≤ℤ y1 → bottom ≡ square (beyond (Rising c) x y0)
    → top ≡ square (beyond (Rising c) x y1) → AreRising (Rising c) x y0 y1 bottom top
rising_by c x y0 y1 bottom top h e f =
    let s = rising_sum c x y0 (natural (y1 -ℤ y0)) in
    let last = ap (λ (z : ℤ). square (beyond (Rising c) x z)) (to_last y0 y1 h) in
    record { order = omega (arith, s, last, e, f); value = omega (arith, s, last, e, f) }

pub rising_is : (line : Line) (c x y0 y1 p q : ℤ) (bottom top bottom2 top2 : ℕ) → line ≡ Rising c → y0 ≤ℤ y1 → p ≡ y0 → q ≡ y1
    → bottom ≡ natural (beyond line x p) → top ≡ natural (beyond line x q) → bottom2 ≡ bottom * bottom → top2 ≡ top * top → AreRising line x y0 y1 bottom2 top2
rising_is line c x y0 y1 p q bottom top bottom2 top2 e h ep eq eb et eb2 et2 =
    let low = squares line x y0 p bottom bottom2 ep eb eb2 in
    let high = squares line x y1 q top top2 eq et et2 in
    subst (λ (l : Line). AreRising l x y0 y1 bottom2 top2) (sym e)
    (rising_by c x y0 y1 bottom2 top2 h (subst (λ (l : Line). bottom2 ≡ square (beyond l x y0)) e low)
    (subst (λ (l : Line). top2 ≡ square (beyond l x y1)) e high))

pub record AreFalling (line : Line) (x y0 y1 : ℤ) (bottom top : ℕ) : Type 0 where
  pub order : top ≤ bottom
  pub value : bottom - top ≡ tiles_before line x y0 (natural (y1 -ℤ y0))

falling_by : (c x y0 y1 : ℤ) (bottom top : ℕ) → y0 ≤ℤ y1 → bottom ≡ square (beyond (Falling c) x y0)
    → top ≡ square (beyond (Falling c) x y1) → AreFalling (Falling c) x y0 y1 bottom top
falling_by c x y0 y1 bottom top h e f =
    let s = falling_sum c x y0 (natural (y1 -ℤ y0)) in
    let last = ap (λ (z : ℤ). square (beyond (Falling c) x z)) (to_last y0 y1 h) in
    record { order = omega (arith, s, last, e, f); value = omega (arith, s, last, e, f) }

pub falling_is : (line : Line) (c x y0 y1 p q : ℤ) (bottom top bottom2 top2 : ℕ) → line ≡ Falling c → y0 ≤ℤ y1 → p ≡ y0 → q ≡ y1
    → bottom ≡ natural (beyond line x p) → top ≡ natural (beyond line x q) → bottom2 ≡ bottom * bottom → top2 ≡ top * top → AreFalling line x y0 y1 bottom2 top2
falling_is line c x y0 y1 p q bottom top bottom2 top2 e h ep eq eb et eb2 et2 =
    let low = squares line x y0 p bottom bottom2 ep eb eb2 in
    let high = squares line x y1 q top top2 eq et et2 in
    subst (λ (l : Line). AreFalling l x y0 y1 bottom2 top2) (sym e)
    (falling_by c x y0 y1 bottom2 top2 h (subst (λ (l : Line). bottom2 ≡ square (beyond l x y0)) e low)
    (subst (λ (l : Line). top2 ≡ square (beyond l x y1)) e high))

upright_by : (c x y0 : ℤ) (n bottom twofold : ℕ) → bottom ≡ natural (c -ℤ x) → twofold ≡ 2 * bottom → twofold * n ≡ tiles_before (Upright c) x y0 n
upright_by c x y0 n bottom twofold e f = ap (λ (b : ℕ). b * n) (f ∙ ap (λ (b : ℕ). 2 * b) e) ∙ upright_sum c x y0 n

pub upright_is : (line : Line) (c x y0 p : ℤ) (n height bottom twofold : ℕ) → line ≡ Upright c → height ≡ n
    → bottom ≡ natural (beyond line x p) → twofold ≡ 2 * bottom → twofold * height ≡ tiles_before line x y0 n
upright_is line c x y0 p n height bottom twofold e eh eb ef =
    ap (λ (h : ℕ). twofold * h) eh
    ∙ upright_by c x y0 n bottom twofold (subst (λ (l : Line). bottom ≡ natural (beyond l x p)) e eb) ef
    ∙ ap (λ (l : Line). tiles_before l x y0 n) (sym e)

-- products of two numbers in their bounds
pub product_small : (a b m n : ℕ) → a ≤ m → b ≤ n → a * b ≤ m * n
product_small a b m n h k = mul-le-mul h k
