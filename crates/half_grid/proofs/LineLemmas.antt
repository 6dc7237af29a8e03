-- The line through two points, as a fact on points.
use Rattle.std.proofs.Common.{◌≡◌, ◌≢◌, Bool, true, false, ℤ, ◌+ℤ◌, ◌-ℤ◌, arith, refl, ap, ◌∙◌, sym, Some, None, if◌then◌else◌, ◌&&◌, IfSome, IfNone}
use Rattle.std.proofs.lemmas.Int.{ints}
use Rattle.std.proofs.Common.{of_z}
use mir.Syntax.{Width}
use Rattle.std.specs.Ordering.{int_eq}
use Rattle.half_grid.specs.Halves.{half, is_even, twice}
use Rattle.half_grid.specs.Lines.{Passes, line_of, share_rising, share_falling}
use Rattle.half_grid.specs.declared.plane.Point.{Point}
use Rattle.half_grid.specs.declared.plane.Line.{Line}
use Rattle.half_grid.specs.declared.plane.Line.TheVariants.{Upright, Rising, Falling}
use Rattle.half_grid.proofs.Halves.{half_even, half_odd}

pub int_eq_true : (x y : ℤ) → int_eq x y ≡ true → x ≡ y
int_eq_true x y h = grind (arith, ints)

pub int_eq_false : (x y : ℤ) → int_eq x y ≡ false → x ≢ y
int_eq_false x y h = grind (arith, ints)

pub int_eq_same : (x y : ℤ) → x ≡ y → int_eq x y ≡ true
int_eq_same x y h = grind (arith, ints)

pub int_eq_other : (x y : ℤ) → x ≢ y → int_eq x y ≡ false
int_eq_other x y h = grind (arith, ints)

-- a test `==` that failed on the bits of two numbers
pub bits_differ : (w : Width) (x y : ℤ) → (of_z w x ≡ of_z w y → ⊥) → int_eq x y ≡ false
bits_differ w x y h = int_eq_other x y (λ e. h (ap (of_z w) e))

pub line_of_rising : (a b : Point) (n : ℤ) → int_eq a.y b.y ≡ false → int_eq a.x b.x ≡ false → share_rising a b ≡ true
    → n ≡ half (a.x -ℤ a.y) → Some (Rising n) ≡ line_of a b
unfolding line_of
line_of_rising a b n ey ex er e = rw (ey, ex, er) (ap (λ m. Some (Rising m)) e)

pub line_of_falling : (a b : Point) (n : ℤ) → int_eq a.y b.y ≡ false → int_eq a.x b.x ≡ false
    → share_rising a b ≡ false → share_falling a b ≡ true → n ≡ half (a.x +ℤ a.y) → Some (Falling n) ≡ line_of a b
unfolding line_of
line_of_falling a b n ey ex er ef e = rw (ey, ex, er, ef) (ap (λ m. Some (Falling m)) e)

pub line_of_no : (a b : Point) → int_eq a.y b.y ≡ false → int_eq a.x b.x ≡ false → share_rising a b ≡ false → share_falling a b ≡ false → None ≡ line_of a b
unfolding line_of
line_of_no a b ey ex er ef = rw (ey, ex, er, ef) refl

pub and_both : (p q : Bool) → p && q ≡ true → (p ≡ true) × (q ≡ true)
and_both true q h = (refl, h)
and_both false q h = absurd (let no : ⊥ = cc in no)

and_here : (p q : Bool) → p ≡ true → q ≡ true → p && q ≡ true
and_here p q h k = rw (h, k) refl

true_or_false : (b : Bool) → (b ≡ false → ⊥) → b ≡ true
true_or_false true h = refl
true_or_false false h = absurd (h refl)

even_twice : (z c : ℤ) → z ≡ twice c → is_even z ≡ true
even_twice z c e = true_or_false (is_even z) (λ odd. omega (arith, ints, half_odd z odd, e))

rising_through : (a b : Point) → share_rising a b ≡ true → Passes (Rising (half (a.x -ℤ a.y))) a × Passes (Rising (half (a.x -ℤ a.y))) b
rising_through a b h =
    let p = and_both (is_even (a.x -ℤ a.y)) (int_eq (a.x -ℤ a.y) (b.x -ℤ b.y)) h in
    let e : a.x -ℤ a.y ≡ b.x -ℤ b.y = int_eq_true _ _ p.1 in
    (omega (arith, ints, half_even (a.x -ℤ a.y) p.0), omega (arith, ints, half_even (a.x -ℤ a.y) p.0, e))

falling_through : (a b : Point) → share_falling a b ≡ true → Passes (Falling (half (a.x +ℤ a.y))) a × Passes (Falling (half (a.x +ℤ a.y))) b
falling_through a b h =
    let p = and_both (is_even (a.x +ℤ a.y)) (int_eq (a.x +ℤ a.y) (b.x +ℤ b.y)) h in
    let e : a.x +ℤ a.y ≡ b.x +ℤ b.y = int_eq_true _ _ p.1 in
    (omega (arith, ints, half_even (a.x +ℤ a.y) p.0), omega (arith, ints, half_even (a.x +ℤ a.y) p.0, e))

rising_shared : (a b : Point) (c : ℤ) → Passes (Rising c) a → Passes (Rising c) b → share_rising a b ≡ true
rising_shared a b c ha hb =
    let ea : a.x -ℤ a.y ≡ twice c = omega (arith, ints, ha) in
    let eb : a.x -ℤ a.y ≡ b.x -ℤ b.y = omega (arith, ints, ha, hb) in
    and_here _ _ (even_twice _ c ea) (int_eq_same _ _ eb)

falling_shared : (a b : Point) (c : ℤ) → Passes (Falling c) a → Passes (Falling c) b → share_falling a b ≡ true
falling_shared a b c ha hb =
    let ea : a.x +ℤ a.y ≡ twice c = omega (arith, ints, ha) in
    let eb : a.x +ℤ a.y ≡ b.x +ℤ b.y = omega (arith, ints, ha, hb) in
    and_here _ _ (even_twice _ c ea) (int_eq_same _ _ eb)

through_by : (ty tx tr tf : Bool) (a b : Point) → int_eq a.y b.y ≡ ty → int_eq a.x b.x ≡ tx → share_rising a b ≡ tr → share_falling a b ≡ tf
    → IfSome (if ty then None else if tx then Some (Upright a.x) else if tr then Some
    (Rising (half (a.x -ℤ a.y))) else if tf then Some (Falling (half (a.x +ℤ a.y))) else None)
    (λ line. Passes line a × Passes line b × (a.y ≢ b.y))
through_by true tx tr tf a b ey ex er ef = tt
through_by false true tr tf a b ey ex er ef = (refl, sym (int_eq_true _ _ ex), int_eq_false _ _ ey)
through_by false false true tf a b ey ex er ef = let p = rising_through a b er in (p.0, p.1, int_eq_false _ _ ey)
through_by false false false true a b ey ex er ef = let p = falling_through a b ef in (p.0, p.1, int_eq_false _ _ ey)
through_by false false false false a b ey ex er ef = tt

-- The line of two points passes through both, and they have different Y.
pub line_of_through : (a b : Point) → IfSome (line_of a b) (λ line. Passes line a × Passes line b × (a.y ≢ b.y))
unfolding line_of
line_of_through a b = through_by _ _ _ _ a b refl refl refl refl

no_clash : {P : Type 0} (b : Bool) → b ≡ false → b ≡ true → P
no_clash b h k = absurd (let no : ⊥ = cc in no)

no_line : (a b : Point) → int_eq a.x b.x ≡ false → share_rising a b ≡ false → share_falling a b ≡ false → (line : Line)
    → Passes line a → Passes line b → a.y ≡ b.y
no_line a b ex er ef (Upright c) pa pb = absurd (int_eq_false _ _ ex (pa ∙ sym pb))
no_line a b ex er ef (Rising c) pa pb = no_clash _ er (rising_shared a b c pa pb)
no_line a b ex er ef (Falling c) pa pb = no_clash _ ef (falling_shared a b c pa pb)

none_by : (ty tx tr tf : Bool) (a b : Point) → int_eq a.y b.y ≡ ty → int_eq a.x b.x ≡ tx → share_rising a b ≡ tr → share_falling a b ≡ tf
    → IfNone (if ty then None else if tx then Some (Upright a.x) else if tr then Some
    (Rising (half (a.x -ℤ a.y))) else if tf then Some (Falling (half (a.x +ℤ a.y))) else None)
    ((line : Line) → Passes line a → Passes line b → a.y ≡ b.y)
none_by true tx tr tf a b ey ex er ef = λ line pa pb. int_eq_true _ _ ey
none_by false true tr tf a b ey ex er ef = tt
none_by false false true tf a b ey ex er ef = tt
none_by false false false true a b ey ex er ef = tt
none_by false false false false a b ey ex er ef = no_line a b ex er ef

-- Where there is none, no line of the three kinds passes through both, or they have the same Y.
pub line_of_none : (a b : Point) → IfNone (line_of a b) ((line : Line) → Passes line a → Passes line b → a.y ≡ b.y)
unfolding line_of
line_of_none a b = none_by _ _ _ _ a b refl refl refl refl
