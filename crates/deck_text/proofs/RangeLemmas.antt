-- Numbers in range.
use Rattle.std.proofs.Common.{◌≡◌, Bool, true, false, ◌||◌, List, [], ◌∷◌, Option, Some, None, refl, sym, subst, arith}
use Rattle.std.specs.Prelude.{ℤ, pos, negsuc, ◌≤ℤ◌, ◌+ℤ◌, int_lt, unsigned_abs, FitsSigned}
use Rattle.std.proofs.lemmas.Int.{ints}
use Rattle.std.proofs.lemmas.Bool.{false≢true}
use mir.Val.{Fits}
use mir.Syntax.{w64}
use lib.Dec.{T}
use Rattle.deck_text.specs.Statements.{Statement, Sets, Defines, Writes, UnitIs, TopIs, BandIs, LimitsAre, FrameIs}
use Rattle.deck_text.specs.Rules.{Bound, bound, is_outside, first_outside, within_reach, above, out_of_range}
use Rattle.deck_text.specs.Decks.{unit_of}

neither : (a b : Bool) → (a || b) ≡ false → (a ≡ false) × (b ≡ false)
neither true b e = absurd (false≢true (sym e))
neither false b e = (refl, e)

-- the first is inside, and so are the others
pub inside_split : (b : Bound) (rest : List Bound) (o : Bool) → is_outside b ≡ o → first_outside (b ∷ rest) ≡ None
    → (is_outside b ≡ false) × (first_outside rest ≡ None)
inside_split b rest true e h = absurd (let g = rw e at h in cc)
inside_split b rest false e h = (e, rw e at h)

pub record IsInside (b : Bound) : Type 0 where
  pub low : b.low ≤ℤ b.value
  pub high : b.value ≤ℤ b.high

not_less : (x y : ℤ) → int_lt x y ≡ false → y ≤ℤ x
not_less x y e = grind (arith, ints)

pub is_inside : (b : Bound) → is_outside b ≡ false → IsInside b
is_inside b e =
    let n = neither (int_lt b.value b.low) (int_lt b.high b.value) e in
    record { low = not_less b.value b.low n.0; high = not_less b.high b.value n.1 }

unit_inside : (n : ℤ) → out_of_range (Sets (UnitIs n)) ≡ None → IsInside (bound n (pos 1) (pos 1000000))
unfolding out_of_range
unit_inside n h = is_inside (bound n (pos 1) (pos 1000000))
    (inside_split (bound n (pos 1) (pos 1000000)) [] (is_outside (bound n (pos 1) (pos 1000000))) refl h).0

abbrev pub some : ℤ → Option ℤ
some n = Some n

pub same_some : (m n : ℤ) → some m ≡ some n → m ≡ n
same_some m n e = cc

-- a unit in range
pub unit_range : (s : Statement) (n : ℤ) → out_of_range s ≡ None → unit_of s ≡ Some n → IsInside (bound n (pos 1) (pos 1000000))
unit_range (Sets (UnitIs m)) n h e = subst (λ (z : ℤ). IsInside (bound z (pos 1) (pos 1000000))) (same_some m n e) (unit_inside m h)
unit_range (Sets (TopIs cell)) n h e = absurd cc
unit_range (Sets (BandIs rows)) n h e = absurd cc
unit_range (Sets (LimitsAre height width)) n h e = absurd cc
unit_range (Sets (FrameIs x0 y0 x1 y1)) n h e = absurd cc
unit_range (Defines name operation) n h e = absurd cc
unit_range (Writes a file layer datatype) n h e = absurd cc

pub small_fits : (n : ℤ) → IsInside (bound n (pos 1) (pos 1000000)) → FitsSigned w64 n
small_fits n h = omega (arith, ints)

value : (n : ℤ) → pos 1 ≤ℤ n → n ≡ pos (unsigned_abs n)
value (pos n) low = refl
value (negsuc n) low = absurd (omega (arith, ints))

-- ---- the frame

pub reach_next : (x : ℤ) → is_outside (within_reach x) ≡ false → FitsSigned w64 (x +ℤ pos 1)
reach_next x e =
    let h = is_inside (within_reach x) e in
    omega (arith, ints, h.low, h.high)

pub third_outside : (x0 y0 x1 y1 : ℤ) → is_outside (within_reach x0) ≡ false → is_outside (within_reach y0) ≡ false → is_outside (above x0 x1) ≡ true
    → Some x1 ≡ first_outside (within_reach x0 ∷ within_reach y0 ∷ above x0 x1 ∷ above y0 y1 ∷ [])
third_outside x0 y0 x1 y1 a b c = rw (a, b, c) refl

pub fourth_outside : (x0 y0 x1 y1 : ℤ) → is_outside (within_reach x0) ≡ false → is_outside (within_reach y0) ≡ false → is_outside (above x0 x1) ≡ false
    → first_outside (above y0 y1 ∷ []) ≡ first_outside (within_reach x0 ∷ within_reach y0 ∷ above x0 x1 ∷ above y0 y1 ∷ [])
fourth_outside x0 y0 x1 y1 a b c = rw (a, b, c) refl
