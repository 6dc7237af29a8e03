-- START's unit, and what a record that stands gives.
use Rattle.std.proofs.Common.{◌≡◌, ◌↔◌, ◌<◌, ◌^◌, ◌∙◌, ℕ, nat_eq, IsTrue, Option, Some, None, pos, w64, FitsSigned, to_z, of_z, ℤ, sym, ap, subst, arith}
use Rattle.std.specs.Prelude.{unsigned_abs}
use Rattle.std.proofs.lemmas.Int.{to_z-of_z, ints}
use Rattle.std.proofs.lemmas.Grind.{common_steps}
use Rattle.oas_lex.specs.Reals.{IsWholeOasisReal}
use Rattle.oas_lex.specs.declared.reals.Real.{Real}

same_bits : (a b : ℕ) → IsTrue (nat_eq a b) → a ≡ b
same_bits a b h = grind (arith, common_steps)

to_bits : (a b : ℕ) → a ≡ b → IsTrue (nat_eq a b)
to_bits a b h = grind (arith, common_steps)

small_fits : (a : ℤ) → unsigned_abs a < 2 ^ 32 → FitsSigned w64 a
small_fits a h = omega (arith, ints)

same_signed : (a b : ℤ) → unsigned_abs a < 2 ^ 32 → unsigned_abs b < 2 ^ 32 → IsTrue (nat_eq (of_z w64 a) (of_z w64 b)) → a ≡ b
same_signed a b small few h =
    sym (to_z-of_z w64 a (small_fits a small)) ∙ ap (to_z w64) (same_bits (of_z w64 a) (of_z w64 b) h) ∙ to_z-of_z w64 b (small_fits b few)

some_same : (a b : ℤ) (o : Option ℤ) → o ≡ Some a → o ≡ Some b → a ≡ b
some_same a b o p q = let e : Some a ≡ Some b = sym p ∙ q in cc

-- a real is the unit where the whole number that it equals is
pub unit_is : (real : Real) (whole : ℤ) (unit : ℕ) (from : ℤ) (o : Option ℤ) → ((n : ℤ) → (o ≡ Some n) ↔ IsWholeOasisReal real n) → o ≡ Some whole → unit < 2 ^ 32
    → from ≡ pos unit → IsTrue (nat_eq (of_z w64 whole) (of_z w64 from)) ↔ IsWholeOasisReal real (pos unit)
unit_is real whole unit from o iff is small from_is =
    subst (λ f. IsTrue (nat_eq (of_z w64 whole) (of_z w64 f)) ↔ IsWholeOasisReal real (pos unit)) (sym from_is) (
    let holds : IsWholeOasisReal real whole = (iff whole).0 is in
    let few : unsigned_abs whole < 2 ^ 24 = holds.small in (
      λ same. subst (IsWholeOasisReal real) (same_signed whole (pos unit) (omega (arith, few)) (omega (arith, small)) same) holds,
      λ wanted. let e : whole ≡ pos unit = some_same whole (pos unit) o is ((iff (pos unit)).1 wanted) in
          to_bits (of_z w64 whole) (of_z w64 (pos unit)) (ap (of_z w64) e),
    )
    )

pub no_unit : (real : Real) (unit : ℕ) (o : Option ℤ) → ((n : ℤ) → (o ≡ Some n) ↔ IsWholeOasisReal real n) → o ≡ None → IsWholeOasisReal real (pos unit) → ⊥
no_unit real unit o iff none wanted = let e : None ≡ Some (pos unit) = sym none ∙ (iff (pos unit)).1 wanted in absurd (cc)
