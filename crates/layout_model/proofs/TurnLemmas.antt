-- The factor and the quarter turns of a placement, by the real that says them.
use Rattle.std.proofs.Common.{◌≡◌, ℕ, zero, suc, ◌*◌, ◌/◌, ◌%◌, ◌<◌, ◌≤◌, inl, inr, refl, sym, ap, subst, ◌∙◌, arith, Option, Some, None}
use Rattle.std.specs.Prelude.{IfSome, IfNone, ℤ, pos, negsuc, ◌*ℤ◌, ◌≤ℤ◌, neg_ℤ, unsigned_abs}
use Rattle.std.proofs.lemmas.Int.{ints}
use Rattle.layout_model.specs.Turns.{IsTurn, turns_by, IsFactorBy, IsQuarterAngleBy}

-- ---- numbers

pub factor_bounds : (z : ℤ) (r : Option ℕ) → IfSome r (λ f. (z ≡ pos f) × (1 ≤ f) × (f ≤ 16)) → IfSome r (λ f. (1 ≤ f) × (f ≤ 16))
factor_bounds z None some = some
factor_bounds z (Some f) some = (some.1, some.2)

few_turns : (z : ℤ) (t : ℕ) → IsTurn z t → t < 4
few_turns z t (inl (e, a)) = omega arith
few_turns z t (inr (inl (e, a))) = omega arith
few_turns z t (inr (inr (inl (e, a)))) = omega arith
few_turns z t (inr (inr (inr (e, a)))) = omega arith

pub turns_few : (z : ℤ) (r : Option ℕ) → IfSome r (λ t. IsTurn z t) → IfSome r (λ t. t < 4)
turns_few z None some = some
turns_few z (Some t) some = few_turns z t some

pos_turn : (q : ℕ) → q ≤ 4 → (t : ℕ) × IsTurn (pos 90 *ℤ pos q) t
pos_turn zero h = (0, inl (refl, inl refl))
pos_turn (suc zero) h = (1, inr (inl (refl, inl refl)))
pos_turn (suc (suc zero)) h = (2, inr (inr (inl (refl, inl refl))))
pos_turn (suc (suc (suc zero))) h = (3, inr (inr (inr (refl, inl refl))))
pos_turn (suc (suc (suc (suc zero)))) h = (0, inl (refl, inr (inl refl)))
pos_turn (suc (suc (suc (suc (suc q))))) h = absurd (omega arith)

neg_turn : (q : ℕ) → q ≤ 3 → (t : ℕ) × IsTurn (pos 90 *ℤ negsuc q) t
neg_turn zero h = (3, inr (inr (inr (refl, inr refl))))
neg_turn (suc zero) h = (2, inr (inr (inl (refl, inr refl))))
neg_turn (suc (suc zero)) h = (1, inr (inl (refl, inr refl)))
neg_turn (suc (suc (suc zero))) h = (0, inl (refl, inr (inr refl)))
neg_turn (suc (suc (suc (suc q)))) h = absurd (omega arith)

some_turn : (q : ℤ) → neg_ℤ (pos 4) ≤ℤ q → q ≤ℤ pos 4 → (t : ℕ) × IsTurn (pos 90 *ℤ q) t
some_turn (pos q) low high = pos_turn q (omega (arith, ints))
some_turn (negsuc q) low high = neg_turn q (omega (arith, ints))

zero_turns : (sign : ℕ) → turns_by sign (0 / 90) ≡ 0
zero_turns zero = refl
zero_turns (suc sign) = refl

-- ---- reals

-- the real is one whole number at most, which has this sign and this size
pub record IsOneReal (W : ℤ → Type 0) (sign size : ℕ) : Type 0 where
  pub one : (z w : ℤ) → W z → W w → z ≡ w
  pub size_is : (z : ℤ) → W z → size ≡ unsigned_abs z
  pub up : (n : ℕ) → W (pos (suc n)) → sign ≡ 0
  pub down : (n : ℕ) → W (negsuc n) → (s : ℕ) × (sign ≡ suc s)

module _ (W : ℤ → Type 0) (sign size : ℕ) (real : IsOneReal W sign size) where
  pub factor_some : (z : ℤ) (r : Option ℕ) → W z → IfSome r (λ f. (z ≡ pos f) × (1 ≤ f) × (f ≤ 16)) → IfSome r (λ f. IsFactorBy W × (f ≡ size))
  factor_some z None is some = some
  factor_some z (Some f) is some =
      let same : W (pos f) = subst W some.0 is in
      ((f, same, some.1, some.2), sym (real.size_is (pos f) same))

  pub factor_none : (z : ℤ) (r : Option ℕ) → W z → IfNone r ((f : ℕ) → z ≡ pos f → 1 ≤ f → f ≤ 16 → ⊥) → IfNone r (IsFactorBy W → ⊥)
  factor_none z None is none = λ factor. none factor.0 (real.one z (pos factor.0) is factor.1) factor.2 factor.3
  factor_none z (Some f) is none = none

  turns_up : (n : ℕ) → W (pos (suc n)) → turns_by sign (size / 90) ≡ (suc n / 90) % 4
  turns_up n is = ap (λ s. turns_by s (size / 90)) (real.up n is) ∙ ap (λ m. (m / 90) % 4) (real.size_is (pos (suc n)) is)

  turns_down : (n : ℕ) → W (negsuc n) → turns_by sign (size / 90) ≡ (3 * (suc n / 90)) % 4
  turns_down n is = ap (λ s. turns_by s (size / 90)) (real.down n is).1 ∙ ap (λ m. (3 * (m / 90)) % 4) (real.size_is (negsuc n) is)

  turns_zero : W (pos 0) → turns_by sign (size / 90) ≡ 0
  turns_zero is = ap (λ m. turns_by sign (m / 90)) (real.size_is (pos 0) is) ∙ zero_turns sign

  turn_value : (z : ℤ) (t : ℕ) → W z → IsTurn z t → t ≡ turns_by sign (size / 90)
  turn_value z t is (inl (e, inl a)) = e ∙ sym (turns_zero (subst W a is))
  turn_value z t is (inl (e, inr (inl a))) = e ∙ sym (turns_up 359 (subst W a is))
  turn_value z t is (inl (e, inr (inr a))) = e ∙ sym (turns_down 359 (subst W a is))
  turn_value z t is (inr (inl (e, inl a))) = e ∙ sym (turns_up 89 (subst W a is))
  turn_value z t is (inr (inl (e, inr a))) = e ∙ sym (turns_down 269 (subst W a is))
  turn_value z t is (inr (inr (inl (e, inl a)))) = e ∙ sym (turns_up 179 (subst W a is))
  turn_value z t is (inr (inr (inl (e, inr a)))) = e ∙ sym (turns_down 179 (subst W a is))
  turn_value z t is (inr (inr (inr (e, inl a)))) = e ∙ sym (turns_up 269 (subst W a is))
  turn_value z t is (inr (inr (inr (e, inr a)))) = e ∙ sym (turns_down 89 (subst W a is))

  quarters_of : (z q : ℤ) → z ≡ pos 90 *ℤ q → neg_ℤ (pos 4) ≤ℤ q → q ≤ℤ pos 4 → W z → IsQuarterAngleBy W
  quarters_of z q e low high is = (q, subst W e is, low, high)

  turn_quarters : (z : ℤ) (t : ℕ) → W z → IsTurn z t → IsQuarterAngleBy W
  turn_quarters z t is (inl (e, inl a)) = quarters_of z (pos 0) a (omega (arith, ints)) (omega (arith, ints)) is
  turn_quarters z t is (inl (e, inr (inl a))) = quarters_of z (pos 4) a (omega (arith, ints)) (omega (arith, ints)) is
  turn_quarters z t is (inl (e, inr (inr a))) = quarters_of z (negsuc 3) a (omega (arith, ints)) (omega (arith, ints)) is
  turn_quarters z t is (inr (inl (e, inl a))) = quarters_of z (pos 1) a (omega (arith, ints)) (omega (arith, ints)) is
  turn_quarters z t is (inr (inl (e, inr a))) = quarters_of z (negsuc 2) a (omega (arith, ints)) (omega (arith, ints)) is
  turn_quarters z t is (inr (inr (inl (e, inl a)))) = quarters_of z (pos 2) a (omega (arith, ints)) (omega (arith, ints)) is
  turn_quarters z t is (inr (inr (inl (e, inr a)))) = quarters_of z (negsuc 1) a (omega (arith, ints)) (omega (arith, ints)) is
  turn_quarters z t is (inr (inr (inr (e, inl a)))) = quarters_of z (pos 3) a (omega (arith, ints)) (omega (arith, ints)) is
  turn_quarters z t is (inr (inr (inr (e, inr a)))) = quarters_of z (negsuc 0) a (omega (arith, ints)) (omega (arith, ints)) is

  pub turns_some : (z : ℤ) (r : Option ℕ) → W z → IfSome r (λ t. IsTurn z t) → IfSome r (λ t. IsQuarterAngleBy W × (t ≡ turns_by sign (size / 90)))
  turns_some z None is some = some
  turns_some z (Some t) is some = (turn_quarters z t is some, turn_value z t is some)

  pub turns_none : (z : ℤ) (r : Option ℕ) → W z → IfNone r ((t : ℕ) → ¬ IsTurn z t) → IfNone r (IsQuarterAngleBy W → ⊥)
  turns_none z None is none = λ angle.
      let same : pos 90 *ℤ angle.0 ≡ z = real.one (pos 90 *ℤ angle.0) z angle.1 is in
      let turn = some_turn angle.0 angle.2 angle.3 in
      none turn.0 (subst (λ w. IsTurn w turn.0) same turn.1)
  turns_none z (Some t) is none = none
