-- What stands at a place is one value with one end, or it fails for one cause. The lemmas on readers are stated once, over
-- what stands there and what fails.
use Rattle.std.proofs.Common.{◌≡◌, ◌≢◌, ℕ, ◌+◌, ◌<◌, ◌↔◌, ◌⊎◌, List, length, slice_index, ◌/◌, ◌%◌, Option, Some, None}
use Rattle.std.proofs.Common.{Result, Ok, Err, inl, inr, refl, ap, sym, ◌∙◌, subst, arith, ℤ, take, drop, ◌-◌}
use Rattle.oas_lex.specs.declared.LexBad.{LexBad}
use Rattle.oas_lex.specs.declared.LexBad.TheVariants.{Short, Wide, RealKind}
use Rattle.oas_lex.specs.Numbers.{HasUnsigned, HasSigned, EndsFirst, IsWide, value_of}
use Rattle.std.specs.Result.{IsErr, IsErrAnd, IfOk, IfErr}
use Rattle.half_grid.specs.declared.plane.Point.{Point}
use Rattle.oas_lex.specs.declared.reals.Real.{Real}
use Rattle.oas_lex.specs.Deltas.{move, towards, sideways, HasDelta2, HasDelta3, HasDeltaG, DeltaGFails}
use Rattle.oas_lex.specs.Reals.{RealForm, OneNumber, TwoNumbers, FourBytes, EightBytes, form_of, HasOneNumber, HasBits, HasRealParts, HasReal, RealPartsFail, RealFails}
use Rattle.oas_lex.specs.Strings.{HasBytes, HasText, NumberFails, BytesFail, TextFails}
use Rattle.oas_lex.proofs.Reading.{has_one, has_not_wide, ends_not_has, ends_not_wide, unsigned_of_signed}
use Rattle.oas_lex.proofs.SpellingLemmas.{one_signed}

pub record IsReader {V E : Type 0} (Has : V → Type 0) (Fails : E → Type 0) : Type 0 where
  pub one : (v w : V) → Has v → Has w → v ≡ w
  pub apart : (v : V) (e : E) → Has v → Fails e → ⊥
  pub cause : (e f : E) → Fails e → Fails f → e ≡ f

-- ---- what a result says

pub found_ok : {V E : Type 0} {Has : V → Type 0} {Fails : E → Type 0} → IsReader Has Fails → (r : Result V E) (v : V)
    → r ≡ Ok v → Has v → (w : V) → (r ≡ Ok w) ↔ Has w
found_ok {Has = Has} s r v is h w = (λ e. let same : v ≡ w = cc in subst Has same h, λ k. is ∙ ap Ok (s.one v w h k))

pub fault_ok : {V E : Type 0} {Has : V → Type 0} {Fails : E → Type 0} → IsReader Has Fails → (r : Result V E) (v : V)
    → r ≡ Ok v → Has v → (e : E) → (r ≡ Err e) ↔ Fails e
fault_ok s r v is h e = (λ q. absurd (cc), λ f. absurd (s.apart v e h f))

pub found_err : {V E : Type 0} {Has : V → Type 0} {Fails : E → Type 0} → IsReader Has Fails → (r : Result V E) (e : E)
    → r ≡ Err e → Fails e → (w : V) → (r ≡ Ok w) ↔ Has w
found_err s r e is f w = (λ q. absurd (cc), λ h. absurd (s.apart w e h f))

pub fault_err : {V E : Type 0} {Has : V → Type 0} {Fails : E → Type 0} → IsReader Has Fails → (r : Result V E) (e : E)
    → r ≡ Err e → Fails e → (g : E) → (r ≡ Err g) ↔ Fails g
fault_err {Fails = Fails} s r e is f g = (λ q. let same : e ≡ g = cc in subst Fails same f, λ k. is ∙ ap Err (s.cause e g f k))

-- what a result says that says something stronger
pub found_by : {V E : Type 0} {Has P : V → Type 0} {Fails Q : E → Type 0} → IsReader Has Fails → (r : Result V E) → IfOk r P → IfErr r Q
    → ((v : V) → P v → Has v) → ((e : E) → Q e → Fails e) → (w : V) → (r ≡ Ok w) ↔ Has w
found_by s (Ok v) p q f g = found_ok s (Ok v) v refl (f v p)
found_by s (Err e) p q f g = found_err s (Err e) e refl (g e q)

pub fault_by : {V E : Type 0} {Has P : V → Type 0} {Fails Q : E → Type 0} → IsReader Has Fails → (r : Result V E) → IfOk r P → IfErr r Q
    → ((v : V) → P v → Has v) → ((e : E) → Q e → Fails e) → (e : E) → (r ≡ Err e) ↔ Fails e
fault_by s (Ok v) p q f g = fault_ok s (Ok v) v refl (f v p)
fault_by s (Err e) p q f g = fault_err s (Err e) e refl (g e q)

-- a refusal that is handed on
pub refused : {V E : Type 0} (r : Result V E) (bad : E) → IsErr r → IsErrAnd r (λ e. e ≡ bad) → r ≡ Err bad
refused (Ok v) bad is and = absurd (cc)
refused (Err e) bad is and = ap Err and

pub pair_is : {A B : Type 0} (v w : A × B) → v.0 ≡ w.0 → v.1 ≡ w.1 → v ≡ w
pair_is v w p q = ap (λ a. (a, v.1)) p ∙ ap (λ b. (w.0, b)) q

-- ---- one thing after another

pub after : {A V E : Type 0} (H : A → ℕ → Type 0) (F : E → Type 0) (K : A → ℕ → V → Type 0) (G : A → ℕ → E → Type 0)
    → IsReader (λ (v : A × ℕ). H v.0 v.1) F → ((a : A) (m : ℕ) → IsReader (K a m) (G a m))
    → IsReader (λ (v : V). (a : A) × (m : ℕ) × H a m × K a m v) (λ (e : E). F e ⊎ ((a : A) × (m : ℕ) × H a m × G a m e))
after {A = A} H F K G r s = record {
  one = λ v w h k.
      let same = r.one (h.0, h.1) (k.0, k.1) h.2 k.2 in
      (s h.0 h.1).one v w h.3 (subst (λ (p : A × ℕ). K p.0 p.1 w) (sym same) k.3);
  apart = λ v e h f. elim f [
    | inl first ↦ r.apart (h.0, h.1) e h.2 first
    | inr k ↦
        let same = r.one (h.0, h.1) (k.0, k.1) h.2 k.2 in
        (s h.0 h.1).apart v e h.3 (subst (λ (p : A × ℕ). G p.0 p.1 e) (sym same) k.3)
  ];
  cause = λ e f x y. elim x [
    | inl first ↦ elim y [
      | inl second ↦ r.cause e f first second
      | inr k ↦ absurd (r.apart (k.0, k.1) e k.2 first)
    ]
    | inr h ↦ elim y [
      | inl second ↦ absurd (r.apart (h.0, h.1) f h.2 second)
      | inr k ↦
          let same = r.one (h.0, h.1) (k.0, k.1) h.2 k.2 in
          (s h.0 h.1).cause e f h.3 (subst (λ (p : A × ℕ). G p.0 p.1 f) (sym same) k.3)
    ]
  ];
}

-- what a value is made into
pub made : {A V E : Type 0} (H : A → ℕ → Type 0) (F : E → Type 0) (f : A → V) → IsReader (λ (v : A × ℕ). H v.0 v.1) F
    → IsReader (λ (v : V × ℕ). (a : A) × H a v.1 × (v.0 ≡ f a)) F
made H F f r = record {
  one = λ v w h k.
      let same = r.one (h.0, v.1) (k.0, w.1) h.1 k.1 in
      let first : h.0 ≡ k.0 = ap (λ p. p.0) same in
      let second : v.1 ≡ w.1 = ap (λ p. p.1) same in
      pair_is v w (h.2 ∙ (ap f first ∙ sym k.2)) second;
  apart = λ v e h x. r.apart (h.0, v.1) e h.1 x;
  cause = r.cause;
}

-- ---- numbers, bytes and strings

number_apart : (bytes : List ℕ) (at n next : ℕ) (e : LexBad) → HasUnsigned bytes at n next → NumberFails bytes at e → ⊥
number_apart bytes at n next Short h f = ends_not_has bytes at n next f h
number_apart bytes at n next Wide h f = has_not_wide bytes at n next h f
number_apart bytes at n next RealKind h f = f

number_cause : (bytes : List ℕ) (at : ℕ) (e f : LexBad) → NumberFails bytes at e → NumberFails bytes at f → e ≡ f
number_cause bytes at Short Short x y = refl
number_cause bytes at Wide Wide x y = refl
number_cause bytes at Short Wide x y = absurd (ends_not_wide bytes at x y)
number_cause bytes at Wide Short x y = absurd (ends_not_wide bytes at y x)
number_cause bytes at RealKind f x y = absurd x
number_cause bytes at Short RealKind x y = absurd y
number_cause bytes at Wide RealKind x y = absurd y

pub number_reader : (bytes : List ℕ) (at : ℕ) → IsReader (λ (v : ℕ × ℕ). HasUnsigned bytes at v.0 v.1) (NumberFails bytes at)
number_reader bytes at = record {
  one = λ v w h k. let both = has_one bytes at v.0 v.1 w.0 w.1 h k in pair_is v w both.0 both.1;
  apart = λ v e h f. number_apart bytes at v.0 v.1 e h f;
  cause = number_cause bytes at;
}

pub signed_reader : (bytes : List ℕ) (at : ℕ) → IsReader (λ (v : ℤ × ℕ). HasSigned bytes at v.0 v.1) (NumberFails bytes at)
signed_reader bytes at = record {
  one = λ v w h k. let both = one_signed bytes at v.0 v.1 w.0 w.1 h k in pair_is v w both.0 both.1;
  apart = λ v e h f. number_apart bytes at (value_of (take (v.1 - at) (drop at bytes))) v.1 e (unsigned_of_signed bytes at v.0 v.1 h) f;
  cause = number_cause bytes at;
}

pub bytes_reader : (bytes : List ℕ) (at count : ℕ) → IsReader (λ (next : ℕ). HasBytes bytes at count next) (BytesFail bytes at count)
bytes_reader bytes at count = record {
  one = λ v w h k. h.ends ∙ sym k.ends;
  apart = λ v e h f. omega (arith, h.ends, h.within, f.cut);
  cause = λ e f x y. x.short ∙ sym y.short;
}

pub text_reader : (bytes : List ℕ) (at : ℕ) → IsReader (λ (v : ℕ × ℕ). HasText bytes at v.0 v.1) (TextFails bytes at)
text_reader bytes at =
    let both = after (λ size first. HasUnsigned bytes at size first) (NumberFails bytes at)
    (λ size first (v : ℕ × ℕ). (first ≡ v.0) × HasBytes bytes first size v.1)
    (λ size first e. BytesFail bytes first size e) (number_reader bytes at)
    (λ size first. record {
      one = λ v w h k. pair_is v w (sym h.0 ∙ k.0) ((bytes_reader bytes first size).one v.1 w.1 h.1 k.1);
      apart = λ v e h f. (bytes_reader bytes first size).apart v.1 e h.1 f;
      cause = (bytes_reader bytes first size).cause;
    }) in
    record {
      one = λ v w h k. both.one v w (h.0, v.0, h.1, (refl, h.2)) (k.0, w.0, k.1, (refl, k.2));
      apart = λ v e h f. both.apart v e (h.0, v.0, h.1, (refl, h.2)) f;
      cause = both.cause;
    }

-- what the call for an unsigned number says where it is refused
pub number_fails : {V : Type 0} (bytes : List ℕ) (at : ℕ) (result : Result V LexBad) (bad : LexBad)
    → ((result ≡ Err Short) ↔ EndsFirst bytes at) → ((result ≡ Err Wide) ↔ IsWide bytes at) → result ≢ Err RealKind → result ≡ Err bad
    → NumberFails bytes at bad
number_fails bytes at result Short short wide real is = short.0 is
number_fails bytes at result Wide short wide real is = wide.0 is
number_fails bytes at result RealKind short wide real is = absurd (real is)

-- ---- deltas

pub delta2_reader : (bytes : List ℕ) (at : ℕ) → IsReader (λ (v : Point × ℕ). HasDelta2 bytes at v.0 v.1) (NumberFails bytes at)
delta2_reader bytes at = made (HasUnsigned bytes at) (NumberFails bytes at) (λ code. towards (code % 4) (code / 4)) (number_reader bytes at)

pub delta3_reader : (bytes : List ℕ) (at : ℕ) → IsReader (λ (v : Point × ℕ). HasDelta3 bytes at v.0 v.1) (NumberFails bytes at)
delta3_reader bytes at = made (HasUnsigned bytes at) (NumberFails bytes at) (λ code. towards (code % 8) (code / 8)) (number_reader bytes at)

-- what follows the first number of a g-delta
abbrev RestOf : List ℕ → ℕ → ℕ → Point × ℕ → Type 0
RestOf bytes code mid v =
    ((code % 2 ≡ 0) × (mid ≡ v.1) × (v.0 ≡ towards (code / 2 % 8) (code / 16)))
    ⊎ ((code % 2 ≡ 1) × ((y : ℤ) × HasSigned bytes mid y v.1 × (v.0 ≡ move (sideways (code / 2 % 2) (code / 4)) y)))

abbrev RestFails : List ℕ → ℕ → ℕ → LexBad → Type 0
RestFails bytes code mid e = (code % 2 ≡ 1) × NumberFails bytes mid e

rest_reader : (bytes : List ℕ) (code mid : ℕ) → IsReader (RestOf bytes code mid) (RestFails bytes code mid)
rest_reader bytes code mid =
    let second = made (HasSigned bytes mid) (NumberFails bytes mid) (λ y. move (sideways (code / 2 % 2) (code / 4)) y) (signed_reader bytes mid) in
    record {
      one = λ v w h k. elim h [
        | inl x ↦ elim k [
          | inl y ↦ pair_is v w (x.2 ∙ sym y.2) (sym x.1 ∙ y.1)
          | inr y ↦ absurd (omega (arith, x.0, y.0))
        ]
        | inr x ↦ elim k [
          | inl y ↦ absurd (omega (arith, x.0, y.0))
          | inr y ↦ second.one v w x.1 y.1
        ]
      ];
      apart = λ v e h f. elim h [
        | inl x ↦ absurd (omega (arith, x.0, f.0))
        | inr x ↦ second.apart v e x.1 f.1
      ];
      cause = λ e f x y. second.cause e f x.1 y.1;
    }

rest_of : (bytes : List ℕ) (at : ℕ) (v : Point × ℕ) → HasDeltaG bytes at v.0 v.1 → (code : ℕ) × (mid : ℕ)
    × HasUnsigned bytes at code mid × RestOf bytes code mid v
rest_of bytes at v (inl h) = (h.0, v.1, h.1.spells, inl (h.1.even, refl, h.1.value))
rest_of bytes at v (inr h) = (h.0, h.1, h.3.spells, inr (h.3.odd, (h.2, h.3.spells_y, h.3.value)))

rest_fails : (bytes : List ℕ) (at : ℕ) (e : LexBad) → DeltaGFails bytes at e → NumberFails bytes at e
    ⊎ ((code : ℕ) × (mid : ℕ) × HasUnsigned bytes at code mid × RestFails bytes code mid e)
rest_fails bytes at e (inl f) = inl f
rest_fails bytes at e (inr f) = inr (f.0, f.1, f.2.spells, (f.2.odd, f.2.fails))

pub delta_g_reader : (bytes : List ℕ) (at : ℕ) → IsReader (λ (v : Point × ℕ). HasDeltaG bytes at v.0 v.1) (DeltaGFails bytes at)
delta_g_reader bytes at =
    let both = after (HasUnsigned bytes at) (NumberFails bytes at) (RestOf bytes) (RestFails bytes) (number_reader bytes at) (rest_reader bytes) in
    record {
      one = λ v w h k. both.one v w (rest_of bytes at v h) (rest_of bytes at w k);
      apart = λ v e h f. both.apart v e (rest_of bytes at v h) (rest_fails bytes at e f);
      cause = λ e f x y. both.cause e f (rest_fails bytes at e x) (rest_fails bytes at f y);
    }

-- ---- reals

one_number : (bytes : List ℕ) (at : ℕ) → IsReader (λ (v : (ℕ × ℕ) × ℕ). HasOneNumber bytes at v.0.0 v.0.1 v.1) (NumberFails bytes at)
one_number bytes at = record {
  one = λ v w h k.
      let same = (number_reader bytes at).one (v.0.0, v.1) (w.0.0, w.1) h.spells k.spells in
      pair_is v w (pair_is v.0 w.0 (ap (λ p. p.0) same) (h.alone ∙ sym k.alone)) (ap (λ p. p.1) same);
  apart = λ v e h f. (number_reader bytes at).apart (v.0.0, v.1) e h.spells f;
  cause = (number_reader bytes at).cause;
}

bits : (bytes : List ℕ) (at count : ℕ) → IsReader (λ (v : (ℕ × ℕ) × ℕ). HasBits bytes at count v.0.0 v.0.1 v.1) (BytesFail bytes at count)
bits bytes at count = record {
  one = λ v w h k. pair_is v w (pair_is v.0 w.0 (h.value ∙ sym k.value) (h.alone ∙ sym k.alone)) ((bytes_reader bytes at count).one v.1 w.1 h.there k.there);
  apart = λ v e h f. (bytes_reader bytes at count).apart v.1 e h.there f;
  cause = (bytes_reader bytes at count).cause;
}

two_numbers : (bytes : List ℕ) (at : ℕ)
    → IsReader (λ (v : (ℕ × ℕ) × ℕ). HasRealParts (Some TwoNumbers) bytes at v.0.0 v.0.1 v.1)
    (RealPartsFail (Some TwoNumbers) bytes at)
two_numbers bytes at =
    let both = after (HasUnsigned bytes at) (NumberFails bytes at)
    (λ a mid (v : (ℕ × ℕ) × ℕ). (a ≡ v.0.0) × HasUnsigned bytes mid v.0.1 v.1)
    (λ a mid e. NumberFails bytes mid e) (number_reader bytes at)
    (λ a mid. record {
      one = λ v w h k.
          let same = (number_reader bytes mid).one (v.0.1, v.1) (w.0.1, w.1) h.1 k.1 in
          pair_is v w (pair_is v.0 w.0 (sym h.0 ∙ k.0) (ap (λ p. p.0) same)) (ap (λ p. p.1) same);
      apart = λ v e h f. (number_reader bytes mid).apart (v.0.1, v.1) e h.1 f;
      cause = (number_reader bytes mid).cause;
    }) in
    record {
      one = λ v w h k. both.one v w (v.0.0, h.0, h.1, (refl, h.2)) (w.0.0, k.0, k.1, (refl, k.2));
      apart = λ v e h f. both.apart v e (v.0.0, h.0, h.1, (refl, h.2)) f;
      cause = both.cause;
    }

parts_reader : (form : Option RealForm) (bytes : List ℕ) (at : ℕ)
    → IsReader (λ (v : (ℕ × ℕ) × ℕ). HasRealParts form bytes at v.0.0 v.0.1 v.1) (RealPartsFail form bytes at)
parts_reader (Some OneNumber) bytes at = one_number bytes at
parts_reader (Some TwoNumbers) bytes at = two_numbers bytes at
parts_reader (Some FourBytes) bytes at = bits bytes at 4
parts_reader (Some EightBytes) bytes at = bits bytes at 8
parts_reader None bytes at = record { one = λ v w h k. absurd h; apart = λ v e h f. absurd h; cause = λ e f x y. x ∙ sym y }

same_real : (v w : Real) → v.kind ≡ w.kind → v.a ≡ w.a → v.b ≡ w.b → v ≡ w
same_real v w kind a b =
    ap (λ (n : ℕ). record v { kind = n }) kind ∙ (ap (λ (n : ℕ). record w { kind = w.kind; a = n; b = v.b }) a ∙ ap (λ (n : ℕ). record w { b = n }) b)

pub real_reader : (bytes : List ℕ) (at : ℕ) → IsReader (λ (v : Real × ℕ). HasReal bytes at v.0 v.1) (RealFails bytes at)
real_reader bytes at =
    let rest = parts_reader (form_of (slice_index bytes at)) bytes (at + 1) in
    record {
      one = λ v w h k.
          let same = rest.one ((v.0.a, v.0.b), v.1) ((w.0.a, w.0.b), w.1) h.parts k.parts in
          pair_is v w (same_real v.0 w.0 (h.kind ∙ sym k.kind) (ap (λ p. p.0.0) same) (ap (λ p. p.0.1) same)) (ap (λ p. p.1) same);
      apart = λ v e h f. elim f [
        | inl short ↦ omega (arith, short.cut, h.within)
        | inr bad ↦ rest.apart ((v.0.a, v.0.b), v.1) e h.parts bad.fails
      ];
      cause = λ e f x y. elim x [
        | inl short ↦ elim y [
          | inl again ↦ short.short ∙ sym again.short
          | inr bad ↦ absurd (omega (arith, short.cut, bad.within))
        ]
        | inr bad ↦ elim y [
          | inl short ↦ absurd (omega (arith, short.cut, bad.within))
          | inr again ↦ rest.cause e f bad.fails again.fails
        ]
      ];
    }

-- a real whose kind is read
pub real_there : (bytes : List ℕ) (at byte : ℕ) (v : Real × ℕ) → at < length bytes → byte ≡ slice_index bytes at
    → (v.0.kind ≡ byte) × HasRealParts (form_of byte) bytes (at + 1) v.0.a v.0.b v.1 → HasReal bytes at v.0 v.1
real_there bytes at byte v within is h =
    record { within = within; kind = h.0 ∙ is; parts = subst (λ k. HasRealParts (form_of k) bytes (at + 1) v.0.a v.0.b v.1) is h.1 }

pub real_missing : (bytes : List ℕ) (at byte : ℕ) (e : LexBad) → at < length bytes → byte ≡ slice_index bytes at
    → RealPartsFail (form_of byte) bytes (at + 1) e → RealFails bytes at e
real_missing bytes at byte e within is f =
    inr (record { within = within; fails = subst (λ k. RealPartsFail (form_of k) bytes (at + 1) e) is f })
