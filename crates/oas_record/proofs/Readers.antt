-- What stands at a place is one value with one end, or it fails for one cause: numbers, deltas, point lists,
-- repetitions, intervals and values.
use Rattle.std.proofs.Common.{◌≡◌, ◌⊎◌, ℕ, zero, suc, ◌+◌, ◌<◌, ℤ, pos, Bool, IsTrue, Option, Some, None, List, [], ◌∷◌}
use Rattle.std.proofs.Common.{length, slice_index, inl, inr, refl, sym, ap, subst, ◌∙◌, arith}
use Rattle.half_grid.specs.declared.plane.Point.{Point}
use Rattle.oas_lex.specs.Deltas.{move}
use Rattle.oas_lex.specs.Numbers.{HasUnsigned, HasSigned}
use Rattle.oas_lex.specs.Reals.{HasReal}
use Rattle.oas_lex.specs.Strings.{HasBytes, HasText}
use Rattle.oas_lex.specs.declared.LexBad.{LexBad}
use Rattle.oas_lex.specs.declared.reals.Real.{Real}
use Rattle.oas_lex.proofs.ForCallers.{IsReader, pair_is, after, made, number_reader, signed_reader, bytes_reader}
use Rattle.oas_lex.proofs.ForCallers.{text_reader, delta2_reader, delta3_reader, delta_g_reader, real_reader}
use Rattle.oas_record.specs.Faults.{bad_of, NoNumber, NoBytes, NoText, NoReal}
use Rattle.oas_record.specs.Lists.{HasNumbers, NoNumbers, HasDelta, NoDelta, HasDeltas, NoDeltas, turned, delta_form}
use Rattle.oas_record.specs.Lists.{allows_count, HasPointsOf, HasPoints, CountedFails, NoPointsOf, NoPoints}
use Rattle.oas_record.specs.declared.delta_form.DeltaForm.{DeltaForm}
use Rattle.oas_record.specs.declared.delta_form.DeltaForm.TheVariants.{AlongX, AlongY, TwoDelta, ThreeDelta, GDelta}
use Rattle.oas_record.specs.declared.faults.RecordBad.{RecordBad}
use Rattle.oas_record.specs.declared.faults.RecordBad.TheVariants as faults
use Rattle.oas_record.specs.declared.fields.Deltas.{Deltas}

-- ---- lemmas on readers

-- what implies what a reader reads
pub weaker : {V E : Type 0} (H K : V → Type 0) (F G : E → Type 0) → IsReader H F → ((v : V) → K v → H v) → ((e : E) → G e → F e) → IsReader K G
weaker H K F G r f g = record {
  one = λ v w h k. r.one v w (f v h) (f w k);
  apart = λ v e h x. r.apart v e (f v h) (g e x);
  cause = λ e d x y. r.cause e d (g e x) (g d y);
}

-- one thing after another, by where the first ends
pub chain : {M V E : Type 0} (H : M → Type 0) (F : E → Type 0) (K : M → V → Type 0) (G : M → E → Type 0) → IsReader H F → ((m : M) → IsReader (K m) (G m))
    → IsReader (λ (v : V). (m : M) × H m × K m v) (λ (e : E). F e ⊎ ((m : M) × H m × G m e))
chain H F K G r s = record {
  one = λ v w h k. (s h.0).one v w h.2 (subst (λ m. K m w) (sym (r.one h.0 k.0 h.1 k.1)) k.2);
  apart = λ v e h f. elim f [
    | inl first ↦ r.apart h.0 e h.1 first
    | inr k ↦ (s h.0).apart v e h.2 (subst (λ m. G m e) (sym (r.one h.0 k.0 h.1 k.1)) k.2)
  ];
  cause = λ e f x y. elim x [
    | inl first ↦ elim y [
      | inl second ↦ r.cause e f first second
      | inr k ↦ absurd (r.apart k.0 e k.1 first)
    ]
    | inr h ↦ elim y [
      | inl second ↦ absurd (r.apart h.0 f h.1 second)
      | inr k ↦ (s h.0).cause e f h.2 (subst (λ m. G m f) (sym (r.one h.0 k.0 h.1 k.1)) k.2)
    ]
  ];
}

-- the first of a list, and the rest
pub first_rest : {A E : Type 0} (H : A → ℕ → Type 0) (F : E → Type 0) (L : A → ℕ → List A → ℕ → Type 0) (G : A → ℕ → E → Type 0)
    → IsReader (λ (v : A × ℕ). H v.0 v.1) F → ((a : A) (m : ℕ) → IsReader (λ (v : List A × ℕ). L a m v.0 v.1) (G a m))
    → IsReader (λ (v : List A × ℕ). (a : A) × (m : ℕ) × H a m × ((rest : List A) × (v.0 ≡ a ∷ rest) × L a m rest v.1))
    (λ (e : E). F e ⊎ ((a : A) × (m : ℕ) × H a m × G a m e))
first_rest {A = A} H F L G r s = after H F (λ a m (v : List A × ℕ). (rest : List A) × (v.0 ≡ a ∷ rest) × L a m rest v.1) G r (λ a m. record {
  one = λ v w h k.
      let same = (s a m).one (h.0, v.1) (k.0, w.1) h.2 k.2 in
      pair_is v w (h.1 ∙ (ap (λ (p : List A × ℕ). a ∷ p.0) same ∙ sym k.1)) (ap (λ (p : List A × ℕ). p.1) same);
  apart = λ v e h f. (s a m).apart (h.0, v.1) e h.2 f;
  cause = (s a m).cause;
})

-- the fault of a record in place of a lexical one
pub widened : {V : Type 0} (H : V → Type 0) (F : LexBad → Type 0) → IsReader H F
    → IsReader H (λ (bad : RecordBad). (cause : LexBad) × (bad ≡ bad_of cause) × F cause)
widened H F r = record {
  one = r.one;
  apart = λ v e h f. r.apart v f.0 h f.2;
  cause = λ e d x y. x.1 ∙ (ap bad_of (r.cause x.0 y.0 x.2 y.2) ∙ sym y.1);
}

-- a kind, and what follows it
pub kinded : {V : Type 0} (bytes : List ℕ) (at : ℕ) (H : V → Type 0) (F : RecordBad → Type 0) → IsReader H F
    → IsReader (λ (v : V). (at < length bytes) × H v) (λ (bad : RecordBad). NoBytes bytes at 1 bad ⊎ ((at < length bytes) × F bad))
kinded bytes at H F r = record {
  one = λ v w h k. r.one v w h.1 k.1;
  apart = λ v e h f. elim f [
    | inl short ↦ absurd (omega (arith, short.2.cut, h.0))
    | inr bad ↦ r.apart v e h.1 bad.1
  ];
  cause = λ e d x y. elim x [
    | inl short ↦ elim y [
      | inl again ↦ short.1 ∙ (ap bad_of (short.2.short ∙ sym again.2.short) ∙ sym again.1)
      | inr bad ↦ absurd (omega (arith, short.2.cut, bad.0))
    ]
    | inr bad ↦ elim y [
      | inl short ↦ absurd (omega (arith, short.2.cut, bad.0))
      | inr again ↦ r.cause e d bad.1 again.1
    ]
  ];
}

-- nothing is read, for one cause
pub nothing : {V : Type 0} (bad : RecordBad) → IsReader (λ (v : V). ⊥) (λ (e : RecordBad). e ≡ bad)
nothing bad = record { one = λ v w h k. absurd h; apart = λ v e h f. absurd h; cause = λ e d x y. x ∙ sym y }

-- ---- numbers, strings, reals

pub numbers1 : (bytes : List ℕ) (at : ℕ) → IsReader (λ (v : ℕ × ℕ). HasUnsigned bytes at v.0 v.1) (NoNumber bytes at)
numbers1 bytes at = widened _ _ (number_reader bytes at)

pub signed1 : (bytes : List ℕ) (at : ℕ) → IsReader (λ (v : ℤ × ℕ). HasSigned bytes at v.0 v.1) (NoNumber bytes at)
signed1 bytes at = widened _ _ (signed_reader bytes at)

pub text1 : (bytes : List ℕ) (at : ℕ) → IsReader (λ (v : ℕ × ℕ). HasText bytes at v.0 v.1) (NoText bytes at)
text1 bytes at = widened _ _ (text_reader bytes at)

pub real1 : (bytes : List ℕ) (at : ℕ) → IsReader (λ (v : Real × ℕ). HasReal bytes at v.0 v.1) (NoReal bytes at)
real1 bytes at = widened _ _ (real_reader bytes at)

pub bytes1 : (bytes : List ℕ) (at count : ℕ) → IsReader (λ (next : ℕ). HasBytes bytes at count next) (NoBytes bytes at count)
bytes1 bytes at count = widened _ _ (bytes_reader bytes at count)

pub delta1 : (form : DeltaForm) (bytes : List ℕ) (at : ℕ) → IsReader (λ (v : Point × ℕ). HasDelta form bytes at v.0 v.1) (NoDelta form bytes at)
delta1 AlongX bytes at = made (HasSigned bytes at) (NoNumber bytes at) (λ z. move z (pos 0)) (signed1 bytes at)
delta1 AlongY bytes at = made (HasSigned bytes at) (NoNumber bytes at) (λ z. move (pos 0) z) (signed1 bytes at)
delta1 TwoDelta bytes at = widened _ _ (delta2_reader bytes at)
delta1 ThreeDelta bytes at = widened _ _ (delta3_reader bytes at)
delta1 GDelta bytes at = widened _ _ (delta_g_reader bytes at)

-- ---- lists

abbrev pub Numbers : ℕ → List ℕ → ℕ → List ℕ → ℕ → Type 0
Numbers count bytes at ns next = (length ns ≡ count) × HasNumbers bytes at ns next

numbers_parts : (count : ℕ) (bytes : List ℕ) (at : ℕ) (v : List ℕ × ℕ) → Numbers (suc count) bytes at v.0 v.1
    → (a : ℕ) × (m : ℕ) × HasUnsigned bytes at a m × ((rest : List ℕ) × (v.0 ≡ a ∷ rest) × Numbers count bytes m rest v.1)
numbers_parts count bytes at ([], next) h = absurd (omega (arith, h.0))
numbers_parts count bytes at (n ∷ ns, next) h = (n, h.1.0, h.1.1, (ns, refl, (omega (arith, h.0), h.1.2)))

no_numbers : (bytes : List ℕ) (at : ℕ) (v : List ℕ × ℕ) → Numbers zero bytes at v.0 v.1 → v ≡ ([], at)
no_numbers bytes at ([], next) h = pair_is _ _ refl (sym h.1)
no_numbers bytes at (n ∷ ns, next) h = absurd (omega (arith, h.0))

pub numbers : (count : ℕ) (bytes : List ℕ) (at : ℕ) → IsReader (λ (v : List ℕ × ℕ). Numbers count bytes at v.0 v.1) (NoNumbers count bytes at)
numbers zero bytes at = record {
  one = λ v w h k. no_numbers bytes at v h ∙ sym (no_numbers bytes at w k);
  apart = λ v e h f. f;
  cause = λ e d x y. absurd x;
}
numbers (suc count) bytes at = weaker _ _ _ _
    (first_rest (HasUnsigned bytes at) (NoNumber bytes at) (λ a m ns n. Numbers count bytes m ns n)
    (λ a m e. NoNumbers count bytes m e) (numbers1 bytes at) (λ a m. numbers count bytes m))
    (numbers_parts count bytes at) (λ e f. f)

abbrev pub Moves : DeltaForm → ℕ → List ℕ → ℕ → List Point → ℕ → Type 0
Moves form count bytes at ps next = (length ps ≡ count) × HasDeltas form bytes at ps next

moves_parts : (form : DeltaForm) (count : ℕ) (bytes : List ℕ) (at : ℕ) (v : List Point × ℕ) → Moves form (suc count) bytes at v.0 v.1
    → (p : Point) × (m : ℕ) × HasDelta form bytes at p m × ((rest : List Point) × (v.0 ≡ p ∷ rest) × Moves (turned form) count bytes m rest v.1)
moves_parts form count bytes at ([], next) h = absurd (omega (arith, h.0))
moves_parts form count bytes at (p ∷ ps, next) h = (p, h.1.0, h.1.1, (ps, refl, (omega (arith, h.0), h.1.2)))

no_moves : (form : DeltaForm) (bytes : List ℕ) (at : ℕ) (v : List Point × ℕ) → Moves form zero bytes at v.0 v.1 → v ≡ ([], at)
no_moves form bytes at ([], next) h = pair_is _ _ refl (sym h.1)
no_moves form bytes at (p ∷ ps, next) h = absurd (omega (arith, h.0))

pub deltas : (form : DeltaForm) (count : ℕ) (bytes : List ℕ) (at : ℕ)
    → IsReader (λ (v : List Point × ℕ). Moves form count bytes at v.0 v.1) (NoDeltas form count bytes at)
deltas form zero bytes at = record {
  one = λ v w h k. no_moves form bytes at v h ∙ sym (no_moves form bytes at w k);
  apart = λ v e h f. f;
  cause = λ e d x y. absurd x;
}
deltas form (suc count) bytes at = weaker _ _ _ _
    (first_rest (HasDelta form bytes at) (NoDelta form bytes at) (λ p m ps n. Moves (turned form) count bytes m ps n)
    (λ p m e. NoDeltas (turned form) count bytes m e) (delta1 form bytes at)
    (λ p m. deltas (turned form) count bytes m))
    (moves_parts form count bytes at) (λ e f. f)

-- ---- point lists

counted_one : (form : DeltaForm) (is_polygon : Bool) (kind : ℕ) (bytes : List ℕ) (at : ℕ)
    → IsReader (λ (v : List Point × ℕ). (count : ℕ) × (mid : ℕ) × HasUnsigned bytes at count mid
    × (IsTrue (allows_count is_polygon kind count) × Moves form count bytes mid v.0 v.1))
    (λ e. NoNumber bytes at e ⊎ ((count : ℕ) × (mid : ℕ) × HasUnsigned bytes at count mid × CountedFails form is_polygon kind bytes mid count e))
counted_one form is_polygon kind bytes at =
    after (HasUnsigned bytes at) (NoNumber bytes at)
    (λ count mid (v : List Point × ℕ). IsTrue (allows_count is_polygon kind count)
    × Moves form count bytes mid v.0 v.1) (λ count mid e. CountedFails form is_polygon kind bytes mid count e)
    (numbers1 bytes at) (λ count mid. record {
      one = λ v w h k. (deltas form count bytes mid).one v w h.1 k.1;
      apart = λ v e h f. elim f [
        | inl refused ↦ absurd (cc)
        | inr bad ↦ (deltas form count bytes mid).apart v e h.1 bad.1
      ];
      cause = λ e d x y. elim x [
        | inl refused ↦ elim y [
          | inl again ↦ refused.1 ∙ sym again.1
          | inr bad ↦ absurd (cc)
        ]
        | inr bad ↦ elim y [
          | inl refused ↦ absurd (cc)
          | inr again ↦ (deltas form count bytes mid).cause e d bad.1 again.1
        ]
      ];
    })

points_of : (form : Option DeltaForm) (is_polygon : Bool) (kind : ℕ) (bytes : List ℕ) (at : ℕ)
    → IsReader (λ (v : List Point × ℕ). HasPointsOf form is_polygon kind bytes at v.0 v.1) (NoPointsOf form is_polygon kind bytes at)
points_of (Some form) is_polygon kind bytes at = weaker _ _ _ _ (counted_one form is_polygon kind bytes at)
    (λ v h. (length v.0, h.0, h.1.count, (h.1.allowed, (refl, h.1.deltas)))) (λ e f. f)
points_of None is_polygon kind bytes at = nothing faults.Shape

same_points : (d e : Deltas) → d.kind ≡ e.kind → d.items ≡ e.items → d ≡ e
same_points d e kind items = ap (λ (n : ℕ). record d { kind = n }) kind ∙ ap (λ (ps : List Point). record e { items = ps }) items

pub points : (is_polygon : Bool) (bytes : List ℕ) (at : ℕ) → IsReader (λ (v : Deltas × ℕ). HasPoints is_polygon bytes at v.0 v.1) (NoPoints is_polygon bytes at)
points is_polygon bytes at =
    let kind = slice_index bytes at in
    let rest = points_of (delta_form kind) is_polygon kind bytes (at + 1) in
    let whole = kinded bytes at
    (λ (v : Deltas × ℕ). (v.0.kind ≡ kind) × HasPointsOf (delta_form kind) is_polygon kind bytes
    (at + 1) v.0.items v.1) (NoPointsOf (delta_form kind) is_polygon kind bytes (at + 1)) (record {
      one = λ v w h k.
          let same = rest.one (v.0.items, v.1) (w.0.items, w.1) h.1 k.1 in
          pair_is v w (same_points v.0 w.0 (h.0 ∙ sym k.0) (ap (λ p. p.0) same)) (ap (λ p. p.1) same);
      apart = λ v e h f. rest.apart (v.0.items, v.1) e h.1 f;
      cause = rest.cause;
    }) in
    record {
      one = λ v w h k. whole.one v w (h.within, (h.kind, h.rest)) (k.within, (k.kind, k.rest));
      apart = λ v e h f. whole.apart v e (h.within, (h.kind, h.rest)) (elim f [ inl short ↦ inl short | inr bad ↦ inr (bad.within, bad.fails) ]);
      cause = λ e d x y. whole.cause e d (elim x [ inl short ↦ inl short | inr bad ↦ inr (bad.within, bad.fails) ])
          (elim y [ inl short ↦ inl short | inr bad ↦ inr (bad.within, bad.fails) ]);
    }
