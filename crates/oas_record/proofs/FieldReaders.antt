-- The fields of a row stand at a place in one way, or the first that fails does so for one cause.
use Rattle.std.proofs.Common.{◌≡◌, ◌⊎◌, ℕ, ◌/◌, ◌<◌, ◌≤◌, Bool, true, false, List, [], ◌∷◌, inl, inr, refl, sym, ap, ◌∙◌, arith}
use Rattle.oas_lex.specs.Numbers.{HasUnsigned, HasSigned}
use Rattle.oas_lex.specs.Reals.{HasReal}
use Rattle.oas_lex.specs.Strings.{HasBytes, HasText}
use Rattle.oas_lex.proofs.ForCallers.{IsReader, pair_is, after, made}
use Rattle.oas_record.specs.Faults.{NoNumber, NoBytes, NoText, NoReal, bad_of}
use Rattle.oas_record.specs.Lists.{HasPoints, NoPoints, NoNumbers}
use Rattle.oas_record.specs.Repetitions.{HasRep, NoRep}
use Rattle.oas_record.specs.Values.{HasInterval, NoInterval, HasTables, EndsValues, NoValues}
use Rattle.oas_record.specs.Rows.{Form, Number, Signed, Text, OneReal, NameBy, Range, PolygonPoints, PathPoints}
use Rattle.oas_record.specs.Rows.{Repetition, TrapezoidType, Extension, Switch, Count, Tables, FourBytes, Values, Field}
use Rattle.oas_record.specs.Rows.{IsNumber, IsSigned, IsSpan, IsReal, IsCalled, IsInterval, IsPoints, IsRep, HasName}
use Rattle.oas_record.specs.Rows.{NoName, HasExtension, ExtensionFails, HasForm, NoForm, is_set, HasWhere, NoWhere}
use Rattle.oas_record.specs.Rows.{Part, HasFields, NoFields, is_written, switches_after}
use Rattle.oas_record.specs.declared.faults.RecordBad.{RecordBad}
use Rattle.oas_record.specs.declared.faults.RecordBad.TheVariants as faults
use Rattle.oas_record.specs.declared.fields.Called.TheVariants as called
use Rattle.oas_record.proofs.Readers.{weaker, first_rest, numbers1, signed1, text1, real1, bytes1, points}
use Rattle.oas_record.proofs.RepReaders.{rep, interval, tables, values}

-- a string, by both its ends
spanned : (bytes : List ℕ) (at : ℕ) (field : ℕ → ℕ → Field)
    → IsReader (λ (v : Field × ℕ). (first : ℕ) × HasText bytes at first v.1 × (v.0 ≡ field first v.1)) (NoText bytes at)
spanned bytes at field = record {
  one = λ v w h k.
      let same = (text1 bytes at).one (h.0, v.1) (k.0, w.1) h.1 k.1 in
      pair_is v w (h.2 ∙ (ap (λ (p : ℕ × ℕ). field p.0 p.1) same ∙ sym k.2)) (ap (λ (p : ℕ × ℕ). p.1) same);
  apart = λ v e h f. (text1 bytes at).apart (h.0, v.1) e h.1 f;
  cause = (text1 bytes at).cause;
}

-- what is seen of it is where it ends
ended : (field : ℕ → Field) (H : ℕ → Type 0) (F : RecordBad → Type 0) → IsReader H F → IsReader (λ (v : Field × ℕ). H v.1 × (v.0 ≡ field v.1)) F
ended field H F r = record {
  one = λ v w h k.
      let same = r.one v.1 w.1 h.0 k.0 in
      pair_is v w (h.1 ∙ (ap field same ∙ sym k.1)) same;
  apart = λ v e h f. r.apart v.1 e h.0 f;
  cause = r.cause;
}

name : (is_number : Bool) (bytes : List ℕ) (at : ℕ) → IsReader (λ (v : Field × ℕ). HasName is_number bytes at v.0 v.1) (NoName is_number bytes at)
name true bytes at = made (HasUnsigned bytes at) (NoNumber bytes at) (λ n. IsCalled (called.Number n)) (numbers1 bytes at)
name false bytes at = spanned bytes at (λ first next. IsCalled (called.Text first next))

trapezoid_type : (bytes : List ℕ) (at : ℕ)
    → IsReader (λ (v : Field × ℕ). (n : ℕ) × HasUnsigned bytes at n v.1 × (n < 26) × (v.0 ≡ IsNumber n))
    (λ e. NoNumber bytes at e ⊎ ((n : ℕ) × (next : ℕ) × HasUnsigned bytes at n next × ((26 ≤ n) × (e ≡ faults.Shape))))
trapezoid_type bytes at =
    let whole = after (HasUnsigned bytes at) (NoNumber bytes at)
    (λ n mid (v : Field × ℕ). (n < 26) × (v.0 ≡ IsNumber n) × (v.1 ≡ mid))
    (λ n mid e. (26 ≤ n) × (e ≡ faults.Shape)) (numbers1 bytes at) (λ n mid. record {
      one = λ v w h k. pair_is v w (h.1 ∙ sym k.1) (h.2 ∙ sym k.2);
      apart = λ v e h f. omega (arith, h.0, f.0);
      cause = λ e d x y. x.1 ∙ sym y.1;
    }) in
    weaker _ _ _ _ whole (λ v h. (h.0, v.1, h.1, (h.2, h.3, refl))) (λ e f. f)

extension : (bytes : List ℕ) (at : ℕ)
    → IsReader (λ (v : Field × ℕ). (n : ℕ) × HasExtension bytes at n v.1 × (v.0 ≡ IsNumber n))
    (λ e. NoBytes bytes at 1 e ⊎ ExtensionFails bytes at e)
extension bytes at = record {
  one = λ v w h k. pair_is v w (h.2 ∙ (ap IsNumber (h.1.byte ∙ sym k.1.byte) ∙ sym k.2)) (h.1.ends ∙ sym k.1.ends);
  apart = λ v e h f. elim f [
    | inl short ↦ absurd (omega (arith, short.2.cut, h.1.within))
    | inr bad ↦ absurd (omega (arith, bad.refused, h.1.byte, h.1.allowed))
  ];
  cause = λ e d x y. elim x [
    | inl short ↦ elim y [
      | inl again ↦ short.1 ∙ (ap bad_of (short.2.short ∙ sym again.2.short) ∙ sym again.1)
      | inr bad ↦ absurd (omega (arith, short.2.cut, bad.within))
    ]
    | inr bad ↦ elim y [
      | inl short ↦ absurd (omega (arith, short.2.cut, bad.within))
      | inr again ↦ bad.shape ∙ sym again.shape
    ]
  ];
}

form : (f : Form) (s : ℕ) (bytes : List ℕ) (at : ℕ) → IsReader (λ (v : Field × ℕ). HasForm f s bytes at v.0 v.1) (NoForm f s bytes at)
form Number s bytes at = made (HasUnsigned bytes at) (NoNumber bytes at) IsNumber (numbers1 bytes at)
form Signed s bytes at = made (HasSigned bytes at) (NoNumber bytes at) IsSigned (signed1 bytes at)
form Text s bytes at = spanned bytes at (λ first next. IsSpan (first, next))
form OneReal s bytes at = made (HasReal bytes at) (NoReal bytes at) IsReal (real1 bytes at)
form (NameBy bit) s bytes at = name (is_set bit s) bytes at
form Range s bytes at = made (HasInterval bytes at) (NoInterval bytes at) IsInterval (interval bytes at)
form PolygonPoints s bytes at = made (HasPoints true bytes at) (NoPoints true bytes at) IsPoints (points true bytes at)
form PathPoints s bytes at = made (HasPoints false bytes at) (NoPoints false bytes at) IsPoints (points false bytes at)
form Repetition s bytes at = made (HasRep bytes at) (NoRep bytes at) IsRep (rep bytes at)
form TrapezoidType s bytes at = trapezoid_type bytes at
form Extension s bytes at = extension bytes at
form Switch s bytes at = made (HasUnsigned bytes at) (NoNumber bytes at) IsNumber (numbers1 bytes at)
form Count s bytes at = made (HasUnsigned bytes at) (NoNumber bytes at) IsNumber (numbers1 bytes at)
form Tables s bytes at = ended (λ next. IsSpan (at, next)) (HasTables bytes at) (NoNumbers 12 bytes at) (tables bytes at)
form FourBytes s bytes at = ended (λ next. IsSpan (at, next)) (λ next. HasBytes bytes at 4 next) (NoBytes bytes at 4) (bytes1 bytes at 4)
form Values s bytes at = ended (λ next. IsSpan (at, next)) (λ next. EndsValues (s / 16) bytes at next) (NoValues (s / 16) bytes at) (values (s / 16) bytes at)

where_written : (b : Bool) (f : Form) (s : ℕ) (bytes : List ℕ) (at : ℕ) → IsReader (λ (v : Field × ℕ). HasWhere b f s bytes at v.0 v.1) (NoWhere b f s bytes at)
where_written true f s bytes at = form f s bytes at
where_written false f s bytes at = record {
  one = λ v w h k. pair_is v w (h.0 ∙ sym k.0) (h.1 ∙ sym k.1);
  apart = λ v e h x. x;
  cause = λ e d x y. absurd x;
}

no_fields : (s : ℕ) (bytes : List ℕ) (at : ℕ) (v : List Field × ℕ) → HasFields [] s bytes at v.0 v.1 → v ≡ ([], at)
no_fields s bytes at ([], next) h = pair_is _ _ refl (sym h)
no_fields s bytes at (f ∷ fs, next) h = absurd h

fields_parts : (p : Part) (ps : List Part) (s : ℕ) (bytes : List ℕ) (at : ℕ) (v : List Field × ℕ) → HasFields (p ∷ ps) s bytes at v.0 v.1
    → (f : Field) × (m : ℕ) × HasWhere (is_written p.guard s) p.form s bytes at f m
    × ((rest : List Field) × (v.0 ≡ f ∷ rest) × HasFields ps (switches_after p.form f s) bytes m rest v.1)
fields_parts p ps s bytes at ([], next) h = absurd h
fields_parts p ps s bytes at (f ∷ fs, next) h = (f, h.0, h.1, (fs, refl, h.2))

pub fields : (ps : List Part) (s : ℕ) (bytes : List ℕ) (at : ℕ) → IsReader (λ (v : List Field × ℕ). HasFields ps s bytes at v.0 v.1) (NoFields ps s bytes at)
fields [] s bytes at = record {
  one = λ v w h k. no_fields s bytes at v h ∙ sym (no_fields s bytes at w k);
  apart = λ v e h f. f;
  cause = λ e d x y. absurd x;
}
fields (p ∷ ps) s bytes at = weaker _ _ _ _
    (first_rest (λ f m. HasWhere (is_written p.guard s) p.form s bytes at f m) (NoWhere (is_written p.guard s) p.form s bytes at)
    (λ f m fs n. HasFields ps (switches_after p.form f s) bytes m fs n) (λ f m e. NoFields ps (switches_after p.form f s) bytes m e)
    (where_written (is_written p.guard s) p.form s bytes at) (λ f m. fields ps (switches_after p.form f s) bytes m))
    (fields_parts p ps s bytes at) (λ e f. f)
