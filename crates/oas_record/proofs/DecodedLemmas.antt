-- Items as their bytes are read are the items that stand there.
use Rattle.std.proofs.Common.{◌≡◌, ℕ, zero, suc, ◌-◌, ◌/◌, ◌%◌, ◌<◌, ◌≤◌, pos, ℤ, List, [], ◌∷◌, length, take, drop}
use Rattle.std.proofs.Common.{slice_range, inl, inr, refl, sym, ap, subst, ◌∙◌, arith}
use Rattle.std.proofs.lemmas.Bool.{lt-ltb, le-ltb}
use Rattle.std.proofs.lemmas.List.{length-take-le, length-drop}
use Rattle.half_grid.specs.declared.plane.Point.{Point}
use Rattle.oas_lex.specs.Deltas.{move, sideways, towards}
use Rattle.oas_lex.specs.Numbers.{signed_value, value_of, IsWholeNumber, HasUnsigned, HasSigned}
use Rattle.oas_lex.proofs.ForCallers.{whole_some}
use Rattle.oas_record.specs.Decoded.{width, number_in, after_number, numbers_from, g_delta, delta_in, after_delta, deltas_from, AreNumbers, AreDeltas}
use Rattle.oas_record.specs.Faults.{NoNumber}
use Rattle.oas_record.specs.Lists.{HasNumbers, HasDelta, NoDelta, HasDeltas, turned}
use Rattle.oas_record.specs.declared.delta_form.DeltaForm.{DeltaForm}
use Rattle.oas_record.specs.declared.delta_form.DeltaForm.TheVariants.{AlongX, AlongY, TwoDelta, ThreeDelta, GDelta}
use Rattle.oas_record.specs.declared.faults.RecordBad.{RecordBad}
use Rattle.oas_record.proofs.Readers.{numbers1, delta1}

-- ---- one number

width_is : (xs : List ℕ) (k : ℕ) → IsWholeNumber (take k xs) → k ≤ length xs → width xs ≡ k
width_is xs zero h small = absurd h
width_is [] (suc k) h small = absurd h
width_is (byte ∷ rest) (suc k) (inl h) small =
    let none : length (take k rest) ≡ 0 = ap length h.1 in
    let size = length-take-le k rest (omega (arith, small)) in
    rw (lt-ltb byte 128 h.0) (omega (arith, none, size))
width_is (byte ∷ rest) (suc k) (inr h) small = rw (le-ltb byte 128 h.0) (ap suc (width_is rest k h.1 (omega (arith, small))))

first_is : (bytes : List ℕ) (at next : ℕ) → next ≤ length bytes → IsWholeNumber (slice_range bytes at next) → width (drop at bytes) ≡ next - at
first_is bytes at next within whole =
    let size = length-drop at bytes in
    width_is (drop at bytes) (next - at) whole (omega (arith, size, within))

after_is : (bytes : List ℕ) (at next : ℕ) → next ≤ length bytes → IsWholeNumber (slice_range bytes at next) → after_number bytes at ≡ next
after_is bytes at next within whole =
    let size = first_is bytes at next within whole in
    let some = whole_some (drop at bytes) (next - at) whole in
    omega (arith, size, some)

number_there : (bytes : List ℕ) (at n next : ℕ) → HasUnsigned bytes at n next → number_in bytes at ≡ n
number_there bytes at n next h =
    ap (λ (k : ℕ). value_of (take k (drop at bytes))) (first_is bytes at next h.within h.spells.whole) ∙ h.spells.value

after_there : (bytes : List ℕ) (at n next : ℕ) → HasUnsigned bytes at n next → after_number bytes at ≡ next
after_there bytes at n next h = after_is bytes at next h.within h.spells.whole

signed_there : (bytes : List ℕ) (at : ℕ) (z : ℤ) (next : ℕ) → HasSigned bytes at z next → signed_value (number_in bytes at) ≡ z
signed_there bytes at z next h =
    ap (λ (k : ℕ). signed_value (value_of (take k (drop at bytes)))) (first_is bytes at next h.within h.spells.whole) ∙ h.spells.value

after_signed : (bytes : List ℕ) (at : ℕ) (z : ℤ) (next : ℕ) → HasSigned bytes at z next → after_number bytes at ≡ next
after_signed bytes at z next h = after_is bytes at next h.within h.spells.whole

-- ---- one delta

g_even : (bytes : List ℕ) (code y_at : ℕ) → code % 2 ≡ 0 → g_delta bytes code y_at ≡ towards (code / 2 % 8) (code / 16)
g_even bytes code y_at even = rw even refl

g_odd : (bytes : List ℕ) (code y_at : ℕ) → code % 2 ≡ 1
    → g_delta bytes code y_at ≡ move (sideways (code / 2 % 2) (code / 4)) (signed_value (number_in bytes y_at))
g_odd bytes code y_at odd = rw odd refl

delta_there : (form : DeltaForm) (bytes : List ℕ) (at : ℕ) (p : Point) (next : ℕ) → HasDelta form bytes at p next → delta_in form bytes at ≡ p
delta_there AlongX bytes at p next h = ap (λ (z : ℤ). move z (pos 0)) (signed_there bytes at h.0 next h.1) ∙ sym h.2
delta_there AlongY bytes at p next h = ap (λ (z : ℤ). move (pos 0) z) (signed_there bytes at h.0 next h.1) ∙ sym h.2
delta_there TwoDelta bytes at p next h = ap (λ (n : ℕ). towards (n % 4) (n / 4)) (number_there bytes at h.0 next h.1) ∙ sym h.2
delta_there ThreeDelta bytes at p next h = ap (λ (n : ℕ). towards (n % 8) (n / 8)) (number_there bytes at h.0 next h.1) ∙ sym h.2
delta_there GDelta bytes at p next (inl h) =
    ap (λ (n : ℕ). g_delta bytes n (after_number bytes at)) (number_there bytes at h.0 next h.1.spells)
    ∙ (g_even bytes h.0 (after_number bytes at) h.1.even ∙ sym h.1.value)
delta_there GDelta bytes at p next (inr h) =
    let code = number_there bytes at h.0 h.1 h.3.spells in
    let after = after_there bytes at h.0 h.1 h.3.spells in
    let y = signed_there bytes h.1 h.2 next h.3.spells_y in
    ap (λ (n : ℕ). g_delta bytes n (after_number bytes at)) code ∙ (ap (λ (k : ℕ). g_delta bytes h.0 k) after
    ∙ (g_odd bytes h.0 h.1 h.3.odd ∙ (ap (λ (z : ℤ). move (sideways (h.0 / 2 % 2) (h.0 / 4)) z) y ∙ sym h.3.value)))

after_even : (bytes : List ℕ) (at : ℕ) → number_in bytes at % 2 ≡ 0 → after_delta GDelta bytes at ≡ after_number bytes at
after_even bytes at even = rw even refl

after_odd : (bytes : List ℕ) (at : ℕ) → number_in bytes at % 2 ≡ 1 → after_delta GDelta bytes at ≡ after_number bytes (after_number bytes at)
after_odd bytes at odd = rw odd refl

delta_ends : (form : DeltaForm) (bytes : List ℕ) (at : ℕ) (p : Point) (next : ℕ) → HasDelta form bytes at p next → after_delta form bytes at ≡ next
delta_ends AlongX bytes at p next h = after_signed bytes at h.0 next h.1
delta_ends AlongY bytes at p next h = after_signed bytes at h.0 next h.1
delta_ends TwoDelta bytes at p next h = after_there bytes at h.0 next h.1
delta_ends ThreeDelta bytes at p next h = after_there bytes at h.0 next h.1
delta_ends GDelta bytes at p next (inl h) =
    let code = number_there bytes at h.0 next h.1.spells in
    after_even bytes at (ap (λ (n : ℕ). n % 2) code ∙ h.1.even) ∙ after_there bytes at h.0 next h.1.spells
delta_ends GDelta bytes at p next (inr h) =
    let code = number_there bytes at h.0 h.1 h.3.spells in
    let after = after_there bytes at h.0 h.1 h.3.spells in
    after_odd bytes at (ap (λ (n : ℕ). n % 2) code ∙ h.3.odd)
    ∙ (ap (λ (k : ℕ). after_number bytes k) after ∙ after_signed bytes h.1 h.2 next h.3.spells_y)

-- ---- lists

both : {A : Type 0} (x y : A) (xs ys : List A) → x ≡ y → xs ≡ ys → x ∷ xs ≡ y ∷ ys
both x y xs ys p q = ap (λ a. a ∷ xs) p ∙ ap (λ l. y ∷ l) q

numbers_are : (bytes : List ℕ) (at : ℕ) (ns : List ℕ) (next : ℕ) → HasNumbers bytes at ns next → numbers_from (length ns) bytes at ≡ ns
numbers_are bytes at [] next h = refl
numbers_are bytes at (n ∷ ns) next h =
    both (number_in bytes at) n (numbers_from (length ns) bytes (after_number bytes at)) ns (number_there bytes at n h.0 h.1)
    (ap (λ (k : ℕ). numbers_from (length ns) bytes k) (after_there bytes at n h.0 h.1) ∙ numbers_are bytes h.0 ns next h.2)

deltas_are : (form : DeltaForm) (bytes : List ℕ) (at : ℕ) (ps : List Point) (next : ℕ) → HasDeltas form bytes at ps next
    → deltas_from form (length ps) bytes at ≡ ps
deltas_are form bytes at [] next h = refl
deltas_are form bytes at (p ∷ ps) next h =
    both (delta_in form bytes at) p (deltas_from (turned form) (length ps) bytes (after_delta form bytes at)) ps
    (delta_there form bytes at p h.0 h.1) (ap (λ (k : ℕ). deltas_from (turned form) (length ps) bytes k)
    (delta_ends form bytes at p h.0 h.1) ∙ deltas_are (turned form) bytes h.0 ps next h.2)

pub numbers_by : (count : ℕ) (bytes : List ℕ) (at : ℕ) (ns : List ℕ) (next : ℕ) → length ns ≡ count → HasNumbers bytes at ns next
    → numbers_from count bytes at ≡ ns
numbers_by count bytes at ns next size h = subst (λ k. numbers_from k bytes at ≡ ns) size (numbers_are bytes at ns next h)

pub deltas_by : (form : DeltaForm) (count : ℕ) (bytes : List ℕ) (at : ℕ) (ps : List Point) (next : ℕ) → length ps ≡ count
    → HasDeltas form bytes at ps next → deltas_from form count bytes at ≡ ps
deltas_by form count bytes at ps next size h = subst (λ k. deltas_from form k bytes at ≡ ps) size (deltas_are form bytes at ps next h)

pub numbers_hold : (count : ℕ) (bytes : List ℕ) (at : ℕ) → at ≤ length bytes
    → (ns : List ℕ) × (next : ℕ) × (length ns ≡ count) × HasNumbers bytes at ns next → (next : ℕ) × AreNumbers count bytes at next
numbers_hold count bytes at within h = (
  h.1,
  record {
    within = within;
    stand = subst (λ ns. HasNumbers bytes at ns h.1) (sym (numbers_by count bytes at h.0 h.1 h.2 h.3)) h.3;
  },
)

pub deltas_hold : (form : DeltaForm) (count : ℕ) (bytes : List ℕ) (at : ℕ) → at ≤ length bytes
    → (ps : List Point) × (next : ℕ) × (length ps ≡ count) × HasDeltas form bytes at ps next → (next : ℕ) × AreDeltas form count bytes at next
deltas_hold form count bytes at within h = (
  h.1,
  record {
    within = within;
    stand = subst (λ ps. HasDeltas form bytes at ps h.1) (sym (deltas_by form count bytes at h.0 h.1 h.2 h.3)) h.3;
  },
)

pub numbers_count : (count : ℕ) (bytes : List ℕ) (at : ℕ) → count ≡ length (numbers_from count bytes at)
numbers_count zero bytes at = refl
numbers_count (suc count) bytes at = ap suc (numbers_count count bytes (after_number bytes at))

pub deltas_count : (form : DeltaForm) (count : ℕ) (bytes : List ℕ) (at : ℕ) → count ≡ length (deltas_from form count bytes at)
deltas_count form zero bytes at = refl
deltas_count form (suc count) bytes at = ap suc (deltas_count (turned form) count bytes (after_delta form bytes at))

-- ---- the first is taken off

one_less : (k : ℕ) → suc k - 1 ≡ k
one_less k = omega arith

pub numbers_off : (count : ℕ) (bytes : List ℕ) (at n mid : ℕ) → 0 < count → HasUnsigned bytes at n mid
    → numbers_from count bytes at ≡ n ∷ numbers_from (count - 1) bytes mid
numbers_off zero bytes at n mid some h = absurd (omega (arith, some))
numbers_off (suc count) bytes at n mid some h =
    rw (one_less count) (both (number_in bytes at) n (numbers_from count bytes (after_number bytes at)) (numbers_from count bytes mid)
    (number_there bytes at n mid h) (ap (λ (k : ℕ). numbers_from count bytes k) (after_there bytes at n mid h)))

pub numbers_left : (count : ℕ) (bytes : List ℕ) (at n mid next : ℕ) → 0 < count → AreNumbers count bytes at next → HasUnsigned bytes at n mid
    → mid ≤ length bytes → AreNumbers (count - 1) bytes mid next
numbers_left zero bytes at n mid next some a h within = absurd (omega (arith, some))
numbers_left (suc count) bytes at n mid next some a h within =
    let after = after_there bytes at n mid h in
    let same : a.stand.0 ≡ mid = sym (after_there bytes at (number_in bytes at) a.stand.0 a.stand.1) ∙ after in
    let rest = subst (λ k. HasNumbers bytes k (numbers_from count bytes (after_number bytes at)) next) same a.stand.2 in
    rw (one_less count) (record { within = within; stand = subst (λ k. HasNumbers bytes mid (numbers_from count bytes k) next) after rest })

pub numbers_stand : (count : ℕ) (bytes : List ℕ) (at next : ℕ) (bad : RecordBad) → 0 < count → AreNumbers count bytes at next
    → NoNumber bytes at bad → ⊥
numbers_stand zero bytes at next bad some a f = absurd (omega (arith, some))
numbers_stand (suc count) bytes at next bad some a f = (numbers1 bytes at).apart (number_in bytes at, a.stand.0) bad a.stand.1 f

pub deltas_off : (form : DeltaForm) (count : ℕ) (bytes : List ℕ) (at : ℕ) (p : Point) (mid : ℕ) → 0 < count → HasDelta form bytes at p mid
    → deltas_from form count bytes at ≡ p ∷ deltas_from (turned form) (count - 1) bytes mid
deltas_off form zero bytes at p mid some h = absurd (omega (arith, some))
deltas_off form (suc count) bytes at p mid some h =
    rw (one_less count)
    (both (delta_in form bytes at) p (deltas_from (turned form) count bytes (after_delta form bytes at)) (deltas_from (turned form) count bytes mid)
    (delta_there form bytes at p mid h) (ap (λ (k : ℕ). deltas_from (turned form) count bytes k) (delta_ends form bytes at p mid h)))

pub deltas_left : (form : DeltaForm) (count : ℕ) (bytes : List ℕ) (at : ℕ) (p : Point) (mid next : ℕ) → 0 < count
    → AreDeltas form count bytes at next → HasDelta form bytes at p mid → mid ≤ length bytes
    → AreDeltas (turned form) (count - 1) bytes mid next
deltas_left form zero bytes at p mid next some a h within = absurd (omega (arith, some))
deltas_left form (suc count) bytes at p mid next some a h within =
    let after = delta_ends form bytes at p mid h in
    let same : a.stand.0 ≡ mid = sym (delta_ends form bytes at (delta_in form bytes at) a.stand.0 a.stand.1) ∙ after in
    let rest = subst (λ k. HasDeltas (turned form) bytes k (deltas_from (turned form) count bytes (after_delta form bytes at)) next) same a.stand.2 in
    let stand = subst (λ k. HasDeltas (turned form) bytes mid (deltas_from (turned form) count bytes k) next) after rest in
    rw (one_less count) (record { within = within; stand = stand })

pub deltas_stand : (form : DeltaForm) (count : ℕ) (bytes : List ℕ) (at next : ℕ) (bad : RecordBad) → 0 < count
    → AreDeltas form count bytes at next → NoDelta form bytes at bad → ⊥
deltas_stand form zero bytes at next bad some a f = absurd (omega (arith, some))
deltas_stand form (suc count) bytes at next bad some a f = (delta1 form bytes at).apart (delta_in form bytes at, a.stand.0) bad a.stand.1 f
