-- Numbers, deltas and values one after the other: one more, and the first that fails.
use Rattle.std.proofs.Common.{◌≡◌, ℕ, zero, suc, ◌+◌, ◌<◌, List, [], ◌∷◌, ◌++◌, length, inl, inr, refl, sym, subst, arith, add-one}
use Rattle.half_grid.specs.declared.plane.Point.{Point}
use Rattle.oas_lex.specs.Numbers.{HasUnsigned}
use Rattle.oas_record.specs.Faults.{NoNumber}
use Rattle.oas_record.specs.Lists.{HasNumbers, NoNumbers, HasDelta, NoDelta, HasDeltas, NoDeltas, turned}
use Rattle.oas_record.specs.Values.{EndsValue, EndsValues, NoValue, NoValues}
use Rattle.oas_record.specs.declared.delta_form.DeltaForm.{DeltaForm}
use Rattle.oas_record.specs.declared.faults.RecordBad.{RecordBad}

-- ---- numbers

pub numbers_push : (bytes : List ℕ) (at : ℕ) (ns : List ℕ) (mid n next : ℕ) → HasNumbers bytes at ns mid
    → HasUnsigned bytes mid n next → HasNumbers bytes at (ns ++ n ∷ []) next
numbers_push bytes at [] mid n next h u = (next, subst (λ k. HasUnsigned bytes k n next) (sym h) u, refl)
numbers_push bytes at (m ∷ ns) mid n next h u = (h.0, h.1, numbers_push bytes h.0 ns mid n next h.2 u)

pub numbers_fail : (bytes : List ℕ) (at : ℕ) (ns : List ℕ) (mid count : ℕ) (bad : RecordBad)
    → HasNumbers bytes at ns mid → length ns < count → NoNumber bytes mid bad → NoNumbers count bytes at bad
numbers_fail bytes at ns mid zero bad h small f = absurd (omega (arith, small))
numbers_fail bytes at [] mid (suc count) bad h small f = inl (subst (λ k. NoNumber bytes k bad) (sym h) f)
numbers_fail bytes at (n ∷ ns) mid (suc count) bad h small f = inr (n, h.0, h.1, numbers_fail bytes h.0 ns mid count bad h.2 (omega (arith, small)) f)

-- ---- deltas

-- the form after these deltas
abbrev pub turns : List Point → DeltaForm → DeltaForm
turns [] form = form
turns (p ∷ ps) form = turns ps (turned form)

pub turns_push : (ps : List Point) (p : Point) (form : DeltaForm) → turns (ps ++ p ∷ []) form ≡ turned (turns ps form)
turns_push [] p form = refl
turns_push (q ∷ ps) p form = turns_push ps p (turned form)

pub deltas_push : (form : DeltaForm) (bytes : List ℕ) (at : ℕ) (ps : List Point) (mid : ℕ) (p : Point) (next : ℕ)
    → HasDeltas form bytes at ps mid → HasDelta (turns ps form) bytes mid p next
    → HasDeltas form bytes at (ps ++ p ∷ []) next
deltas_push form bytes at [] mid p next h d = (next, subst (λ k. HasDelta form bytes k p next) (sym h) d, refl)
deltas_push form bytes at (q ∷ ps) mid p next h d = (h.0, h.1, deltas_push (turned form) bytes h.0 ps mid p next h.2 d)

pub deltas_fail : (form : DeltaForm) (bytes : List ℕ) (at : ℕ) (ps : List Point) (mid count : ℕ) (bad : RecordBad)
    → HasDeltas form bytes at ps mid → length ps < count → NoDelta (turns ps form) bytes mid bad
    → NoDeltas form count bytes at bad
deltas_fail form bytes at ps mid zero bad h small f = absurd (omega (arith, small))
deltas_fail form bytes at [] mid (suc count) bad h small f = inl (subst (λ k. NoDelta form bytes k bad) (sym h) f)
deltas_fail form bytes at (p ∷ ps) mid (suc count) bad h small f = inr
    (p, h.0, h.1, deltas_fail (turned form) bytes h.0 ps mid count bad h.2 (omega (arith, small)) f)

-- ---- values

values_next : (k : ℕ) (bytes : List ℕ) (at mid next : ℕ) → EndsValues k bytes at mid → EndsValue bytes mid next → EndsValues (suc k) bytes at next
values_next zero bytes at mid next h v = (next, subst (λ n. EndsValue bytes n next) (sym h) v, refl)
values_next (suc k) bytes at mid next h v = (h.0, h.1, values_next k bytes h.0 mid next h.2 v)

pub values_push : (k : ℕ) (bytes : List ℕ) (at mid next : ℕ) → EndsValues k bytes at mid → EndsValue bytes mid next → EndsValues (k + 1) bytes at next
values_push k bytes at mid next h v = rw add-one (values_next k bytes at mid next h v)

pub values_fail : (k : ℕ) (bytes : List ℕ) (at mid count : ℕ) (bad : RecordBad) → EndsValues k bytes at mid → k < count
    → NoValue bytes mid bad → NoValues count bytes at bad
values_fail k bytes at mid zero bad h small f = absurd (omega (arith, small))
values_fail zero bytes at mid (suc count) bad h small f = inl (subst (λ n. NoValue bytes n bad) (sym h) f)
values_fail (suc k) bytes at mid (suc count) bad h small f = inr (h.0, h.1, values_fail k bytes h.0 mid count bad h.2 (omega (arith, small)) f)
