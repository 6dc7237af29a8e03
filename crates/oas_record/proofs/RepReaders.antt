-- One repetition, interval or property value stands at a place, with one end, or it fails for one cause.
use Rattle.std.proofs.Common.{◌≡◌, ℕ, zero, suc, ◌+◌, pos, Option, Some, None, List, map, drop, slice_index, get_or}
use Rattle.std.proofs.Common.{inl, inr, refl, sym, ap, ◌∙◌, nat_eq, if◌then◌else◌}
use Rattle.half_grid.specs.declared.plane.Point.{Point}
use Rattle.oas_lex.specs.Numbers.{HasUnsigned, HasSigned}
use Rattle.oas_lex.specs.Reals.{HasReal}
use Rattle.oas_lex.specs.Strings.{HasText}
use Rattle.oas_lex.proofs.ForCallers.{IsReader, pair_is, after}
use Rattle.oas_record.specs.Faults.{NoNumber, NoText, NoReal}
use Rattle.oas_record.specs.Lists.{NoNumbers, NoDeltas}
use Rattle.oas_record.specs.Repetitions.{RepRow, amount, rep_rows, row_at, kind_of, dims_of, numbers_of, deltas_of, HasRepetitionRow, HasRep, AfterDims, RepetitionRowFails, NoRep}
use Rattle.oas_record.specs.Values.{bounds, HasBounds, HasInterval, NoBounds, NoInterval, HasTables, value_form}
use Rattle.oas_record.specs.Values.{ValueForm, OneReal, OneUnsigned, OneSigned, OneString, EndsValueOf, EndsValue}
use Rattle.oas_record.specs.Values.{EndsValues, NoValueOf, NoValue, NoValues}
use Rattle.oas_record.specs.declared.delta_form.DeltaForm.TheVariants.{GDelta}
use Rattle.oas_record.specs.declared.faults.RecordBad.{RecordBad}
use Rattle.oas_record.specs.declared.faults.RecordBad.TheVariants as faults
use Rattle.oas_record.specs.declared.fields.Interval.{Interval}
use Rattle.oas_record.specs.declared.repetition.Rep.{Rep}
use Rattle.oas_record.specs.declared.repetition.Rep.TheVariants as reps
use Rattle.oas_record.proofs.Readers.{weaker, chain, kinded, nothing, numbers1, signed1, text1, real1, Numbers, numbers, Moves, deltas}

-- ---- repetitions

-- dimensions, numbers, deltas
abbrev Lists : Type 0
Lists = (List ℕ × List ℕ) × List Point

abbrev AfterNumbers : RepRow → List ℕ → List ℕ → List ℕ → ℕ → Lists × ℕ → Type 0
AfterNumbers r bytes stored ns b v =
    (v.0.0.0 ≡ map (λ n. n + 2) stored) × (v.0.0.1 ≡ ns) × Moves GDelta (amount r.deltas stored) bytes b v.0.1 v.1

after_numbers : (r : RepRow) (bytes stored ns : List ℕ) (b : ℕ) → IsReader (AfterNumbers r bytes stored ns b) (NoDeltas GDelta (amount r.deltas stored) bytes b)
after_numbers r bytes stored ns b =
    let last = deltas GDelta (amount r.deltas stored) bytes b in
    record {
      one = λ v w h k.
          let same = last.one (v.0.1, v.1) (w.0.1, w.1) h.2 k.2 in
          pair_is v w (pair_is v.0 w.0 (pair_is v.0.0 w.0.0 (h.0 ∙ sym k.0) (h.1 ∙ sym k.1)) (ap (λ p. p.0) same)) (ap (λ p. p.1) same);
      apart = λ v e h f. last.apart (v.0.1, v.1) e h.2 f;
      cause = last.cause;
    }

row_of : (row : Option RepRow) (bytes : List ℕ) (at : ℕ) → IsReader (λ (v : Lists × ℕ). HasRepetitionRow row bytes at v.0.0.0 v.0.0.1 v.0.1 v.1) (RepetitionRowFails row bytes at)
row_of (Some r) bytes at = weaker _ _ _ _
    (after (λ stored a. Numbers r.dims bytes at stored a) (NoNumbers r.dims bytes at)
    (λ stored a (v : Lists × ℕ). (ns : List ℕ) × (b : ℕ) × Numbers (amount r.numbers stored) bytes a ns b × AfterNumbers r bytes stored ns b v)
    (λ stored a e. AfterDims r stored bytes a e)
    (numbers r.dims bytes at)
    (λ stored a. after (λ ns b. Numbers (amount r.numbers stored) bytes a ns b) (NoNumbers (amount r.numbers stored) bytes a)
    (λ ns b (v : Lists × ℕ). AfterNumbers r bytes stored ns b v) (λ ns b e. NoDeltas GDelta (amount r.deltas stored) bytes b e)
    (numbers (amount r.numbers stored) bytes a) (λ ns b. after_numbers r bytes stored ns b)))
    (λ v h. (
      h.0,
      h.1,
      (h.3.dim_count, h.3.stands_dims),
      (
        v.0.0.1,
        h.2,
        (h.3.number_count, h.3.stands_numbers),
        (h.3.dims_are, refl, (h.3.delta_count, h.3.stands_deltas)),
      ),
    ))
    (λ e f. f)
row_of None bytes at = nothing faults.Shape

-- the repetition with this kind and these fields
rep_from : ℕ → List ℕ → List ℕ → List Point → Rep
rep_from kind d n p =
    if nat_eq kind 1 then reps.Grid (get_or d 0 0) (get_or d 1 0) (get_or n 0 0) (get_or n 1 0)
    else if nat_eq kind 2 then reps.Row (get_or d 0 0) (get_or n 0 0)
    else if nat_eq kind 3 then reps.Column (get_or d 0 0) (get_or n 0 0)
    else if nat_eq kind 4 then reps.RowSpaces (get_or d 0 0) n
    else if nat_eq kind 5 then reps.RowOnGrid (get_or d 0 0) (get_or n 0 0) (drop 1 n)
    else if nat_eq kind 6 then reps.ColumnSpaces (get_or d 0 0) n
    else if nat_eq kind 7 then reps.ColumnOnGrid (get_or d 0 0) (get_or n 0 0) (drop 1 n)
    else if nat_eq kind 8 then reps.Lattice (get_or d 0 0) (get_or d 1 0) (get_or p 0 origin) (get_or p 1 origin)
    else if nat_eq kind 9 then reps.Line (get_or d 0 0) (get_or p 0 origin)
    else if nat_eq kind 10 then reps.Moves (get_or d 0 0) p
    else if nat_eq kind 11 then reps.MovesOnGrid (get_or d 0 0) (get_or n 0 0) p
    else reps.Same
  where
    origin : Point
    origin = record { x = pos 0; y = pos 0 }

rep_back : (r : Rep) → rep_from (kind_of r) (dims_of r) (numbers_of r) (deltas_of r) ≡ r
unfolding rep_from
rep_back reps.Same = refl
rep_back (reps.Grid a b c d) = refl
rep_back (reps.Row d s) = refl
rep_back (reps.Column d s) = refl
rep_back (reps.RowSpaces d s) = refl
rep_back (reps.RowOnGrid d g s) = refl
rep_back (reps.ColumnSpaces d s) = refl
rep_back (reps.ColumnOnGrid d g s) = refl
rep_back (reps.Lattice m n u v) = refl
rep_back (reps.Line d u) = refl
rep_back (reps.Moves d m) = refl
rep_back (reps.MovesOnGrid d g m) = refl

same_rep : (r s : Rep) → kind_of r ≡ kind_of s → dims_of r ≡ dims_of s → numbers_of r ≡ numbers_of s → deltas_of r ≡ deltas_of s → r ≡ s
same_rep r s kind d n p =
    let first = ap (λ (k : ℕ). rep_from k (dims_of r) (numbers_of r) (deltas_of r)) kind in
    let second = ap (λ (l : List ℕ). rep_from (kind_of s) l (numbers_of r) (deltas_of r)) d in
    let third = ap (λ (l : List ℕ). rep_from (kind_of s) (dims_of s) l (deltas_of r)) n in
    let fourth = ap (λ (l : List Point). rep_from (kind_of s) (dims_of s) (numbers_of s) l) p in
    sym (rep_back r) ∙ (first ∙ (second ∙ (third ∙ (fourth ∙ rep_back s))))

pub rep : (bytes : List ℕ) (at : ℕ) → IsReader (λ (v : Rep × ℕ). HasRep bytes at v.0 v.1) (NoRep bytes at)
rep bytes at =
    let kind = slice_index bytes at in
    let rest = row_of (row_at rep_rows kind) bytes (at + 1) in
    let whole = kinded bytes at
    (λ (v : Rep × ℕ). (kind_of v.0 ≡ kind) × HasRepetitionRow (row_at rep_rows kind) bytes (at + 1) (dims_of v.0)
    (numbers_of v.0) (deltas_of v.0) v.1) (RepetitionRowFails (row_at rep_rows kind) bytes (at + 1)) (record {
      one = λ v w h k.
          let same = rest.one (((dims_of v.0, numbers_of v.0), deltas_of v.0), v.1) (((dims_of w.0, numbers_of w.0), deltas_of w.0), w.1) h.1 k.1 in
          pair_is v w (same_rep v.0 w.0 (h.0 ∙ sym k.0) (ap (λ p. p.0.0.0) same) (ap (λ p. p.0.0.1) same) (ap (λ p. p.0.1) same)) (ap (λ p. p.1) same);
      apart = λ v e h f. rest.apart (((dims_of v.0, numbers_of v.0), deltas_of v.0), v.1) e h.1 f;
      cause = rest.cause;
    }) in
    record {
      one = λ v w h k. whole.one v w (h.within, (h.kind, h.parts)) (k.within, (k.kind, k.parts));
      apart = λ v e h f. whole.apart v e (h.within, (h.kind, h.parts)) (elim f [ inl short ↦ inl short | inr bad ↦ inr (bad.within, bad.fails) ]);
      cause = λ e d x y. whole.cause e d (elim x [ inl short ↦ inl short | inr bad ↦ inr (bad.within, bad.fails) ])
          (elim y [ inl short ↦ inl short | inr bad ↦ inr (bad.within, bad.fails) ]);
    }

-- ---- intervals

bounds_of : (count : Option ℕ) (bytes : List ℕ) (at : ℕ) → IsReader (λ (v : (ℕ × ℕ) × ℕ). HasBounds count bytes at v.0.0 v.0.1 v.1) (NoBounds count bytes at)
bounds_of (Some count) bytes at =
    let list = numbers count bytes at in
    record {
      one = λ v w h k.
          let same = list.one (h.0, v.1) (k.0, w.1) (h.1, h.2) (k.1, k.2) in
          let first : v.0.0 ≡ w.0.0 = h.3 ∙ (ap (λ (p : List ℕ × ℕ). get_or p.0 0 0) same ∙ sym k.3) in
          let second : v.0.1 ≡ w.0.1 = h.4 ∙ (ap (λ (p : List ℕ × ℕ). get_or p.0 1 0) same ∙ sym k.4) in
          pair_is v w (pair_is v.0 w.0 first second) (ap (λ (p : List ℕ × ℕ). p.1) same);
      apart = λ v e h f. list.apart (h.0, v.1) e (h.1, h.2) f;
      cause = list.cause;
    }
bounds_of None bytes at = nothing faults.Shape

same_interval : (i j : Interval) → i.kind ≡ j.kind → i.a ≡ j.a → i.b ≡ j.b → i ≡ j
same_interval i j kind a b =
    ap (λ (n : ℕ). record i { kind = n }) kind ∙ (ap (λ (n : ℕ). record j { a = n; b = i.b }) a ∙ ap (λ (n : ℕ). record j { b = n }) b)

pub interval : (bytes : List ℕ) (at : ℕ) → IsReader (λ (v : Interval × ℕ). HasInterval bytes at v.0 v.1) (NoInterval bytes at)
interval bytes at =
    let kind = slice_index bytes at in
    let rest = bounds_of (bounds kind) bytes (at + 1) in
    let whole = kinded bytes at
    (λ (v : Interval × ℕ). (v.0.kind ≡ kind) × HasBounds (bounds kind) bytes (at + 1) v.0.a v.0.b v.1)
    (NoBounds (bounds kind) bytes (at + 1)) (record {
      one = λ v w h k.
          let same = rest.one ((v.0.a, v.0.b), v.1) ((w.0.a, w.0.b), w.1) h.1 k.1 in
          pair_is v w (same_interval v.0 w.0 (h.0 ∙ sym k.0) (ap (λ p. p.0.0) same) (ap (λ p. p.0.1) same)) (ap (λ p. p.1) same);
      apart = λ v e h f. rest.apart ((v.0.a, v.0.b), v.1) e h.1 f;
      cause = rest.cause;
    }) in
    record {
      one = λ v w h k. whole.one v w (h.within, (h.kind, h.numbers)) (k.within, (k.kind, k.numbers));
      apart = λ v e h f. whole.apart v e (h.within, (h.kind, h.numbers)) (elim f [ inl short ↦ inl short | inr bad ↦ inr (bad.within, bad.fails) ]);
      cause = λ e d x y. whole.cause e d (elim x [ inl short ↦ inl short | inr bad ↦ inr (bad.within, bad.fails) ])
          (elim y [ inl short ↦ inl short | inr bad ↦ inr (bad.within, bad.fails) ]);
    }

-- ---- ends

-- where a value ends, whatever it is
ends : {A : Type 0} (H : A → ℕ → Type 0) (F : RecordBad → Type 0) → IsReader (λ (v : A × ℕ). H v.0 v.1) F → IsReader (λ (next : ℕ). (a : A) × H a next) F
ends {A = A} H F r = record {
  one = λ v w h k. ap (λ (p : A × ℕ). p.1) (r.one (h.0, v) (k.0, w) h.1 k.1);
  apart = λ v e h f. r.apart (h.0, v) e h.1 f;
  cause = r.cause;
}

pub tables : (bytes : List ℕ) (at : ℕ) → IsReader (λ (next : ℕ). HasTables bytes at next) (NoNumbers 12 bytes at)
tables bytes at = weaker _ _ _ _
    (ends (λ ns next. Numbers 12 bytes at ns next) (NoNumbers 12 bytes at) (numbers 12 bytes at))
    (λ next h. (h.0, (h.1, h.2))) (λ e f. f)

value_of : (form : Option ValueForm) (bytes : List ℕ) (at : ℕ) → IsReader (λ (next : ℕ). EndsValueOf form bytes at next) (NoValueOf form bytes at)
value_of (Some OneReal) bytes at = ends (HasReal bytes at) (NoReal bytes at) (real1 bytes at)
value_of (Some OneUnsigned) bytes at = ends (HasUnsigned bytes (at + 1)) (NoNumber bytes (at + 1)) (numbers1 bytes (at + 1))
value_of (Some OneSigned) bytes at = ends (HasSigned bytes (at + 1)) (NoNumber bytes (at + 1)) (signed1 bytes (at + 1))
value_of (Some OneString) bytes at = ends (λ first next. HasText bytes (at + 1) first next) (NoText bytes (at + 1)) (text1 bytes (at + 1))
value_of None bytes at = nothing faults.Kind

value : (bytes : List ℕ) (at : ℕ) → IsReader (λ (next : ℕ). EndsValue bytes at next) (NoValue bytes at)
value bytes at =
    let kind = slice_index bytes at in
    weaker _ _ _ _ (kinded bytes at (λ (next : ℕ). EndsValueOf (value_form kind) bytes at next)
    (NoValueOf (value_form kind) bytes at) (value_of (value_form kind) bytes at))
    (λ next h. (h.within, h.value)) (λ e f. elim f [ inl short ↦ inl short | inr bad ↦ inr (bad.within, bad.fails) ])

pub values : (count : ℕ) (bytes : List ℕ) (at : ℕ) → IsReader (λ (next : ℕ). EndsValues count bytes at next) (NoValues count bytes at)
values zero bytes at = record {
  one = λ v w h k. sym h ∙ k;
  apart = λ v e h f. f;
  cause = λ e d x y. absurd x;
}
values (suc count) bytes at = chain (λ mid. EndsValue bytes at mid) (NoValue bytes at)
    (λ mid next. EndsValues count bytes mid next) (λ mid e. NoValues count bytes mid e)
    (value bytes at) (λ mid. values count bytes mid)
