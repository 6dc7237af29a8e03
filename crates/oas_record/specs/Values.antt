-- Intervals, table offsets and the values of a property (SEMI P39 1.0, LAYERNAME, START, END and PROPERTY).
--
-- An interval is a byte for its kind, 0 to 4, and no number, one or two. Table offsets are twelve unsigned numbers. A
-- property value is a byte for its kind: 0 to 7 a real of this kind, 8 an unsigned number, 9 a signed one, 10 to 12 a
-- string, 13 to 15 the number of a string.
use Rattle.std.specs.Prelude.{ℕ, zero, suc, ◌+◌, ◌<◌, ◌≡◌, ◌⊎◌, ℤ, nat_eq, nat_lt, if◌then◌else◌, Option, Some, None, List, length, slice_index, get_or}
use Rattle.oas_lex.specs.Numbers.{HasUnsigned, HasSigned}
use Rattle.oas_lex.specs.Reals.{HasReal}
use Rattle.oas_lex.specs.Strings.{HasText}
use Rattle.oas_lex.specs.declared.reals.Real.{Real}
use Rattle.oas_record.specs.Faults.{NoNumber, NoBytes, NoText, NoReal}
use Rattle.oas_record.specs.Lists.{HasNumbers, NoNumbers}
use Rattle.oas_record.specs.declared.faults.RecordBad.{RecordBad}
use Rattle.oas_record.specs.declared.faults.RecordBad.TheVariants as faults
use Rattle.oas_record.specs.declared.fields.Interval.{Interval}

-- ---- intervals

-- how many numbers an interval of this kind has: all, up to a, from a, just a, from a to b
abbrev pub bounds : ℕ → Option ℕ
bounds kind =
    if nat_eq kind 0 then Some 0
    else if nat_lt kind 4 then Some 1
    else if nat_eq kind 4 then Some 2
    else None

-- a number that isn't there is 0
abbrev pub HasBounds : Option ℕ → List ℕ → ℕ → ℕ → ℕ → ℕ → Type 0
HasBounds (Some count) bytes at a b next =
    (ns : List ℕ) × (length ns ≡ count) × HasNumbers bytes at ns next × (a ≡ get_or ns 0 0) × (b ≡ get_or ns 1 0)
HasBounds None bytes at a b next = ⊥

-- the interval stands from `at` up to before `next`
pub record HasInterval (bytes : List ℕ) (at : ℕ) (interval : Interval) (next : ℕ) : Type 0 where
  pub within : at < length bytes
  pub kind : interval.kind ≡ slice_index bytes at
  pub numbers : HasBounds (bounds (slice_index bytes at)) bytes (at + 1) interval.a interval.b next

abbrev pub NoBounds : Option ℕ → List ℕ → ℕ → RecordBad → Type 0
NoBounds (Some count) bytes at bad = NoNumbers count bytes at bad
NoBounds None bytes at bad = bad ≡ faults.Shape

pub record BoundsFail (bytes : List ℕ) (at : ℕ) (bad : RecordBad) : Type 0 where
  pub within : at < length bytes
  pub fails : NoBounds (bounds (slice_index bytes at)) bytes (at + 1) bad

abbrev pub NoInterval : List ℕ → ℕ → RecordBad → Type 0
NoInterval bytes at bad = NoBytes bytes at 1 bad ⊎ BoundsFail bytes at bad

-- ---- table offsets

abbrev pub HasTables : List ℕ → ℕ → ℕ → Type 0
HasTables bytes at next = (ns : List ℕ) × (length ns ≡ 12) × HasNumbers bytes at ns next

-- ---- property values

pub data ValueForm : Type 0 where
  OneReal : ValueForm
  OneUnsigned : ValueForm
  OneSigned : ValueForm
  OneString : ValueForm

abbrev pub value_form : ℕ → Option ValueForm
value_form kind =
    if nat_lt kind 8 then Some OneReal
    else if nat_eq kind 8 then Some OneUnsigned
    else if nat_eq kind 9 then Some OneSigned
    else if nat_lt kind 13 then Some OneString
    else if nat_lt kind 16 then Some OneUnsigned
    else None

-- a value whose kind stands at `at` ends before `next`; a real's kind is its own
abbrev pub EndsValueOf : Option ValueForm → List ℕ → ℕ → ℕ → Type 0
EndsValueOf (Some OneReal) bytes at next = (r : Real) × HasReal bytes at r next
EndsValueOf (Some OneUnsigned) bytes at next = (n : ℕ) × HasUnsigned bytes (at + 1) n next
EndsValueOf (Some OneSigned) bytes at next = (z : ℤ) × HasSigned bytes (at + 1) z next
EndsValueOf (Some OneString) bytes at next = (first : ℕ) × HasText bytes (at + 1) first next
EndsValueOf None bytes at next = ⊥

-- a property value stands from `at` up to before `next`
pub record EndsValue (bytes : List ℕ) (at next : ℕ) : Type 0 where
  pub within : at < length bytes
  pub value : EndsValueOf (value_form (slice_index bytes at)) bytes at next

-- so many values stand from `at` up to before `next`
abbrev pub EndsValues : ℕ → List ℕ → ℕ → ℕ → Type 0
EndsValues zero bytes at next = at ≡ next
EndsValues (suc count) bytes at next = (mid : ℕ) × EndsValue bytes at mid × EndsValues count bytes mid next

abbrev pub NoValueOf : Option ValueForm → List ℕ → ℕ → RecordBad → Type 0
NoValueOf (Some OneReal) bytes at bad = NoReal bytes at bad
NoValueOf (Some OneUnsigned) bytes at bad = NoNumber bytes (at + 1) bad
NoValueOf (Some OneSigned) bytes at bad = NoNumber bytes (at + 1) bad
NoValueOf (Some OneString) bytes at bad = NoText bytes (at + 1) bad
NoValueOf None bytes at bad = bad ≡ faults.Kind

pub record ValueFails (bytes : List ℕ) (at : ℕ) (bad : RecordBad) : Type 0 where
  pub within : at < length bytes
  pub fails : NoValueOf (value_form (slice_index bytes at)) bytes at bad

abbrev pub NoValue : List ℕ → ℕ → RecordBad → Type 0
NoValue bytes at bad = NoBytes bytes at 1 bad ⊎ ValueFails bytes at bad

-- so many values don't stand at `at`: the first that fails, fails for this cause
abbrev pub NoValues : ℕ → List ℕ → ℕ → RecordBad → Type 0
NoValues zero bytes at bad = ⊥
NoValues (suc count) bytes at bad = NoValue bytes at bad ⊎ ((mid : ℕ) × EndsValue bytes at mid × NoValues count bytes mid bad)
