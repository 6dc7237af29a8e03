-- What is wrong where a number, a string, a real or a delta of a record fails.
use Rattle.std.specs.Prelude.{ℕ, ◌≡◌, List}
use Rattle.oas_lex.specs.Deltas.{DeltaGFails}
use Rattle.oas_lex.specs.Reals.{RealFails}
use Rattle.oas_lex.specs.Strings.{NumberFails, BytesFail, TextFails}
use Rattle.oas_lex.specs.declared.LexBad.{LexBad}
use Rattle.oas_lex.specs.declared.LexBad.TheVariants as lex
use Rattle.oas_record.specs.declared.faults.RecordBad.{RecordBad}
use Rattle.oas_record.specs.declared.faults.RecordBad.TheVariants as faults

-- the fault of a record whose number, string, real or delta has this fault
abbrev pub bad_of : LexBad → RecordBad
bad_of lex.Short = faults.Short
bad_of lex.Wide = faults.Wide
bad_of lex.RealKind = faults.Kind

-- no unsigned or signed number stands at `at`, for this cause
abbrev pub NoNumber : List ℕ → ℕ → RecordBad → Type 0
NoNumber bytes at bad = (cause : LexBad) × (bad ≡ bad_of cause) × NumberFails bytes at cause

-- so many bytes don't stand at `at`, for this cause
abbrev pub NoBytes : List ℕ → ℕ → ℕ → RecordBad → Type 0
NoBytes bytes at count bad = (cause : LexBad) × (bad ≡ bad_of cause) × BytesFail bytes at count cause

-- no string
abbrev pub NoText : List ℕ → ℕ → RecordBad → Type 0
NoText bytes at bad = (cause : LexBad) × (bad ≡ bad_of cause) × TextFails bytes at cause

-- no real
abbrev pub NoReal : List ℕ → ℕ → RecordBad → Type 0
NoReal bytes at bad = (cause : LexBad) × (bad ≡ bad_of cause) × RealFails bytes at cause

-- no g-delta
abbrev pub NoDeltaG : List ℕ → ℕ → RecordBad → Type 0
NoDeltaG bytes at bad = (cause : LexBad) × (bad ≡ bad_of cause) × DeltaGFails bytes at cause
