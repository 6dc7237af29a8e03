-- What was found at a place, as a record or a cause; and at all places up to one.
use Rattle.std.proofs.Common.{◌≡◌, ℕ, ◌+◌, ◌<◌, ◌≤◌, Bool, true, false, List, length, Result, Ok, Err, IfOk, IfErr, inl, inr, subst, arith}
use Rattle.std.proofs.lemmas.Bool.{cases_lt}
use Rattle.oas_record.specs.Records.{HasRecord, NoRecord}
use Rattle.oas_record.specs.declared.faults.RecordBad.{RecordBad}
use Rattle.oas_record.specs.declared.records.OasRecord.{OasRecord}
use Rattle.layout_laws.specs.FileLaws.{HasRecordOrNone}

pub found : (bytes : List ℕ) (at : ℕ) (tables : Bool) (r : Result (OasRecord × ℕ) RecordBad)
    → IfOk r (λ (x : OasRecord × ℕ). HasRecord bytes at tables x.0 x.1) → IfErr r (λ bad. NoRecord bytes at tables bad)
    → IfOk r (λ (x : OasRecord × ℕ). at < x.1) → IfOk r (λ (x : OasRecord × ℕ). x.1 ≤ length bytes) → HasRecordOrNone bytes at tables
found bytes at tables (Ok x) stands none onward within = inl (record { r = x.0; next = x.1; stands = stands; onward = onward; within = within })
found bytes at tables (Err bad) stands none onward within = inr (bad, none)

pub either : (P : Bool → Type 0) → P false → P true → (b : Bool) → P b
either P under over false = under
either P under over true = over

-- what holds below a number and at it holds up to it
pub up_to : (P : ℕ → Type 0) (n : ℕ) → ((k : ℕ) → k < n → P k) → P n → (k : ℕ) → k ≤ n → P k
up_to P n below here k le = elim (cases_lt k n) [
  | inl less ↦ below k less
  | inr more ↦ (let same : n ≡ k = omega (arith, le, more) in subst P same here)
]

pub below_more : (P : ℕ → Type 0) (n : ℕ) → ((k : ℕ) → k < n → P k) → P n → (k : ℕ) → k < n + 1 → P k
below_more P n below here k less = up_to P n below here k (omega (arith, less))
