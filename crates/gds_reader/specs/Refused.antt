-- The refusal of a record that breaks a rule.
use Rattle.std.specs.Prelude.{◌≡◌, ℕ}
use Rattle.gds_reader.specs.Values.{IsLowest}
use Rattle.gds_reader.specs.declared.refusing.GdsBad.{GdsBad}
use Rattle.gds_reader.specs.declared.refusing.GdsBad.TheVariants.{Value}

-- the fault is the lowest rule that isn't kept, at this offset
abbrev pub IsRefusedBy : (ℕ → Type 0) → ℕ → GdsBad → Type 0
IsRefusedBy Kept at bad = (rule : ℕ) × (bad ≡ Value at rule) × IsLowest Kept rule

-- no rule is the lowest that isn't kept
abbrev pub BreaksNone : (ℕ → Type 0) → Type 0
BreaksNone Kept = (rule : ℕ) → ¬ IsLowest Kept rule
