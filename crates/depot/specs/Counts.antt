-- A depot counts its refusals by kind. A count never falls, and it stays at its greatest value, 2^64 - 1. So a
-- refusal shows as a count that rose in the call, or that stands at this value at the call's end.
use Rattle.std.specs.Prelude.{◌⊎◌, ℕ, ◌-◌, ◌+◌, ◌^◌, ◌<◌, ◌≤◌, min}

pub record Counts : Type 0 where
  -- refused reads and starts of a read
  pub read_faults : ℕ
  -- refused writes, starts of a write, and words to standard output
  pub write_faults : ℕ
  -- wants of memory
  pub refused : ℕ

-- nothing was counted
abbrev pub no_counts : Counts
no_counts = record { read_faults = 0; write_faults = 0; refused = 0 }

-- the count rose from `before` to `now`, or stands at its greatest value
abbrev pub Rose : ℕ → ℕ → Type 0
Rose before now = (before < now) ⊎ (2 ^ 64 - 1 ≤ now)

-- one more, up to the greatest value
abbrev pub raised : ℕ → ℕ
raised count = min (count + 1) (2 ^ 64 - 1)

-- no count fell
pub record NeverFall (before now : Counts) : Type 0 where
  pub read_faults : before.read_faults ≤ now.read_faults
  pub write_faults : before.write_faults ≤ now.write_faults
  pub refused : before.refused ≤ now.refused
