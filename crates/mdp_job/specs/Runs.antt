-- What is known of a command: contents and counts before and after it, and how it ended.
use Rattle.std.specs.Prelude.{◌≡◌, ◌⊎◌}
use Rattle.depot.specs.Content.{Content}
use Rattle.depot.specs.Counts.{Counts, Rose}
use Rattle.job_report.specs.declared.status.Status.{Status}
use Rattle.job_report.specs.declared.status.Status.TheVariants as answers

pub record Run : Type 0 where
  pub before : Content
  pub after : Content
  pub old : Counts
  pub new : Counts

abbrev pub run_of : Content → Content → Counts → Counts → Run
run_of before after old new = record { before = before; after = after; old = old; new = new }

-- a fault of reading, a fault of writing, a want of memory was counted
abbrev pub ReadRose : Run → Type 0
ReadRose r = Rose r.old.read_faults r.new.read_faults

abbrev pub WriteRose : Run → Type 0
WriteRose r = Rose r.old.write_faults r.new.write_faults

abbrev pub RefusedRose : Run → Type 0
RefusedRose r = Rose r.old.refused r.new.refused

-- The answer comes only where its cause holds, and where it holds no other comes but want of memory and a counted
-- fault of reading.
pub record ComesExactlyWhere (read_rose : Type 0) (result answer : Status) (cause : Type 0) : Type 0 where
  pub only : result ≡ answer → cause
  pub whenever : cause → (result ≡ answer) ⊎ (result ≡ answers.NoMemory) ⊎ ((result ≡ answers.ReadFault) × read_rose)

-- What was to be done was done, or was done in part and the answer is a fault of writing or want of memory that was
-- counted.
abbrev pub IsEndedSo : (write_rose refused_rose done half : Type 0) → Status → Type 0
IsEndedSo write_rose refused_rose done half result =
    ((result ≡ answers.Done) × done)
    ⊎ ((result ≡ answers.WriteFault) × write_rose × half)
    ⊎ ((result ≡ answers.NoMemory) × refused_rose × half)
