-- How many shots the records ask for that are spelled from a place on.
use Rattle.std.specs.Prelude.{ℕ, ◌≡◌, ◌≤◌, List, ◌++◌, flat_map, All}
use Rattle.shot_repeat.specs.Packed.{most_of_file, HasFew}
use Rattle.shot_repeat.specs.Records.{IsNarrow, record_text}
use Rattle.shot_repeat.specs.Refusals.{count_given}
use Rattle.shot_repeat.specs.declared.record.PackRecord.{PackRecord}

-- the bytes begin with these records, each in its one spelling
pub record BeginsWith (rest : List ℕ) (records : List PackRecord) : Type 0 where
  pub narrow : All IsNarrow records
  pub after : List ℕ
  pub text : rest ≡ flat_map record_text records ++ after

-- these give few enough shots each, and in all
pub record AreFew (records : List PackRecord) : Type 0 where
  pub each : All HasFew records
  pub all : count_given records ≤ most_of_file

-- however many records the bytes begin with, these give few enough shots
abbrev pub AskForFew : List ℕ → Type 0
AskForFew rest = (records : List PackRecord) → BeginsWith rest records → AreFew records
