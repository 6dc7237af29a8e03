-- The table of answers of a command that reads a shot file, with what it makes of an accepted one.
use Rattle.std.specs.Prelude.{◌≡◌, ◌⊎◌, ◌≤◌, List, ℕ, [], length, ⊤}
use Rattle.depot.specs.Content.{Content, IsNotThere, ChangesLeftOnly, with_left}
use Rattle.shot_reader.specs.Reading.{IsFileOf}
use Rattle.shot_reader.specs.declared.reading.ShotFile.{ShotFile}
use Rattle.shot_repeat.specs.Packed.{IsPackedFile}
use Rattle.file_check.specs.Files.{ShotData}
use Rattle.job_report.specs.declared.faults.CheckFault.{CheckFault}
use Rattle.mdp_job.specs.Runs.{Run, ReadRose, WriteRose, RefusedRose, IsEndedSo}
use Rattle.job_report.specs.declared.status.Status.{Status}
use Rattle.job_report.specs.declared.status.Status.TheVariants as answers

-- `holds` says what the name holds, `faulty` why it is refused, and `done` and `half` what is made of what it holds, from
-- the content after the file was read: all, or a part.
pub record FileCommand : Type 1 where
  pub holds : Content → List ℕ → ShotData → Type 0
  pub faulty : Content → List ℕ → CheckFault → Type 0
  pub done : Content → Content → ShotData → Type 0
  pub half : Content → Content → ShotData → Type 0

-- what holds where what is made of an accepted file gives the answer
abbrev pub IsMadeOf : FileCommand → Run → ShotData → Status → Type 0
IsMadeOf command r s result =
    IsEndedSo (WriteRose r) (RefusedRose r) (command.done (with_left r.before []) r.after s) (command.half (with_left r.before []) r.after s) result

-- what holds where the file isn't taken: it is refused, can't be read, or memory was wanting
abbrev pub IsRefusedFile : (Content → List ℕ → CheckFault → Type 0) → Run → List ℕ → Status → Type 0
IsRefusedFile faulty r file result =
    ((fault : CheckFault) × (result ≡ answers.No 0 fault) × faulty r.before file fault × ChangesLeftOnly r.before r.after)
    ⊎ ((result ≡ answers.ReadFault) × (ReadRose r ⊎ IsNotThere r.before file) × ChangesLeftOnly r.before r.after)
    ⊎ ((result ≡ answers.NoMemory) × (IsNotThere r.before file → RefusedRose r) × ChangesLeftOnly r.before r.after)

-- what holds where a command that reads the file gives the answer, up to the line of a refusal
abbrev pub IsFileAnswer : FileCommand → Run → List ℕ → Status → Type 0
IsFileAnswer command r file result =
    ((s : ShotData) × command.holds r.before file s × IsMadeOf command r s result) ⊎ IsRefusedFile command.faulty r file result

-- ---- what a file that was read is

-- what a shot file says that was read
abbrev pub shot_data : ShotFile → ShotData
shot_data file = record { unit = file.unit; pair = file.pair; shots = file.shots }

-- it is the text of a file within the limit
pub record IsPlainData (s : ShotData) : Type 0 where
  pub bytes : List ℕ
  pub short : length bytes ≤ 268435456
  pub form : IsFileOf bytes s.unit s.pair s.shots

-- a packed file stands for it
pub record IsPackedData (s : ShotData) : Type 0 where
  pub bytes : List ℕ
  pub form : IsPackedFile bytes s.unit s.pair s.shots

-- the answer may come where a file isn't taken, with these faults
abbrev pub IsOfRefusedFile : (CheckFault → Type 0) → Status → Type 0
IsOfRefusedFile of_fault answers.Done = ⊥
IsOfRefusedFile of_fault answers.Words = ⊥
IsOfRefusedFile of_fault (answers.Deck fault) = ⊥
IsOfRefusedFile of_fault (answers.Layout fault) = ⊥
IsOfRefusedFile of_fault answers.ReadFault = ⊤
IsOfRefusedFile of_fault answers.WriteFault = ⊥
IsOfRefusedFile of_fault answers.NoMemory = ⊤
IsOfRefusedFile of_fault (answers.No place fault) = (place ≡ 0) × of_fault fault
