-- What a call leaves on the screen.
use Rattle.depot.specs.declared.outside.Phase.{Phase}
use Rattle.depot.specs.declared.outside.Phase.TheVariants.{Reading, Judging, Writing}
use Rattle.depot.specs.declared.outside.Progress.{Progress}
use Rattle.std.specs.Prelude.{◌≡◌, ◌<◌, ◌+◌, ◌-◌, ◌^◌, ℕ, List, Option, Some, None, IsNone, IsSomeAnd, min, nat_lt, if◌then◌else◌}
use Rattle.progress_line.specs.Text.{label}
use Rattle.progress_line.specs.declared.file.FileLine.{FileLine}

-- a screen that was there is there, and this holds of what it was and is; where there was none there is none
abbrev pub StaysWith : {S : Type 0} → Option S → Option S → (S → S → Type 0) → Type 0
StaysWith None new holds = IsNone new
StaysWith (Some old) new holds = IsSomeAnd new (holds old)

-- the line is of this file, of which nothing is done
abbrev pub IsBegun : Phase → List ℕ → FileLine → Type 0
IsBegun phase name file = (file.name ≡ label name) × (file.phase ≡ phase) × (file.done ≡ 0)

-- so many more of the file's bytes are done
abbrev pub IsAhead : Phase → ℕ → FileLine → FileLine → Type 0
IsAhead phase count old new = (new.name ≡ old.name) × (new.phase ≡ phase) × (new.done ≡ min (old.done + count) (2 ^ 64 - 1))

-- what is done once so many bytes were read: no more to read is the end of the file
abbrev pub phase_read : ℕ → Phase
phase_read count = if nat_lt 0 count then Reading else Judging

-- so many bytes more were read; where there were none, the file is at its end
abbrev pub IsReadOn : ℕ → FileLine → FileLine → Type 0
IsReadOn count old new =
    (new.name ≡ old.name) × (new.phase ≡ phase_read count) × (0 < count → new.done ≡ min (old.done + count) (2 ^ 64 - 1))
    × (count ≡ 0 → new.done ≡ old.done)

-- the rows and shots are that far, and no more of the bytes
abbrev pub IsNoted : Progress → FileLine → FileLine → Type 0
IsNoted progress old new = (new.work ≡ Some progress) × (new.phase ≡ progress.phase) × (new.name ≡ old.name) × (new.done ≡ old.done)
