-- The table of answers for `split SIZE FILE OUT`, from what a look at the shots tells.
use Rattle.std.specs.Prelude.{◌≡◌, ◌⊎◌, ℕ, ℤ, pos, ◌-ℤ◌, ◌<ℤ◌, List, [], Option, None, Some}
use Rattle.std.specs.List.{All}
use Rattle.half_grid.specs.Trapezoids.{Trapezoid}
use Rattle.depot.specs.Content.{Content, IsPartSaid}
use Rattle.field_split.specs.Looks.{IsFieldShot, IsFirstTooWide, AreStripesOf}
use Rattle.mdp_job.specs.Runs.{IsEndedSo}
use Rattle.mdp_job.specs.ShotFiles.{ShotData}
use Rattle.mdp_job.specs.Splitting.{CanBeSplit, AreManyStripes, AreAllMade, IsSplitWhole, IsSplitCutShort}
use Rattle.job_report.specs.declared.faults.CheckFault.{CheckFault}
use Rattle.mdp_job.specs.FileFaults.{for_fault, never}
use Rattle.job_report.specs.declared.status.Status.{Status}
use Rattle.job_report.specs.declared.status.Status.TheVariants as answers

-- the least and the greatest stripe that a shot meets, which aren't too many; none where there are no shots
abbrev pub IsSpan : ℤ → List Trapezoid → Option (ℤ × ℤ) → Type 0
IsSpan size shots None = shots ≡ []
IsSpan size shots (Some span) = AreStripesOf size shots span.0 span.1 × (span.1 -ℤ span.0) <ℤ pos 4096

-- why shots can't be split
abbrev pub IsSpanFault : ℤ → List Trapezoid → CheckFault → Type 0
IsSpanFault size shots fault =
    for_fault ⊥ never never (IsFirstTooWide shots) (λ value. All IsFieldShot shots × AreManyStripes size shots value) fault

-- the making of the files was cut short, or all are made and a prefix of their lines was said
abbrev pub IsHalfSplit : Content → Content → ℤ → List ℕ → ShotData → Type 0
IsHalfSplit before now size out s =
    IsSplitCutShort before now size out s
    ⊎ ((made : Content) × (text : List ℕ) × AreAllMade before made size out s text × IsPartSaid made text now)

-- what holds where the splitting of shots that can be split gives the answer: memory may be wanting before a file is begun
abbrev pub IsSplitSo : Content → Content → (write_rose refused_rose : Type 0) → ℤ → List ℕ → ShotData → Status → Type 0
IsSplitSo before now write_rose refused_rose size out s result =
    IsEndedSo write_rose refused_rose (IsSplitWhole before now size out s) (IsHalfSplit before now size out s) result
    ⊎ ((result ≡ answers.NoMemory) × (now ≡ before))

-- the same of an accepted shot file, which may be one that can't be split
abbrev pub IsSplitFile : Content → Content → (write_rose refused_rose : Type 0) → ℤ → List ℕ → ShotData → Status → Type 0
IsSplitFile before now write_rose refused_rose size out s result =
    (CanBeSplit size s.shots × IsSplitSo before now write_rose refused_rose size out s result)
    ⊎ ((fault : CheckFault) × (result ≡ answers.No 0 fault) × IsSpanFault size s.shots fault × (now ≡ before))
