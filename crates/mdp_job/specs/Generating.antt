-- What the program owes for `generate N FILE`: the generated layout, and how many bytes it has.
use Rattle.std.specs.Prelude.{ℕ, List, ◌++◌, length, codes, decimal}
use Rattle.depot.specs.Content.{Content}
use Rattle.layout_gen.specs.Generated.{generated}
use Rattle.mdp_job.specs.Filing.{IsFiled, IsHalfFiled}
use Rattle.mdp_job.specs.Runs.{IsEndedSo}
use Rattle.job_report.specs.declared.status.Status.{Status}

-- `generated 1266 bytes`
abbrev pub size_line : ℕ → List ℕ
size_line size = codes "generated " ++ decimal size ++ codes " bytes\n"

-- what is said of the layout of n
abbrev pub generated_line : ℕ → List ℕ
generated_line n = size_line (length (generated n))

-- what holds where the command gives the answer, where a fault of writing was counted or a want of memory
abbrev pub IsGeneratedSo : Content → Content → (write_rose refused_rose : Type 0) → ℕ → List ℕ → Status → Type 0
IsGeneratedSo before now write_rose refused_rose n file result =
    IsEndedSo write_rose refused_rose (IsFiled before now file (generated n) (generated_line n))
    (IsHalfFiled before now file (generated n) (generated_line n)) result
