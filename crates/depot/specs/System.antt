-- What a depot makes of a refusal of the system.
use Rattle.std.specs.Prelude.{◌≡◌, ℕ}
use Rattle.std.specs.IoError.{error_kind}
use Rattle.std.specs.declared.io.Error.{Error}
use Rattle.std.specs.declared.io.ErrorKind.TheVariants.{OutOfMemory}
use Rattle.depot.specs.Counts.{raised}
use Rattle.depot.specs.declared.outside.DepotBad.{DepotBad}
use Rattle.depot.specs.declared.outside.DepotBad.TheVariants.{Failed, NoMemory}

-- the system says that memory was wanting
abbrev pub IsOutOfMemory : Error → Type 0
IsOutOfMemory error = error_kind error ≡ OutOfMemory

-- the count of faults after a refusal
abbrev pub faults_after : DepotBad → ℕ → ℕ
faults_after Failed count = raised count
faults_after NoMemory count = count

-- the count of wants of memory after a refusal
abbrev pub wants_after : DepotBad → ℕ → ℕ
wants_after Failed count = count
wants_after NoMemory count = raised count
