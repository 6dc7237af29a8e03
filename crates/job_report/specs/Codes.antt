-- The number with which the program ends.
use Rattle.std.specs.Prelude.{ℕ}
use Rattle.job_report.specs.declared.status.Status.{Status}
use Rattle.job_report.specs.declared.status.Status.TheVariants.{Done, Words, Deck, Layout, ReadFault, WriteFault, NoMemory, No}

abbrev pub code_of : Status → ℕ
code_of Done = 0
code_of Words = 1
code_of (Deck fault) = 2
code_of (Layout fault) = 3
code_of ReadFault = 4
code_of WriteFault = 5
code_of NoMemory = 6
code_of (No place fault) = 7
