-- The fault of an output's file, among those of all shot files.
use Rattle.file_check.specs.declared.faults.CheckFault.{CheckFault as OutputFault}
use Rattle.file_check.specs.declared.faults.CheckFault.TheVariants as of_output
use Rattle.job_report.specs.declared.faults.CheckFault.{CheckFault}
use Rattle.job_report.specs.declared.faults.CheckFault.TheVariants as faults

abbrev pub fault_of : OutputFault → CheckFault
fault_of of_output.Long = faults.Long
fault_of (of_output.Bad bad) = faults.Bad bad
fault_of of_output.Head = faults.Head
fault_of (of_output.Miscovered t count wanted) = faults.Miscovered t count wanted
fault_of (of_output.TooLarge shot) = faults.TooLarge shot
