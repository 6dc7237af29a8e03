use Rattle.shot_repeat.proofs.Files.{one_file, file_right}
use Rattle.shot_repeat.proofs.Others.{never_neither}
use Rattle.shot_repeat.proofs.Rights.{one_fault}
use Rattle.shot_repeat.proofs.laws.reading_laws.Goals as goal

pub returns : goal.returns
returns c = record {
  one_reading = one_file;
  one_fault = one_fault;
  file_has_no_fault = λ bytes unit pair shots f bad fault. file_right bytes unit pair shots bad f fault;
  others_have_fault = never_neither;
}
