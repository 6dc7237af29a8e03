use Rattle.shot_writer.proofs.ForCallers.{writing}
use Rattle.shot_writer.proofs.laws.writing_law.Goals as goal

pub returns : goal.returns
returns c = writing
