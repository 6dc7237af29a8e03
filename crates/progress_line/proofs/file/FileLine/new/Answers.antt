use Rattle.std.proofs.Common.{ap}
use Rattle.progress_line.specs.Text.{short_name}
use Rattle.progress_line.proofs.Putting.{put_first, put_two}
use Rattle.progress_line.proofs.file.FileLine.new.Goals as goal

pub returns-clause-name : goal.returns-clause-name
returns-clause-name c =
    put_two _ _ _ _ _ (put_first _ _ _ _ c.new-line.ensures c.put_name.ensures (ap short_name c.as_bytes.ensures.value)) c.put.ensures
