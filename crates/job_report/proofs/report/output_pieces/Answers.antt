use Rattle.std.proofs.Common.{append_assoc}
use Rattle.job_report.specs.Report.{output_line}
use Rattle.job_report.proofs.report.output_pieces.Goals as goal

pub returns : goal.returns
unfolding output_line
returns c = rw (c.as_bytes.ensures.value, c.as_bytes-2.ensures.value, c.as_str.ensures) (simp append_assoc)
