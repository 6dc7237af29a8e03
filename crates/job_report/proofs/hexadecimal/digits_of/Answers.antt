use Rattle.std.proofs.Common.{rules}
use Rattle.job_report.specs.Pieces.{hex_text}
use Rattle.job_report.proofs.hexadecimal.digits_of.Goals as goal

pub returns : goal.returns
unfolding hex_text
returns c = search rules
