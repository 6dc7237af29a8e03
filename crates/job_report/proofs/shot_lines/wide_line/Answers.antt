use Rattle.std.proofs.Common.{◌≡◌, ◌++◌}
use Rattle.std.specs.Prelude.{codes, decimal}
use Rattle.job_report.specs.ShotLines.{wide_line}
use Rattle.job_report.proofs.Spellings.{five_spell}
use Rattle.job_report.proofs.shot_lines.wide_line.Goals as goal

pub returns : goal.returns
returns c =
    let line : codes "check refused: " ++ (c.as_bytes.result.now ++ (codes
    ": shot " ++ (decimal c.args.shot ++ codes " past field reach\n"))) ≡ wide_line c.args.file.now c.args.shot =
    rw c.as_bytes.ensures.value (five_spell (codes "check refused: ") c.args.file.now (codes ": shot ") (decimal c.args.shot) (codes " past field reach\n")) in
    line
