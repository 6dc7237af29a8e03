use Rattle.std.proofs.Common.{rules, FitsSigned, w64, to_z-of_z, append_assoc}
use Rattle.job_report.specs.Lines.{deck_line}
use Rattle.job_report.proofs.decks.deck_line.Goals as goal

pub returns-in-Range : goal.returns-in-Range
unfolding deck_line
returns-in-Range c =
    let fits : FitsSigned w64 c.in-Range.value = search rules in
    rw (c.in-Range.is, to_z-of_z fits) (simp append_assoc)
