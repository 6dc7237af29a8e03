use Rattle.std.proofs.Common.{drop, sym, ◌∙◌}
use Rattle.std.specs.Cmp.Lexicographic.{same_text}
use Rattle.oas_lex.specs.ShotText.{end}
use Rattle.oas_lex.proofs.ForCallers.{rest_is}
use Rattle.shot_reader.proofs.Places.{same_by}
use Rattle.shot_reader.proofs.reading.ends_at.Goals as goal

pub returns : goal.returns
returns c =
    let value = rw (rest_is c.args.bytes.now c.args.at, c.as_slice.ensures, c.end_text-text.ensures) at c.eq.ensures in
    (λ yes. same_text (drop c.args.at c.args.bytes.now) end (sym yes ∙ value), λ e. same_by (drop c.args.at c.args.bytes.now) end c.eq.result value e)
