use Rattle.std.proofs.Common.{◌∙◌}
use Rattle.progress_line.proofs.Putting.{put_as, put_two, some_shots_is}
use Rattle.progress_line.proofs.texts.put_some.Goals as goal

pub returns : goal.returns
returns c =
    put_as _ _ _ _ (put_two _ _ _ _ _ (put_as _ _ _ _ c.put-2.ensures (c.as_bytes.ensures.value ∙ c.format.ensures.text)) c.put-3.ensures)
    (some_shots_is c.args.shots c.if-shots-eq0.false)
