use Rattle.std.proofs.Common.{◌∙◌}
use Rattle.progress_line.proofs.Putting.{put_as, put_two, put_three}
use Rattle.progress_line.proofs.times.put_clock.Goals as goal

pub returns : goal.returns
returns c =
    put_two _ _ _ _ _
    (put_three _ _ _ _ _ _ _ (put_as _ _ _ _ c.put.ensures (c.as_bytes.ensures.value ∙ c.format.ensures.text)) c.put-2.ensures
    (put_as _ _ _ _ c.put-3.ensures (c.as_bytes-2.ensures.value ∙ c.format-2.ensures.text)))
    (put_as _ _ _ _ c.put-4.ensures (c.as_bytes-3.ensures.value ∙ c.format-3.ensures.text))
