use Rattle.std.proofs.Common.{◌≡◌, ◌∙◌, ap, rules}
use Rattle.progress_line.specs.Text.{clock, time_left}
use Rattle.progress_line.proofs.Putting.{put_as, put_first, put_two, put_three}
use Rattle.progress_line.proofs.file.FileLine.line.Goals as goal

pub returns : goal.returns
returns c =
    let same : c.from.result ≡ c.args.seconds = search rules in
    let left =
    put_as _ _ _ _ c.put_left.ensures
    (ap (λ d. time_left c.args.seconds d c.part_of.result) c.part_done.ensures
    ∙ ap (time_left c.args.seconds _) c.part_of.ensures) in
    put_two _ _ _ _ _
    (put_three _ _ _ _ _ _ _
    (put_three _ _ _ _ _ _ _
    (put_three _ _ _ _ _ _ _ (put_first _ _ _ _ c.new-line.ensures c.put.ensures c.verb.ensures)
    (put_as _ _ _ _ c.put-2.ensures c.bytes.ensures) c.put_rows.ensures)
    (put_as _ _ _ _ c.put_clock.ensures (ap clock same)) left)
    c.put-3.ensures c.put_shots.ensures)
    c.put_amount.ensures
