use Rattle.std.proofs.Common.{ap, sym}
use Rattle.progress_line.specs.Text.{amount}
use Rattle.progress_line.proofs.Putting.{put_as, put_two, put_three}
use Rattle.progress_line.proofs.texts.put_amount.Goals as goal

pub returns : goal.returns
returns c =
    put_as _ _ _ _
    (put_two _ _ _ _ _ (put_three _ _ _ _ _ _ _ c.put_bytes-2.ensures c.put.ensures c.put_bytes-3.ensures) c.put_unit-2.ensures)
    (ap (amount c.args.done) (sym c.in-Some.is))

pub returns-in_default : goal.returns-in_default
returns-in_default c =
    put_as _ _ _ _ (put_two _ _ _ _ _ c.put_bytes.ensures c.put_unit.ensures) (ap (amount c.args.done) (sym c.in_default.is))
