use Rattle.std.proofs.Common.{◌≡◌, ◌++◌, ◌-◌, ◌*◌, ◌/◌, [], codes, true, if◌then◌else◌, ap, sym, rules}
use Rattle.progress_line.specs.Text.{clock, is_told}
use Rattle.progress_line.proofs.Putting.{put_as, put_three}
use Rattle.progress_line.proofs.times.put_left.Goals as goal

pub returns : goal.returns
returns c =
    let told : is_told c.args.seconds c.args.done c.args.all ≡ true = search rules in
    put_as _ _ _ _
    (put_three _ _ _ _ _ _ _ c.put-2.ensures (put_as _ _ _ _ c.put_clock.ensures (ap clock c.left_at.ensures)) c.put-3.ensures)
    (sym (ap (λ b. if b then codes ", " ++ clock (c.args.seconds * (c.args.all - c.args.done) / c.args.done) ++ codes " left" else []) told))
