use Rattle.std.proofs.Common.{◌≡◌}
use Rattle.std.proofs.lemmas.Result.{on_ok_weaker}
use Rattle.column_sweep.specs.Parts.{part_below, part_above}
use Rattle.column_sweep.proofs.Adding.{four_put}
use Rattle.column_sweep.proofs.meeting.put_rests.Goals as goal

pub returns : goal.returns
returns c =
    let first : c.part_below.result ≡ part_below c.args.f.now.y0 c.args.e.now = rw c.bottom_of.ensures.level at c.part_below.ensures in
    let second : c.part_below-2.result ≡ part_below c.args.e.now.y0 c.args.f.now = rw c.bottom_of-2.ensures.level at c.part_below-2.ensures in
    let third : c.part_above.result ≡ part_above c.args.f.now.y1 c.args.e.now = rw c.top_of.ensures.level at c.part_above.ensures in
    let fourth : c.part_above-2.result ≡ part_above c.args.e.now.y1 c.args.f.now = rw c.top_of-2.ensures.level at c.part_above-2.ensures in
    on_ok_weaker c.put-4.result
    (λ is. four_put c.args.edges.now.items _ _ _ _ _ _ _ _ _ _ _ _ c.in_ok-put.ensures c.in_ok-put-2.ensures c.in_ok-put-3.ensures is first second third fourth)
    c.put-4.ensures
