use Rattle.std.proofs.Common.{[], ◌++◌}
use Rattle.column_sweep.proofs.Closing.{parts_closed, split_none}
use Rattle.column_sweep.proofs.parting.parted.Goals as goal

pub returns : goal.returns
returns c =
    let first = c.in_ok-split.ensures [] (rw (c.new.ensures.items, c.new-2.ensures.items) (split_none c.args.cut.x)) in
    let both = c.in_ok-split-2.ensures c.args.edges.now first in
    rw (c.in_ok-close.ensures.own, c.in_ok-close.ensures.beyond)
    (rw c.as_slice-2.ensures.value
    (parts_closed c.args.cut.x (c.args.edges.now ++ c.args.others.now) _ _ _ both
    (rw c.as_slice.ensures.value at c.in_ok-sums.ensures)))
