use Rattle.bool_ops.proofs.LoneLemmas.{sides_one, sides_two}
use Rattle.bool_ops.proofs.lone.sides_of.Goals as goal

pub returns-then-is_level-2 : goal.returns-then-is_level-2
returns-then-is_level-2 c =
    sides_one c.args.points.now c.requires c.in-len5.len_at_least c.in-len5.len_below
    (c.is_level.ensures c.if-is_level.true) (c.is_level-then-is_level.ensures c.if-is_level-2.true)

pub returns-then-is_level-4 : goal.returns-then-is_level-4
returns-then-is_level-4 c =
    sides_two c.args.points.now c.requires c.in-len5.len_at_least c.in-len5.len_below
    (c.is_level-2.ensures c.if-is_level-3.true) (c.is_level-then-is_level-3.ensures c.if-is_level-4.true)
