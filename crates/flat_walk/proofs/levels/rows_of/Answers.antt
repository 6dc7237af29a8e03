use Rattle.std.proofs.Common.{sym, refl}
use Rattle.flat_walk.proofs.ShowLemmas.{box_between_by, plain_point}
use Rattle.flat_walk.proofs.levels.rows_of.Goals as goal

pub returns-then-is_plain-clause-between : goal.returns-then-is_plain-clause-between
returns-then-is_plain-clause-between c = λ p inside.
    let e = c.if-is_plain.ensures refl in
    let o = c.args.orient in
    let low = c.low_corner-low.result in
    let high = c.high_corner-high.result in
    box_between_by o c.args.hull p low high low high c.rows_between.result.low c.rows_between.result.high c.rows_between.ensures.low c.rows_between.ensures.high
    (sym (plain_point o low e.flip e.turns e.mag)) (sym (plain_point o high e.flip e.turns e.mag))
    c.low_corner-low.ensures c.high_corner-high.ensures c.requires.orient.turns inside

pub returns-clause-between : goal.returns-clause-between
returns-clause-between c = λ p inside.
    box_between_by c.args.orient c.args.hull p c.oriented.result c.oriented-2.result c.low_corner-low.result
    c.high_corner-high.result c.rows_between-2.result.low c.rows_between-2.result.high
    c.rows_between-2.ensures.low c.rows_between-2.ensures.high c.oriented.ensures.value c.oriented-2.ensures.value
    c.low_corner-low.ensures c.high_corner-high.ensures c.requires.orient.turns inside
