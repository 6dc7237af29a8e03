use Rattle.std.proofs.Common.{arith, ap, subst, sym, ◌∙◌}
use Rattle.std.proofs.lemmas.Int.{ints}
use Rattle.half_grid.specs.Windows.{row_range}
use Rattle.deck_plan.specs.Needs.{IsAskedBand}
use Rattle.band_areas.proofs.RowLemmas.{group_band}
use Rattle.band_areas.proofs.groups.group_of.Goals as goal

pub above-requires-clause-high : goal.above-requires-clause-high
above-requires-clause-high c =
    let end = c.up_to_end.ensures in
    let most = c.most_rows.ensures in
    let first = c.lesser-most.ensures.first in
    let second = c.lesser-most.ensures.second in
    (group_band c.args.band c.args.output c.height_of-height.result.rows c.lesser-most.result.rows c.lesser.result.rows
    c.one_less.result.rows c.whole_bands-more.result.rows c.requires.band c.requires.near
    c.height_of-height.ensures (omega (arith, ints, end, first))
    (omega (arith, ints, most, second)) c.lesser.ensures.second c.one_less.ensures.high
    c.whole_bands-more.ensures.low c.whole_bands-more.ensures.high).is_band.high

pub returns-clause-asked : goal.returns-clause-asked
returns-clause-asked c =
    let end = c.up_to_end.ensures in
    let most = c.most_rows.ensures in
    let first = c.lesser-most.ensures.first in
    let second = c.lesser-most.ensures.second in
    subst IsAskedBand (sym (c.lower.ensures ∙ ap (row_range c.args.band.y0) c.above.ensures))
    (group_band c.args.band c.args.output c.height_of-height.result.rows c.lesser-most.result.rows c.lesser.result.rows
    c.one_less.result.rows c.whole_bands-more.result.rows c.requires.band c.requires.near
    c.height_of-height.ensures (omega (arith, ints, end, first))
    (omega (arith, ints, most, second)) c.lesser.ensures.second c.one_less.ensures.high
    c.whole_bands-more.ensures.low c.whole_bands-more.ensures.high)
