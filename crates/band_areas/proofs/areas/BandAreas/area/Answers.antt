use Rattle.std.proofs.Common.{subst}
use Rattle.half_grid.specs.Windows.{RowRange}
use Rattle.bool_ops.specs.Operations.{IsJoinedOf}
use Rattle.deck_plan.specs.Areas.{IsInBand}
use Rattle.band_areas.proofs.areas.BandAreas.area.Goals as goal

pub narrowed-requires-clause-sound : goal.narrowed-requires-clause-sound
narrowed-requires-clause-sound c = c.in_ok-part.ensures.part.sound

pub returns-in_err-cut-clause-areas : goal.returns-in_err-cut-clause-areas
returns-in_err-cut-clause-areas c =
    let before = c.part_with.ensures.areas in
    record { near = before.near; parts = c.narrowed.ensures.kept c.args.plan.now c.args.output c.in_ok-part.ensures.part before.parts }

pub returns-clause-shots : goal.returns-clause-shots
returns-clause-shots c = (c.in_ok-cut.ensures.part c.args.plan.now c.args.output c.in_ok-part.ensures.part).sound.shots

pub returns-clause-joined : goal.returns-clause-joined
returns-clause-joined c =
    let p = c.args.plan.now in
    subst (λ (rows : RowRange). IsJoinedOf rows (IsInBand p.cells p.top p.deck c.args.output rows) c.in_ok-cut.cut.traps.items) c.in_ok-cut.ensures.rows
    (c.in_ok-cut.ensures.part p c.args.output c.in_ok-part.ensures.part).joined

pub returns-clause-areas : goal.returns-clause-areas
returns-clause-areas c =
    let before = c.part_with.ensures.areas in
    record { near = before.near; parts = c.narrowed.ensures.kept c.args.plan.now c.args.output c.in_ok-part.ensures.part before.parts }
