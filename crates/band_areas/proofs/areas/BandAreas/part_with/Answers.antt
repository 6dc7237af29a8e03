use Rattle.band_areas.proofs.areas.BandAreas.part_with.Goals as goal

pub returns-in-Some-clause-part : goal.returns-in-Some-clause-part
returns-in-Some-clause-part c = rw c.in-Some.is at (c.taken.ensures.part c.args.plan.now c.args.output c.requires.areas.parts)

pub returns-in-Some-clause-areas : goal.returns-in-Some-clause-areas
returns-in-Some-clause-areas c =
    let before = c.requires.areas in
    record { near = before.near; parts = c.taken.ensures.kept c.args.plan.now c.args.output before.parts }

pub returns-clause-areas : goal.returns-clause-areas
returns-clause-areas c =
    let before = c.requires.areas in
    record { near = before.near; parts = c.taken.ensures.kept c.args.plan.now c.args.output before.parts }
