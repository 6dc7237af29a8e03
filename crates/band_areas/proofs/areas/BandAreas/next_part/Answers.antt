use Rattle.band_areas.proofs.areas.BandAreas.next_part.Goals as goal

pub returns-clause-areas : goal.returns-clause-areas
returns-clause-areas c = c.adapt.ensures c.args.plan.now c.args.output c.area.ensures.areas
