use Rattle.job_laws.proofs.bands.band_law.Goals as goal
use Rattle.job_laws.proofs.BandLemmas.{bands_keep_areas}

pub returns : goal.returns
returns c = bands_keep_areas c.reading_laws.ensures.layout
