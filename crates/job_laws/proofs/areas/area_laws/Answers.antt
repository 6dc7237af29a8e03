use Rattle.job_laws.proofs.areas.area_laws.Goals as goal
use Rattle.job_laws.proofs.KnownAreas.{area_known, counts_tell}

pub returns-clause-area_decided : goal.returns-clause-area_decided
returns-clause-area_decided c = area_known

pub returns-clause-counts_tell : goal.returns-clause-counts_tell
returns-clause-counts_tell c = counts_tell
