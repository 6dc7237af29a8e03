use Rattle.std.proofs.Common.{subst}
use Rattle.flat_walk.specs.Tables.{AreKept}
use Rattle.flat_walk.proofs.tables.Parts.kept.Goals as goal

pub returns : goal.returns
returns c = subst AreKept c.self.view_is c.self.invariant
