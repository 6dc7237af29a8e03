use Rattle.std.proofs.Common.{rules, refl}
use Rattle.flat_walk.proofs.tests.triangle.Goals as goal

pub returns-clause-grid : goal.returns-clause-grid
returns-clause-grid g c =
    let points = rw c.expect.ensures at c.new.ensures.points in
    let offsets = rw c.expect.ensures at c.new.ensures.offsets in
    let edges = rw c.expect.ensures at c.new.ensures.grid in
    record {
      closed = rw points refl;
      edges = rw points edges;
      near = rw points (search rules);
      offsets = rw offsets c.requires;
    }

pub returns-clause-points : goal.returns-clause-points
returns-clause-points g c = let points = rw c.expect.ensures at c.new.ensures.points in rw points refl
