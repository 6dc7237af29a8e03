use Rattle.job_tests.proofs.tables.shape.Goals as goal

pub returns : goal.returns
returns g c =
    let points = rw c.expect.ensures at c.new.ensures.points in
    let offsets = rw c.expect.ensures at c.new.ensures.offsets in
    let edges = rw c.expect.ensures at c.new.ensures.grid in
    let places = rw c.expect-places.ensures at c.list.ensures.ok in
    record {
      closed = rw points c.requires.closed;
      edges = rw points edges;
      near = rw points c.requires.near;
      offsets = rw (offsets, places) c.requires.places;
    }
