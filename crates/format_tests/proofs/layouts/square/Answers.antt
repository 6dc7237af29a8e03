use Rattle.std.proofs.Common.{rules, refl}
use Rattle.format_tests.proofs.layouts.square.Goals as goal

pub returns : goal.returns
returns g c =
    let points = rw c.expect.ensures at c.new.ensures.points in
    let offsets = rw c.expect.ensures at c.new.ensures.offsets in
    let edges = rw c.expect.ensures at c.new.ensures.grid in
    let places = rw c.expect-places.ensures at c.list.ensures.ok in
    record {
      closed = rw points refl;
      edges = rw points edges;
      near = rw points (search rules);
      offsets = record { nonempty = rw (offsets, places) (λ e. cc); moves = rw (offsets, places) (search rules) };
    }
