use Rattle.std.proofs.Common.{rules, refl}
use Rattle.cell_tree.proofs.tests.repeated.Goals as goal

pub returns : goal.returns
returns g c =
    let points = rw c.expect-shape.ensures at c.new.ensures.points in
    let offsets = rw c.expect-shape.ensures at c.new.ensures.offsets in
    let edges = rw c.expect-shape.ensures at c.new.ensures.grid in
    record {
      closed = rw (c.kept.ensures, points) refl;
      edges = rw (c.kept.ensures, points) edges;
      near = rw (c.kept.ensures, points) (search rules);
      offsets = rw (c.kept.ensures, offsets) c.requires;
    }
