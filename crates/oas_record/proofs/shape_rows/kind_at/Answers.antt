use Rattle.std.proofs.Common.{refl}
use Rattle.oas_record.proofs.shape_rows.kind_at.Goals as goal

pub returns-in_ok-width-in-Rectangle-clause-ok : goal.returns-in_ok-width-in-Rectangle-clause-ok
returns-in_ok-width-in-Rectangle-clause-ok c = rw c.in-Rectangle.is
    (record { id = refl; before = refl; switches = refl; fields = c.in_ok-width-in-Rectangle.ensures.ok })

pub returns-in_ok-points-in-Polygon-clause-ok : goal.returns-in_ok-points-in-Polygon-clause-ok
returns-in_ok-points-in-Polygon-clause-ok c = rw c.in-Polygon.is (record {
  id = refl;
  before = refl;
  switches = refl;
  fields = (c.in_ok-points-in-Polygon.next, c.in_ok-points-in-Polygon.ensures.ok, refl);
})

pub returns-in_ok-radius-in-Circle-clause-ok : goal.returns-in_ok-radius-in-Circle-clause-ok
returns-in_ok-radius-in-Circle-clause-ok c = rw c.in-Circle.is (record {
  id = refl;
  before = refl;
  switches = refl;
  fields = (c.in_ok-radius-in-Circle.next, c.in_ok-radius-in-Circle.ensures.ok, refl);
})
