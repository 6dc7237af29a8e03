use Rattle.std.proofs.Common.{arith}
use Rattle.layout_model.specs.ShapeLists.{shape_in}
use Rattle.flat_walk.proofs.RestLemmas.{drop_here, drop_past}
use Rattle.flat_walk.proofs.owned.Cursor.first.Goals as goal

pub returns-then-self-len : goal.returns-then-self-len
returns-then-self-len c = record {
  is = drop_here c.args.self.now.shapes.now c.args.self.now.number (shape_in c.get.result) c.get.ensures;
  few = omega arith;
}

pub returns : goal.returns
returns c = drop_past c.args.self.now.shapes.now c.args.self.now.number (let e = c.len.ensures in omega (arith, e, c.if-self-len.false))
