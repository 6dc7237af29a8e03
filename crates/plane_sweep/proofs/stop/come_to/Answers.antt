use Rattle.std.proofs.Common.{refl}
use Rattle.plane_sweep.proofs.ComingTo.{reaches, goes}
use Rattle.plane_sweep.proofs.WayWith.{reaches_with, goes_with}
use Rattle.plane_sweep.proofs.stop.come_to.Goals as goal

pub returns-then-not-are_same : goal.returns-then-not-are_same
returns-then-not-are_same c = record {
  sides = reaches c.args.point c.args.left.sides c.args.lines.now (c.are_same.ensures.no c.if-not-are_same.true);
  runs = reaches_with c.args.point c.args.left c.args.lines.now (c.are_same.ensures.no c.if-not-are_same.true);
}

pub returns : goal.returns
returns c = record {
  sides = goes c.args.point c.args.left.sides c.go_to.result c.args.lines.now c.go_to.new.lines
      (c.are_same.ensures.yes c.if-not-are_same.false) c.go_to.ensures.same c.go_to.ensures.before
      c.go_to.ensures.after c.go_to.ensures.below
      c.go_to.ensures.above;
  runs = goes_with c.args.point c.args.left (record { sides = c.go_to.result; runs = c.args.left.runs }) c.args.lines.now c.go_to.new.lines
      (c.are_same.ensures.yes c.if-not-are_same.false) c.go_to.ensures.same c.go_to.ensures.before c.go_to.ensures.after c.go_to.ensures.below refl;
}
