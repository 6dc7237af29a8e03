use Rattle.std.proofs.Common.{rules, subst, sym, arith, take}
use Rattle.std.proofs.lemmas.List.{take_all}
use Rattle.std.proofs.lemmas.List.Elements.{All-more, All-same}
use Rattle.half_grid.specs.Trapezoids.{IsShot}
use Rattle.flat_walk.proofs.tables.are_kept.Goals as goal

pub loop-trap-preserved : goal.loop-trap-preserved
loop-trap-preserved c =
    All-more IsShot c.args.traps.now c.loop-trap.trap-index c.trap-item.result (omega arith) c.loop-trap.invariant
    (subst IsShot c.trap-item.is c.y0-bottom.ensures.shot)

pub returns : goal.returns
returns c = record {
  shots = All-same IsShot c.args.traps.now (take c.loop-trap.trap-index c.args.traps.now)
      (sym (take_all c.loop-trap.trap-index c.args.traps.now c.loop-trap-test.false)) c.loop-trap.invariant;
  few = search rules;
}
