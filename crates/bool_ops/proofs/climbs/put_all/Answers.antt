use Rattle.std.proofs.Common.{rules, IsTrue, sym, subst, List}
use Rattle.std.proofs.lemmas.Result.{IfOk-weaker}
use Rattle.half_grid.specs.Trapezoids.{Trapezoid, CoversExactly}
use Rattle.half_grid.specs.Winding.{IsInPolygon}
use Rattle.bool_ops.specs.Monotone.{top_of}
use Rattle.bool_ops.proofs.ClimbLemmas.{IsDone, none_done, more_done, next_done, all_done}
use Rattle.bool_ops.proofs.climbs.put_all.Goals as goal

pub loop-climb-init : goal.loop-climb-init
loop-climb-init c = record {
  climb = c.in-Some.ensures.climb;
  done = subst (λ (traps : List Trapezoid). IsDone c.args.points.now c.in-Some.climb c.in-Some.climb.from traps) (sym c.requires.none)
      (none_done c.args.points.now c.in-Some.climb c.in-Some.climb.from c.in-Some.ensures.rest);
}

pub loop-climb-preserved : goal.loop-climb-preserved
loop-climb-preserved c =
    let points = c.args.points.now in
    let old = c.loop-climb.climb in
    let put = c.in_ok-put_between.ensures (search rules) in
    let more = more_done points old c.loop-climb.traps.items put.trap c.loop-climb.invariant.climb c.loop-climb.invariant.done put.between in
    let done = subst (λ (traps : List Trapezoid). IsDone points old (top_of old) traps) (sym put.put) more in
    record {
      climb = c.in-Some-next_climb.ensures.climb;
      done = next_done points old c.in-Some-next_climb.next _ done c.in-Some-next_climb.ensures;
    }

pub returns : goal.returns
returns c =
    let points = c.args.points.now in
    let old = c.loop-climb.climb in
    IfOk-weaker c.put_between-2.result _ (λ known. IsTrue known → CoversExactly c.put_between-2.new.traps.items (IsInPolygon points))
    (λ known told yes.
    (let put = told yes in
    let more = more_done points old c.loop-climb.traps.items put.trap c.loop-climb.invariant.climb c.loop-climb.invariant.done put.between in
    all_done points old _ c.loop-climb.invariant.climb c.loop-climb-test.false
    (subst (λ (traps : List Trapezoid). IsDone points old (top_of old) traps) (sym put.put) more)))
    c.put_between-2.ensures
