use Rattle.std.proofs.Common.{◌≡◌, ◌-◌, ◌≤◌, List, []}
use Rattle.half_grid.specs.Trapezoids.{Trapezoid}
use Rattle.shot_repeat.specs.Values.{moved}
use Rattle.shot_repeat.proofs.Puts.{PutSoFar}
use Rattle.shot_repeat.proofs.giving.look_at_shots.Given as goal

abbrev pub invariant-loop-done : goal.invariant-loop-done
invariant-loop-done l = record {
  few : l.done ≤ l.fn.count;
  next : l.next ≡ moved l.fn.fields l.fn.step l.done;
  seen : List Trapezoid;
  put : PutSoFar l.fn.fields l.fn.step l.done l.fn.count [] seen;
}

abbrev pub decreases-loop-done : goal.decreases-loop-done
decreases-loop-done l = l.fn.count - l.done
