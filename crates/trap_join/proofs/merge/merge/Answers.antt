use Rattle.std.proofs.Common.{◌≡◌, ◌-◌, ◌<◌, length, take, drop, pos, ◌-ℤ◌, [], arith, refl, ap, sym, ◌∙◌, w64}
use Rattle.std.proofs.Common.{FitsSigned, to_z, of_z, add-one, drop-cons, map, Result, Ok, Err, OnOk}
use Rattle.std.proofs.lemmas.Int.{to_z-of_z}
use Rattle.std.proofs.lemmas.List.{take_all, drop_all, length-drop}
use Rattle.std.proofs.lemmas.List.Elements.{All-get_or, All-take, All-drop, Contains-get_or}
use mathlib.Core.Logic.{◌⊎◌, inl, inr}
use Rattle.half_grid.specs.Trapezoids.{IsShot}
use Rattle.scan_line.specs.Runs.{StandApart}
use Rattle.trap_join.specs.declared.front.Growing.{Growing}
use Rattle.trap_join.specs.Fronts.{FrontStandsApart, ended_at, ended}
use Rattle.trap_join.proofs.Merging.{run_has_tile, apart_rest, front_rest, ends_fresh_at, ends_waiting_at}
use Rattle.trap_join.proofs.Merging.{begins_fresh_at, begins_waiting_at, goes_fresh_at, goes_waiting_at, none_put}
use Rattle.trap_join.proofs.Merging.{one_put, all_put, no_more}
use Rattle.trap_join.proofs.merge.merge.Goals as goal
use Rattle.trap_join.proofs.merge.merge.Goals.{then-loop-i-test+else-k-runs, else-loop-i-test}

pub meet-requires-clause-growing : goal.meet-requires-clause-growing
meet-requires-clause-growing c =
    let y : FitsSigned w64 c.args.y = c.ranges.y in
    let lt : c.loop-i.i < length c.args.front.now = omega arith in
    simp to_z-of_z (All-get_or (λ (u : Growing). IsShot (ended_at c.args.y u)) c.args.front.now c.loop-i.i _ lt c.requires.shots)

pub meet-requires-clause-has_tile : goal.meet-requires-clause-has_tile
meet-requires-clause-has_tile c =
    let y : FitsSigned w64 c.args.y = c.ranges.y in
    let lt : c.loop-i.k < length c.args.runs.now = omega arith in
    simp to_z-of_z (run_has_tile c.args.y c.args.runs.now _ c.requires.runs (Contains-get_or c.args.runs.now c.loop-i.k _ lt))

pub loop-i-preserved-in-Ends : goal.loop-i-preserved-in-Ends
loop-i-preserved-in-Ends c =
    let fits : FitsSigned w64 c.args.y = c.ranges.y in
    let same = to_z-of_z w64 c.args.y fits in
    let y = to_z w64 (of_z w64 c.args.y) in
    let i : c.loop-i.i < length c.args.front.now = omega arith in
    let k : c.loop-i.k < length c.args.runs.now = omega arith in
    let fs = drop c.loop-i.i c.args.front.now in
    let rs = drop c.loop-i.k c.args.runs.now in
    let ef = drop-cons c.args.front.now c.loop-i.i _ i in
    let er = drop-cons c.args.runs.now c.loop-i.k _ k in
    let fa : FrontStandsApart (y -ℤ pos 1) fs = rw same (front_rest (c.args.y -ℤ pos 1) c.loop-i.i c.args.front.now c.requires.front) in
    let ra : StandApart y rs = rw same (apart_rest c.args.y c.loop-i.k c.args.runs.now c.requires.runs) in
    record {
      front = omega arith;
      runs = omega arith;
      fresh = rw add-one (none_put c.loop-i.fresh.items _ _ _ (ends_fresh_at y _ _ fs _ rs _ ef er fa ra c.in-Ends.ensures) c.loop-i.invariant.fresh);
      waiting = rw add-one
          (one_put c.loop-i.waiting.items c.push_back.new.self.items _ _ _ c.ended_at.result _
          c.in_ok-push_back-in-Ends.ensures.items c.ended_at.ensures
          (ends_waiting_at y _ _ fs _ rs _ ef er fa ra c.in-Ends.ensures) c.loop-i.invariant.waiting);
    }

pub loop-i-preserved-in-Begins : goal.loop-i-preserved-in-Begins
loop-i-preserved-in-Begins c =
    let fits : FitsSigned w64 c.args.y = c.ranges.y in
    let same = to_z-of_z w64 c.args.y fits in
    let y = to_z w64 (of_z w64 c.args.y) in
    let i : c.loop-i.i < length c.args.front.now = omega arith in
    let k : c.loop-i.k < length c.args.runs.now = omega arith in
    let fs = drop c.loop-i.i c.args.front.now in
    let rs = drop c.loop-i.k c.args.runs.now in
    let ef = drop-cons c.args.front.now c.loop-i.i _ i in
    let er = drop-cons c.args.runs.now c.loop-i.k _ k in
    let fa : FrontStandsApart (y -ℤ pos 1) fs = rw same (front_rest (c.args.y -ℤ pos 1) c.loop-i.i c.args.front.now c.requires.front) in
    let ra : StandApart y rs = rw same (apart_rest c.args.y c.loop-i.k c.args.runs.now c.requires.runs) in
    record {
      front = omega arith;
      runs = omega arith;
      fresh = rw add-one (one_put c.loop-i.fresh.items c.push.new.self.items _ _ _ c.begun_at.result _
          c.in_ok-push-in-Begins.ensures.items c.begun_at.ensures
          (begins_fresh_at y _ _ fs _ rs _ ef er fa ra c.in-Begins.ensures) c.loop-i.invariant.fresh);
      waiting = rw add-one
          (none_put c.loop-i.waiting.items _ _ _
          (begins_waiting_at y _ _ fs _ rs _ ef er fa ra c.in-Begins.ensures) c.loop-i.invariant.waiting);
    }

pub loop-i-preserved : goal.loop-i-preserved
loop-i-preserved c =
    let fits : FitsSigned w64 c.args.y = c.ranges.y in
    let same = to_z-of_z w64 c.args.y fits in
    let y = to_z w64 (of_z w64 c.args.y) in
    let i : c.loop-i.i < length c.args.front.now = omega arith in
    let k : c.loop-i.k < length c.args.runs.now = omega arith in
    let fs = drop c.loop-i.i c.args.front.now in
    let rs = drop c.loop-i.k c.args.runs.now in
    let ef = drop-cons c.args.front.now c.loop-i.i _ i in
    let er = drop-cons c.args.runs.now c.loop-i.k _ k in
    let fa : FrontStandsApart (y -ℤ pos 1) fs = rw same (front_rest (c.args.y -ℤ pos 1) c.loop-i.i c.args.front.now c.requires.front) in
    let ra : StandApart y rs = rw same (apart_rest c.args.y c.loop-i.k c.args.runs.now c.requires.runs) in
    record {
      front = omega arith;
      runs = omega arith;
      fresh = rw (add-one, add-one)
          (one_put c.loop-i.fresh.items c.push-in-GoesOn.new.self.items _ _ _ _ _ c.in_ok-push-in-GoesOn.ensures.items
          refl (goes_fresh_at y _ _ fs _ rs _ ef er fa ra c.in-GoesOn.ensures) c.loop-i.invariant.fresh);
      waiting = rw (add-one, add-one)
          (none_put c.loop-i.waiting.items _ _ _
          (goes_waiting_at y _ _ fs _ rs _ ef er fa ra c.in-GoesOn.ensures) c.loop-i.invariant.waiting);
    }

pub end_all-requires : goal.end_all-requires
end_all-requires c =
    let y : FitsSigned w64 c.args.y = c.ranges.y in
    simp to_z-of_z (All-take (λ (u : Growing). IsShot (ended_at c.args.y u)) _ _
    (All-drop (λ (u : Growing). IsShot (ended_at c.args.y u)) c.loop-i.i c.args.front.now c.requires.shots))

always : {T E P : Type 0} (r : Result T E) → P → OnOk r P
always (Ok x) h = h
always (Err e) h = tt

-- the loop ended at the end of one of the lists
ended_by : (c : goal.After-begin_all) → (drop c.loop-i.i c.args.front.now ≡ []) ⊎ (drop c.loop-i.k c.args.runs.now ≡ [])
ended_by c = elim c.loop-i-test.branch [
  | then-loop-i-test+else-k-runs w ↦ inr (drop_all c.loop-i.k c.args.runs.now (omega arith))
  | else-loop-i-test w ↦ inl (drop_all c.loop-i.i c.args.front.now (omega arith))
]

pub returns-clause-waiting : goal.returns-clause-waiting
returns-clause-waiting c =
    let fits : FitsSigned w64 c.args.y = c.ranges.y in
    let y = to_z w64 (of_z w64 c.args.y) in
    let fs = drop c.loop-i.i c.args.front.now in
    let rs = drop c.loop-i.k c.args.runs.now in
    let whole = take_all (length c.args.front.now - c.loop-i.i) fs (omega (arith, length-drop c.loop-i.i c.args.front.now)) in
    let left : ended rs y fs ≡ map (ended_at y) (take (length c.args.front.now - c.loop-i.i) fs) = no_more y fs rs
    (ended_by c) ∙ ap (map (ended_at y)) (sym whole) in
    let result = all_put c.loop-i.waiting.items c.end_all.new.waiting.items (ended rs y fs) _ _ c.in_ok-end_all.ensures left c.loop-i.invariant.waiting in
    always c.begin_all.result (simp to_z-of_z at result)
