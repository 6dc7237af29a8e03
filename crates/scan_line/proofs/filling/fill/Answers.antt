use Rattle.std.proofs.Common.{◌≡◌, sym, ◌∙◌, length, vec_len, arith, rules}
use Rattle.scan_line.specs.Windings.{BeginsOn}
use Rattle.scan_line.proofs.FillLemmas.{filling_none, filling_same_line, filling_last, filling_rows, filling_lines, sums_next, room_for_one, on_line, not_both}
use Rattle.scan_line.proofs.filling.fill.Goals as goal

pub loop-edge-init : goal.loop-edge-init
loop-edge-init g c = record {
  filling = filling_none _ _ _ _ _ _ c.requires.rule c.requires.balanced (search rules)
      (rw c.clear.ensures.capacity c.requires.room) c.none-windings.ensures.a c.none-windings.ensures.b
      c.clear.ensures.items;
  room = c.clear.ensures.capacity;
}

pub past-windings-requires-clause-a : goal.past-windings-requires-clause-a
past-windings-requires-clause-a g c = (sums_next _ _ _ _ c.loop-edge.invariant.filling.filled.sums c.in-Some.ensures.cases.0).a

pub past-windings-requires-clause-b : goal.past-windings-requires-clause-b
past-windings-requires-clause-b g c = (sums_next _ _ _ _ c.loop-edge.invariant.filling.filled.sums c.in-Some.ensures.cases.0).b

pub turn-requires : goal.turn-requires
turn-requires g c =
    let i = c.loop-edge.invariant.filling in
    let len : vec_len c.loop-edge.runs ≡ length c.loop-edge.runs.items = search rules in
    λ closed. omega (arith, len, room_for_one _ _ _ _ _ _ _ _ _ i c.in-Some.ensures.cases.0 closed)

pub loop-edge-preserved-then-not-goes_on : goal.loop-edge-preserved-then-not-goes_on
loop-edge-preserved-then-not-goes_on g c =
    let own : c.line.result ≡ c.in-Some.edge.now.line = c.line.ensures.value in
    let here : c.line-then-not-goes_on.result ≡ c.in-Some.edge.now.line = c.line-then-not-goes_on.ensures.value in
    let off : BeginsOn c.in-Some.edge.now.line c.in-Some.rest.now
    → ⊥ = λ on. not_both _ c.if-not-goes_on.true (c.goes_on.ensures.1 (on_line _ _ _ (sym own) on)) in
    let turns = rw here at c.turn.ensures.items in
    record {
      filling = filling_last _ _ _ _ _ _ _ _ _ _ _ _ _ _ c.turn.ensures.room c.requires.rule
          c.loop-edge.invariant.filling c.in-Some.ensures.cases.0 c.past-windings.ensures.a c.past-windings.ensures.b
          off c.takes-taken.ensures turns;
      room = c.turn.ensures.room ∙ c.loop-edge.invariant.room;
    }

pub loop-edge-preserved : goal.loop-edge-preserved
loop-edge-preserved g c =
    let own : c.line.result ≡ c.in-Some.edge.now.line = c.line.ensures.value in
    let on : BeginsOn c.in-Some.edge.now.line c.in-Some.rest.now = on_line _ _ _ own (c.goes_on.ensures.0 c.if-not-goes_on.false) in
    record {
      filling = filling_same_line _ _ _ _ _ _ _ _ _ _ c.loop-edge.invariant.filling c.in-Some.ensures.cases.0
          c.past-windings.ensures.a c.past-windings.ensures.b on;
      room = c.loop-edge.invariant.room;
    }

pub returns-clause-rows : goal.returns-clause-rows
returns-clause-rows g c = filling_rows _ _ _ _ _ _ _ c.loop-edge.invariant.filling c.in_default.ensures.cases

pub returns-clause-lines : goal.returns-clause-lines
returns-clause-lines g c = filling_lines _ _ _ _ _ _ _ c.loop-edge.invariant.filling c.in_default.ensures.cases
