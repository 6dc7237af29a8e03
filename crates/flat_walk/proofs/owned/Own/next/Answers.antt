use Rattle.std.proofs.Common.{Some, map, ◌++◌, ◌∙◌, ap}
use Rattle.flat_walk.specs.Rests.{Skips, IsMarkedQuad}
use Rattle.flat_walk.specs.Hands.{hand_list, cursor_list, own_rest}
use Rattle.flat_walk.proofs.RestLemmas.{marked_hand, gives_after, gives_more, skip_on, hand_passes, passed_changes, passed_ends, skip_quads}
use Rattle.flat_walk.proofs.owned.Own.next.Goals as goal

pub next-requires-clause-quads : goal.next-requires-clause-quads
next-requires-clause-quads c = marked_hand (hand_list c.loop-quad.self.hand)
    (map Some (cursor_list c.args.pair c.loop-quad.self.cursor)) c.loop-quad.invariant.quads

pub returns-in-Some-clause-gives : goal.returns-in-Some-clause-gives
returns-in-Some-clause-gives c =
    let later = map Some (cursor_list c.args.pair c.loop-quad.self.cursor) in
    gives_after c.args.window (own_rest c.args.pair c.args.self.now) (own_rest c.args.pair c.loop-quad.self)
    (Some c.in-Some.quad) (map Some (hand_list c.next.new.self) ++ later) c.loop-quad.invariant.skips
    (gives_more c.args.window (map Some (hand_list c.loop-quad.self.hand)) c.in-Some.quad (map Some (hand_list c.next.new.self)) later c.in-Some.ensures.gives)

pub loop-quad-preserved : goal.loop-quad-preserved
loop-quad-preserved c =
    let before = own_rest c.args.pair c.args.self.now in
    let step = c.step-self.ensures in
    let after = c.step-self.new.self in
    let skips : Skips c.args.window before (map Some (hand_list c.step-self.result) ++ map Some (cursor_list c.args.pair after)) =
    passed_changes c.args.window before (cursor_list c.args.pair c.pass_places.new.self) (hand_list c.step-self.result)
    (cursor_list c.args.pair after)
    (hand_passes c.args.window before (hand_list c.loop-quad.self.hand)
    (cursor_list c.args.pair c.loop-quad.self.cursor) (cursor_list c.args.pair c.pass_places.new.self)
    c.loop-quad.invariant.skips c.in_default.ensures.gives.0
    (skip_on c.args.window _ _ _ c.pass_by.ensures.skips (c.pass_places.ensures.skips c.args.pair)))
    (step.list c.args.pair c.in-Some-pass_by.ensures.on) in
    record {
      own = record { hand = step.hand; cursor = step.cursor };
      skips = skips;
      quads = skip_quads IsMarkedQuad c.args.window _ _ skips c.requires.quads;
    }

pub returns-in_default-pass_by-clause-gives : goal.returns-in_default-pass_by-clause-gives
returns-in_default-pass_by-clause-gives c =
    let before = own_rest c.args.pair c.args.self.now in
    let after = c.pass_by.new.self in
    let none = c.in_default-pass_by.ensures in (
      passed_ends c.args.window before (cursor_list c.args.pair after)
          (hand_passes c.args.window before (hand_list c.loop-quad.self.hand)
          (cursor_list c.args.pair c.loop-quad.self.cursor) (cursor_list c.args.pair after)
          c.loop-quad.invariant.skips c.in_default.ensures.gives.0 c.pass_by.ensures.skips)
          none.first,
      ap (λ l. l ++ map Some (cursor_list c.args.pair after)) c.in_default.ensures.gives.1 ∙ ap (map Some) none.first,
    )
