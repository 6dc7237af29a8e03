use Rattle.std.proofs.Common.{◌≡◌, drop, [], subst}
use Rattle.std.proofs.Math.ListN.{drop_of_length-le}
use Rattle.layout_model.proofs.SegmentListLemmas.{Passed, no_lengths, passed_end}
use Rattle.layout_model.proofs.WalkLemmas.{walk_list}
use Rattle.layout_model.proofs.shared_paths.segments.Goals as goal

pub returns : goal.returns
returns c =
    let rest = c.in-Some.rest.now in
    let none : drop c.loop-point.point-index rest ≡ [] = drop_of_length-le rest c.loop-point-test.false in
    let at_end = subst (λ left. Passed no_lengths (walk_list no_lengths c.new-walk.result rest) c.loop-point.segments.items c.loop-point.walk left)
    none c.loop-point.invariant in
    let whole = subst (λ walk. Passed no_lengths (walk_list no_lengths walk rest) c.loop-point.segments.items c.loop-point.walk [])
    c.new-walk.ensures at_end in
    passed_end no_lengths c.args.points.now c.in-Some.start.now rest c.loop-point.segments.items _ c.loop-point.walk c.segment-2.result
    c.in-Some.ensures.cases.0 c.requires.long whole c.segment-2.ensures c.in_ok-push-2.ensures.items
