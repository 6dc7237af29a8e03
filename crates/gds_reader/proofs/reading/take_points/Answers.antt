use Rattle.std.proofs.Common.{◌≡◌, ◌∙◌, Some, true, ap, subst, sym}
use Rattle.geo_stream.specs.Refusals.{IfFault}
use Rattle.gds_reader.specs.Elements.{KeepsBy, KeepsOf}
use Rattle.gds_reader.specs.Refused.{IsRefusedBy}
use Rattle.gds_reader.specs.Values.{points_in}
use Rattle.gds_reader.proofs.reading.take_points.Goals as goal

pub returns-in_ok-read_points-in-Some-true-clause-broken : goal.returns-in_ok-read_points-in-Some-true-clause-broken
returns-in_ok-read_points-in-Some-true-clause-broken c =
    let e = c.args.element.now in
    let points : c.as_slice.result.now ≡ points_in c.args.bytes.now c.args.current =
    c.as_slice.ensures.value ∙ c.in_ok-read_points-in-Some-true.ensures.points in
    let drawn : c.args.drawn ≡ Some true = c.in-Some-true.is ∙ ap Some c.in-Some-true.field-0-test in
    subst (λ d. IfFault c.draw.result (IsRefusedBy (KeepsBy d e (points_in c.args.bytes.now c.args.current)) c.args.at)) (sym drawn)
    (subst (λ ps. IfFault c.draw.result (IsRefusedBy (KeepsOf e.kind e ps) c.args.at)) points c.draw.ensures.broken)
