use Rattle.std.proofs.Common.{FitsSigned, w64, rules, arith}
use Rattle.std.proofs.lemmas.Int.{ints, to_z-of_z}
use Rattle.plane_sweep.proofs.ComingTo.{meets_default, meets_same, meets_new}
use Rattle.plane_sweep.proofs.stop.meeting_after.Goals as goal

pub returns-in_default : goal.returns-in_default
returns-in_default c = meets_default c.args.point c.args.meeting c.args.lines.now.after c.in_default.is

pub returns-then-point-at : goal.returns-then-point-at
returns-then-point-at c =
    let a : FitsSigned w64 c.args.point.x = search rules in
    let b : FitsSigned w64 c.in-Some.at.x = search rules in
    let h = simp to_z-of_z at c.if-point-at.true in
    meets_same c.args.point c.in-Some.at c.args.meeting c.args.lines.now.after c.in-Some.is (omega (arith, ints, h))

pub returns : goal.returns
returns c =
    let y : FitsSigned w64 c.args.point.y = search rules in
    meets_new c.args.point c.args.meeting c.next_meeting.result c.args.lines.now.after (simp to_z-of_z at c.next_meeting.ensures)
