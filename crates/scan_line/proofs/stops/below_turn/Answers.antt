use Rattle.std.proofs.Common.{sym, rules, FitsSigned, w64}
use Rattle.std.proofs.lemmas.Int.{to_z-of_z}
use Rattle.scan_line.proofs.Turning.{turn_of_two}
use Rattle.scan_line.proofs.stops.below_turn.Goals as goal

pub returns-in-Some-clause-top : goal.returns-in-Some-clause-top
returns-in-Some-clause-top c =
    let item = c.in-Some.ensures.item in
    let fits : FitsSigned w64 c.y1.result = search rules in
    let cut = simp to_z-of_z at c.up_to-whole.ensures.top in
    turn_of_two c.args.edge.now c.in-Some.next.now c.args.rest.now c.args.slab.y1 c.up_to-whole.result.y1
    c.below_meeting.result.y1 (rw (← c.y1.ensures.value) cut) c.below_meeting.ensures.top
    (0, item.3.0, sym (item.3.1 _))
