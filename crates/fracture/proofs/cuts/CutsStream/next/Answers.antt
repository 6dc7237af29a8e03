use Rattle.std.proofs.Common.{◌+◌, ◌≤◌, length, ap, arith}
use Rattle.fracture.specs.Cuts.{shots_in_hand, most_shots}
use Rattle.fracture.specs.StreamLaws.{length-cut_list}
use Rattle.fracture.proofs.Steps.{room}
use Rattle.fracture.proofs.cuts.CutsStream.next.Goals as goal

pub returns-in-Some-next-clause-size : goal.returns-in-Some-next-clause-size
returns-in-Some-next-clause-size g c =
    let limits = c.next.new.self.limits in
    let few = length-cut_list limits.height limits.width c.in-Some-next.trap in
    let hand : length (shots_in_hand c.cut_trap.new.self) + 1 ≤ most_shots = omega (arith, few, ap length c.cut_trap.ensures.shots) in
    omega (
      arith,
      room (length (shots_in_hand c.cut_trap.new.self)) (g.S.Stream.size c.args.self.now.source)
          (g.S.Stream.size c.next-2.new.self) hand c.in-Some-next.ensures.size,
    )
