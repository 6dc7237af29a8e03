use Rattle.std.proofs.Common.{◌∙◌, ap}
use Rattle.fracture.specs.Cuts.{trap_of}
use Rattle.fracture.proofs.Steps.{trap_step, begun}
use Rattle.fracture.proofs.cuts.InHand.cut_trap.Goals as goal

pub returns-clause-shots : goal.returns-clause-shots
returns-clause-shots c =
    let hand = c.args.self.now in
    let cut = c.cut_by_height-cut in
    let list = trap_step hand.limits.height hand.limits.width hand.within c.args.trap cut.result cut.ensures.shot cut.ensures.whole cut.ensures.cut in
    let first = c.cut_piece.ensures in
    begun hand.limits _ _ _ _ _ _ _ list first.shots (ap trap_of first.above ∙ c.of_some-self.ensures) first.limits
