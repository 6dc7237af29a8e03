use Rattle.std.proofs.Common.{◌∷◌, ◌∙◌, ap, sym}
use Rattle.fracture.specs.Cuts.{shots_of_piece}
use Rattle.fracture.proofs.Steps.{piece_step, kept_low}
use Rattle.fracture.proofs.cuts.InHand.cut_piece.Goals as goal

pub returns-clause-shots : goal.returns-clause-shots
returns-clause-shots c =
    let hand = c.args.self.now in
    let cut = c.cut_by_width-cut in
    piece_step hand.limits.height hand.limits.width hand.within c.args.piece cut.result
    (record { shot = cut.ensures.shot; low = c.requires }) cut.ensures.whole cut.ensures.cut
    ∙ ap (λ rest. cut.result.part ∷ shots_of_piece hand.limits.width rest) (sym c.of_some-self.ensures)

pub invariant_of-self-clause-low : goal.invariant_of-self-clause-low
invariant_of-self-clause-low c = kept_low c.args.self.now.limits.height _ _ c.of_some-self.ensures c.cut_by_width-cut.ensures.low
