use Rattle.std.proofs.Common.{◌∙◌, sym}
use Rattle.field_split.specs.Pieces.{shape_of}
use Rattle.field_split.proofs.HandLemmas.{pieces_of_rows, no_pieces, part_reach}
use Rattle.field_split.proofs.in_hand.InHand.of.Goals as goal

pub of-requires : goal.of-requires
of-requires c =
    let part = c.in-Some.part in
    let given = c.in-Some.ensures in
    part_reach c.args.stripe.size c.args.stripe.number c.args.shot.now (shape_of part) given.shot.legal part.shot.legal given.some c.requires

pub returns-in-None : goal.returns-in-None
returns-in-None c = c.none.ensures c.args.stripe.size ∙ sym (no_pieces c.args.stripe.size c.args.stripe.number c.args.shot.now c.in-None.ensures.none)

pub returns-in-Some : goal.returns-in-Some
returns-in-Some c =
    let part = c.in-Some.part in
    c.of.ensures ∙ sym (pieces_of_rows c.args.stripe.size c.args.stripe.number c.args.shot.now (shape_of part) c.in-Some.ensures.some part.shot.legal.has_rows)
