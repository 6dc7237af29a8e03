use Rattle.field_split.specs.Pieces.{shape_of}
use Rattle.field_split.proofs.HandLemmas.{opened, reopened}
use Rattle.field_split.proofs.in_hand.InHand.open_next.Goals as goal

pub returns-clause-pieces : goal.returns-clause-pieces
returns-clause-pieces c =
    let ahead = c.in-Some.ahead in
    let parts = c.parts_in-parts.ensures in
    let given = c.parts_in-parts.result in
    reopened c.args.stripe.size c.args.self.now ahead c.after.result c.columns.result given.lower given.middle
    given.upper c.requires c.in-Some.is c.columns.ensures.value
    (opened (shape_of ahead.part) c.columns.result given.lower given.middle given.upper parts.lower parts.middle parts.upper) c.after.ensures.pieces

pub returns-clause-opened : goal.returns-clause-opened
returns-clause-opened c = λ yes. rw c.in-Some.is c.after.ensures.fewer
