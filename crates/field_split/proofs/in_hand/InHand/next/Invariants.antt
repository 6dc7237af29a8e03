use Rattle.std.proofs.Common.{◌≡◌}
use Rattle.field_split.specs.Pieces.{fields_ahead, pieces_in_hand}
use Rattle.field_split.proofs.in_hand.InHand.next.Given as goal

-- the pieces in hand are those that were in hand
abbrev pub invariant-loop-piece : goal.invariant-loop-piece
invariant-loop-piece l = pieces_in_hand l.stripe.size l.self ≡ pieces_in_hand l.stripe.size l.initial.self

abbrev pub decreases-loop-piece : goal.decreases-loop-piece
decreases-loop-piece l = fields_ahead l.self
