use Rattle.std.proofs.Common.{◌+◌, ◌*◌, ◌≤◌, List, length}
use Rattle.half_grid.specs.Trapezoids.{Trapezoid}
use Rattle.field_split.specs.Cutting.{most_pieces}
use Rattle.field_split.specs.Pieces.{StandsForPieces, pieces_in_hand}
use Rattle.field_split.proofs.pieces.PiecesStream.next.Given as goal

-- no piece was given: the stream stands for the list that it stood for, and its size has not risen
abbrev pub invariant-loop-piece : goal.invariant-loop-piece
invariant-loop-piece g l = record {
  same : (pieces : List Trapezoid)
      → StandsForPieces g.S.Stream.stands_for l.initial.self.stripe.size l.initial.self.stripe.number
      l.initial.self.source l.initial.self.in_hand pieces
      → StandsForPieces g.S.Stream.stands_for l.self.stripe.size l.self.stripe.number l.self.source l.self.in_hand pieces;
  size : length (pieces_in_hand l.self.stripe.size l.self.in_hand) + most_pieces * g.S.Stream.size l.self.source
      ≤ length (pieces_in_hand l.initial.self.stripe.size l.initial.self.in_hand) + most_pieces * g.S.Stream.size l.initial.self.source;
}

abbrev pub decreases-loop-piece : goal.decreases-loop-piece
decreases-loop-piece g l = g.S.Stream.size l.self.source
