use Rattle.std.proofs.Common.{◌≡◌, ◌-◌, ◌≤◌, length, drop}
use Rattle.deck_text.specs.Lines.{lines_of}
use Rattle.deck_text.specs.SaidViews.{said_views}
use Rattle.deck_text.specs.Indexes.{IsIndexOf}
use Rattle.deck_text.proofs.Steps.{IsReadUpTo}
use Rattle.deck_text.proofs.reading.statements.Given as goal

abbrev pub invariant-loop-at : goal.invariant-loop-at
invariant-loop-at l = record {
  within : l.at ≤ length l.bytes;
  counted : l.lines ≤ l.at;
  rest : drop l.lines (lines_of l.bytes) ≡ lines_of (drop l.at l.bytes);
  read : IsReadUpTo l.names.layout.now l.names.deck.now (lines_of l.bytes) l.lines (said_views l.saids.items);
  index : IsIndexOf (said_views l.saids.items) l.index;
}

abbrev pub decreases-loop-at : goal.decreases-loop-at
decreases-loop-at l = length l.bytes - l.at
