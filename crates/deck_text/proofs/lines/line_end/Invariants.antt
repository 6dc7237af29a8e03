use Rattle.std.proofs.Common.{◌≢◌, ◌-◌, ◌≤◌, ◌<◌, ℕ, length, get_or}
use Rattle.deck_text.proofs.lines.line_end.Given as goal

abbrev pub invariant-loop-end : goal.invariant-loop-end
invariant-loop-end l = record {
  forward : l.at ≤ l.end;
  within : l.end ≤ length l.bytes;
  line : (k : ℕ) → l.at ≤ k → k < l.end → get_or l.bytes k 0 ≢ 10;
}

abbrev pub decreases-loop-end : goal.decreases-loop-end
decreases-loop-end l = length l.bytes - l.end
