use Rattle.std.proofs.Common.{◌≡◌, ◌-◌, ◌≤◌, ◌<◌, ℕ, length, get_or, true}
use Rattle.std.specs.Char.{is_ascii_graphic}
use Rattle.deck_text.proofs.tokens.run_end.Given as goal

abbrev pub invariant-loop-end : goal.invariant-loop-end
invariant-loop-end l = record {
  forward : l.at < l.end;
  within : l.end ≤ length l.line;
  run : (k : ℕ) → l.at < k → k < l.end → is_ascii_graphic (get_or l.line k 0) ≡ true;
}

abbrev pub decreases-loop-end : goal.decreases-loop-end
decreases-loop-end l = length l.line - l.end
