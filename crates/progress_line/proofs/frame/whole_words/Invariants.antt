use Rattle.std.proofs.Common.{◌≡◌, ◌≤◌}
use Rattle.progress_line.specs.Frames.{whole_words}
use Rattle.progress_line.proofs.frame.whole_words.Given as goal

abbrev pub invariant-loop-end : goal.invariant-loop-end
invariant-loop-end l = record {
  words : whole_words l.line l.columns ≡ whole_words l.line l.end;
  within : l.end ≤ l.columns;
}

abbrev pub decreases-loop-end : goal.decreases-loop-end
decreases-loop-end l = l.end
