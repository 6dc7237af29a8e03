use Rattle.field_split.proofs.LookLemmas.{HoldsOfFirst, HasLow, HasHigh, IsBetween}
use Rattle.field_split.proofs.looks.stripes.Given as goal

abbrev pub invariant-loop-shot : goal.invariant-loop-shot
invariant-loop-shot l =
    record {
      low : HasLow l.shots l.low;
      high : HasHigh l.shots l.high;
      between : HoldsOfFirst
          (IsBetween l.low l.high) l.shots l.shot-index;
    }
