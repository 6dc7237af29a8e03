use Rattle.std.proofs.Common.{◌≡◌}
use Rattle.trap_join.specs.Joins.{HasGiven, left_to_give}
use Rattle.bench.proofs.uniting.joined.Given as goal

-- the join has given what was taken
abbrev pub invariant-loop-traps : goal.invariant-loop-traps
invariant-loop-traps g l = record {
  given : HasGiven (λ a b r. g.F.Fn.post l.fn.scan.rule (a, (b, tt)) r) l.join l.traps.items;
  rule : l.join.rule ≡ l.fn.scan.rule;
  edges : l.join.edges ≡ l.fn.scan.edges;
  window : l.join.window ≡ l.fn.scan.window;
}

abbrev pub decreases-loop-traps : goal.decreases-loop-traps
decreases-loop-traps g l = left_to_give l.join
