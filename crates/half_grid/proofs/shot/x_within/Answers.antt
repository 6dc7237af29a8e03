use Rattle.std.proofs.Common.{◌≡◌, true, false, FitsSigned, w64, rules}
use Rattle.std.proofs.lemmas.Int.{to_z-of_z}
use Rattle.half_grid.proofs.ReachLemmas.{strip_within}
use Rattle.half_grid.proofs.shot.x_within.Goals as goal

pub returns-then-not-is_within_reach : goal.returns-then-not-is_within_reach
returns-then-not-is_within_reach c = λ within.
    let fits : FitsSigned w64 c.first_strip.result = search rules in
    let no : false ≡ true = c.if-not-is_within_reach.ensures.1
    (rw (to_z-of_z w64 c.first_strip.result fits, c.first_strip.ensures)
    (strip_within c.args.line c.args.y c.requires within)) in
    let contradiction : ⊥ = cc in contradiction
